use Rattle.std.proofs.Common.{◌≡◌, ℕ, ◌<◌, ◌≤◌, true, false, Option, MatchOption, rules, sym, ◌∙◌, ⊎_elim, arith}
use Rattle.std.proofs.lemmas.Bool.{cases_lt}
use Rattle.std.proofs.lemmas.Iterator.{first_from_Range}
use Rattle.floor.specs.declared.node.Node.{Node}
use Rattle.floor.specs.Map.{points_of}
use Rattle.floor.specs.Meaning.{neighbours, is_among, node}
use Rattle.host.specs.Storeys.{meaning_of}
use Rattle.host.specs.Radios.{radio_past, length_radios}
use Rattle.host.proofs.Links.{next_none, next_node, among_past, through}
use Rattle.host.proofs.scan.ScanHostReading.next_neighbour.Goals as goal

pub returns : goal.returns
returns c =
    let s = c.args.self.now.storey in
    let m = meaning_of s in
    let i = c.args.i in
    let j = c.args.j in
    let end = c.count.result in
    let near : ℕ → Type 0 = λ k. is_among (neighbours m i) k ≡ true in
    let far : ℕ → Type 0 = λ k. is_among (neighbours m i) k ≡ false in
    let count = c.count.ensures ∙ length_radios (points_of s.map) s.serving in
    let r : Option Node = c.and_then.result in
    through (λ (o : Option ℕ). MatchOption o ((k : ℕ) → j ≤ k → k < end → far k) (λ n. (j ≤ n) × (n < end) × near n × ((k : ℕ) → j ≤ k → k < n → far k)))
    c.find.result _ _ _ (first_from_Range _ _ _ c.find.result near far c.find.ensures.ran (λ x q e. search rules) (λ x q e. search rules)) c.and_then.ensures
    (λ no is. is ∙ sym (next_none m i j (λ k low.
    ⊎_elim
    (no k low)
    (λ past. among_past m i k (radio_past (points_of s.map) s.serving k (omega (arith, count))))
    (cases_lt k end))))
    (λ k said is. let there : r ≡ node m k = search rules in there ∙ sym (next_node m i j k end said))
