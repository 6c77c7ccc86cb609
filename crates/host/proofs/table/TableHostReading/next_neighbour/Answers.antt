use Rattle.std.proofs.Common.{◌<◌, ◌≤◌, ℕ, Some, None, Option, ◌≡◌, sym, ◌∙◌, ⊎_elim, arith, rules}
use Rattle.std.proofs.lemmas.Bool.{cases_lt}
use Rattle.floor.specs.declared.node.Node.{Node}
use Rattle.floor.specs.Map.{points_of}
use Rattle.floor.specs.Meaning.{radio, node}
use Rattle.floor.proofs.Charting.{charted}
use Rattle.host.specs.Questions.{next_neighbour}
use Rattle.host.specs.Rows.{NextBit}
use Rattle.host.specs.Storeys.{meaning_of}
use Rattle.host.specs.Radios.{radio_past}
use Rattle.host.proofs.Links.{next_none, next_node, among_past, among_none, through}
use Rattle.host.proofs.table.TableHostReading.next_neighbour.Goals as goal

pub returns : goal.returns
returns c =
    let s = c.args.self.now.storey in
    let m = meaning_of s in
    let i = c.args.i in
    let j = c.args.j in
    let row = c.args.self.now.rows.row in
    let right = c.args.self.now.right in
    let few = (charted s.map).few in
    let past : (k : _) → 64 ≤ k → radio m k ≡ None = λ k h. radio_past (points_of s.map) s.serving k (omega (arith, few)) in
    let r : Option Node = c.and_then.result in
    let none : NextBit row i j None → r ≡ None → r ≡ next_neighbour m i j = λ no is. is ∙ sym (next_none m i j (λ k low.
    ⊎_elim
    (λ (here : i < 64). ⊎_elim
    (λ (place : k < 64). sym (right i k (here, place)) ∙ no k here low place)
    (λ far. among_past m i k (past k far))
    (cases_lt k 64))
    (λ far. among_none m i k (past i far))
    (cases_lt i 64))) in
    let some : (k : ℕ) → NextBit row i j (Some k) → r ≡ node m k → r ≡ next_neighbour m i j = λ k said is. is ∙ sym (next_node m i j k 64
    (said.1, said.2, sym (right i k (said.0, said.2)) ∙ said.3, λ n low lt. sym (right i n (said.0, omega (arith, said.2))) ∙ said.4 n low lt)) in
    through (NextBit row i j) c.next.result _ _ _ c.next.ensures c.and_then.ensures none (λ k said is. some k said (search rules))
