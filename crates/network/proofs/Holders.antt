-- Where a packet is held: at its source, then at each send's receiver
use Rattle.std.proofs.Common.{◌≡◌, ℕ, eqb, List, Some, None, Option, sym, refl, ap, ◌∙◌}
use Rattle.std.proofs.lemmas.Bool.{cond_both}
use Rattle.floor.specs.declared.node.Node.{Node}
use Rattle.floor.specs.declared.node.Radio.{Radio}
use Rattle.floor.specs.Meaning.{Meaning, radio, neighbours, known_as}
use Rattle.floor.specs.Planar.{Blocks}
use Rattle.face.specs.declared.record.Link.{Link}
use Rattle.face.specs.declared.record.Record.{Record}
use Rattle.face.specs.Packet.{Verdict, GoesOn, Ends, Stale, verdict, under, received, sent_along, send, opened_to, opened_at, opened_between, opening}
use Rattle.kept.specs.Kept.{kept}
use Rattle.network.proofs.Options.{unsome}

under_holder : (r : Record) (v : ℕ) (w : Verdict) → (under r v w).holder ≡ v
under_holder r v (GoesOn w c) = refl
under_holder r v (Ends e c) = refl
under_holder r v Stale = refl

received_holder : (b : Blocks) (r : Record) (k : Link) (o : Option Radio) (near : List Node) → (received b r k (known_as k.to o) near).holder ≡ k.to
received_holder b r k None near = refl
received_holder b r k (Some p) near = under_holder r k.to (verdict (record { number = k.to; point = p.point }) (kept b p.point near) r k.from)

pub sent_holder : (b : Blocks) (m : Meaning) (r : Record) (k : Link) → r.hand ≡ Some k → (send b m r).holder ≡ k.to
sent_holder b m r k hand = ap (λ (o : Option Link). (sent_along b m r o).holder) hand ∙ received_holder b r k (radio m k.to) (neighbours m k.to)

opened_to_holder : (s t : Node) (o : Option Node) → (opened_to s t o).holder ≡ s.number
opened_to_holder s t None = refl
opened_to_holder s t (Some w) = refl

opened_holder : (b : Blocks) (s t : Node) (near : List Node) → (opened_at b s t near).holder ≡ s.number
opened_holder b s t near = cond_both (eqb s.number t.number) _ _ (λ (r : Record). r.holder ≡ s.number) (λ _. refl) (λ _. opened_to_holder s t _)

between_holder : (b : Blocks) (s t : ℕ) (p q : Option Radio) (near : List Node) (r : Record) → opened_between b (known_as s p) (known_as t q) near ≡ Some r → r.holder ≡ s
between_holder b s t None q near r h = cc
between_holder b s t (Some p) None near r h = cc
between_holder b s t (Some p) (Some q) near r h =
    sym (ap (λ (x : Record). x.holder) (unsome _ r h)) ∙ opened_holder b (record { number = s; point = p.point }) (record { number = t; point = q.point }) near

pub opening_holder : (b : Blocks) (m : Meaning) (s t : ℕ) (r : Record) → opening b m s t ≡ Some r → r.holder ≡ s
opening_holder b m s t r h = between_holder b s t (radio m s) (radio m t) (neighbours m s) r h
