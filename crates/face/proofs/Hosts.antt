-- Over a host: known neighbours, opening, and locality.
use Rattle.std.proofs.Common.{◌≡◌, ℕ, eqb, ◌≢◌, List, [], ◌∷◌, is_some, Some, Option, sym, refl, ap, ◌∙◌, subst, arith}
use mathlib.Core.Path.{fun_ext}
use Rattle.std.proofs.lemmas.Bool.Decides.{nat_tests}
use Rattle.floor.specs.declared.node.Node.{Node}
use Rattle.floor.specs.declared.node.Radio.{Radio}
use Rattle.std.specs.List.{find}
use Rattle.floor.specs.Meaning.{Meaning, Mapped, radio, place_of, is_among}
use Rattle.kept.specs.Kept.{node_at, node_or_origin}
use Rattle.face.specs.declared.record.Record.{Record}
use Rattle.face.specs.Packet.{received, sent_along}
use Rattle.face.specs.Hand.{SendsAreLocal}

-- ---- among the neighbours, or found there

pub found_among : (j : ℕ) (ns : List Node) → is_among ns j ≡ is_some (find (λ (k : Node). eqb k.number j) ns)
found_among j [] = refl
found_among j (n ∷ ns) = grind (arith, nat_tests, found_among j ns)

-- ---- opening

-- a target that is another node is not where the source is
pub target_apart : (m : Meaning) (s t : ℕ) (p q : Radio) → radio m s ≡ Some p → radio m t ≡ Some q → Mapped m → (node_at m s).number ≢ t → q.point ≢ (node_at m s).point
target_apart m s t p q e d mapped =
    subst (λ (o : Option Radio). (node_or_origin s o).number ≢ t → q.point ≢ (node_or_origin s o).point) (sym e)
    λ other same. mapped.general.apart t s q.point p.point (λ h. other (sym h)) (ap place_of d) (ap place_of e) same

-- ---- locality

pub sends_are_local : SendsAreLocal
sends_are_local b c m n r s l alike same hand there near =
    let answers : b ≡ c = fun_ext (λ x. fun_ext (λ y. fun_ext (λ z. alike x y z))) in
    ap (sent_along b m r) hand ∙ (λ i. received (answers i) (same i) l (there i) (near i)) ∙ sym (ap (sent_along c n s) (sym (ap (λ (k : Record). k.hand) same) ∙ hand))
