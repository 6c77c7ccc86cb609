-- There are few kept links: the counts of a record never come to their end
use Rattle.std.proofs.Common.{ℕ, suc, ◌*◌, ◌≤◌, Bool, true, false, cond, not, ◌&&◌, ltb, List, [], ◌∷◌, length, Some, None, Option, mul-le-mul, arith}
use Rattle.floor.specs.declared.node.Node.{Node}
use Rattle.floor.specs.declared.node.Radio.{Radio}
use Rattle.std.specs.List.{list_any}
use Rattle.kept.proofs.Counting.{filter_few}
use Rattle.floor.specs.Numbers.{differ}
use Rattle.floor.specs.Meaning.{Meaning, radio, hear, heard, heard_by, neighbours}
use Rattle.floor.specs.Planar.{Blocks}
use Rattle.kept.specs.Kept.{kept_of, kept_neighbours, kept_from, kept_links}

heard_few : (reach i : ℕ) (p : Radio) (j : ℕ) (qs : List Radio) → length (heard reach i p j qs) ≤ length qs
heard_few reach i p j [] = omega arith
heard_few reach i p j (q ∷ qs) = go (differ i j && hear reach p q) (heard_few reach i p (suc j) qs)
  where
    go : (u : Bool) → length (heard reach i p (suc j) qs) ≤ length qs
        → length (cond u (record { number = j; point = q.point } ∷ heard reach i p (suc j) qs) (heard reach i p (suc j) qs)) ≤ suc (length qs)
    go true h = omega arith
    go false h = omega arith

neighbours_few : (m : Meaning) (i : ℕ) → length (neighbours m i) ≤ length m.nodes
neighbours_few m i = go (radio m i)
  where
    go : (o : Option Radio) → length (heard_by m i o) ≤ length m.nodes
    go None = omega arith
    go (Some p) = heard_few m.reach i p 0 m.nodes

kept_few : (b : Blocks) (m : Meaning) (i : ℕ) → length (kept_neighbours b m i) ≤ length m.nodes
kept_few b m i = go (radio m i)
  where
    go : (o : Option Radio) → length (kept_of b (neighbours m i) o) ≤ length m.nodes
    go None = omega arith
    go (Some p) =
        let h = filter_few (λ (v : Node). not (list_any (λ (w : Node). differ w.number v.number && b p.point v.point w.point) (neighbours m i))) (neighbours m i) in
        omega (arith, h, neighbours_few m i)

from_few : (b : Blocks) (m : Meaning) (i : ℕ) (ps : List Radio) → kept_from b m i ps ≤ length ps * length m.nodes
from_few b m i [] = omega arith
from_few b m i (p ∷ ps) =
    let h = filter_few (λ (v : Node). ltb i v.number) (kept_neighbours b m i) in
    let l = from_few b m (suc i) ps in
    omega (arith, h, l, kept_few b m i)

pub few_links : (b : Blocks) (m : Meaning) → length m.nodes ≤ 64 → kept_links b m ≤ 4096
few_links b m few = let h = from_few b m 0 m.nodes in omega (arith, h, square (length m.nodes) few)
  where
    square : (n : ℕ) → n ≤ 64 → n * n ≤ 64 * 64
    square n l = mul-le-mul l l
