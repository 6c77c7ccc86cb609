-- Nodes in general position, and a direction along no two of them
use mathlib.Core.Path.{◌≡◌}
use mathlib.Core.Bool.{Bool, true, false}
use mathlib.Core.HLevel.{Discrete}
use lib.IntN.{pos}
use Rattle.plane.proofs.Vectors.{Vector}
use Rattle.plane.proofs.Sites.{Site, det, node, far}

abbrev pub Off : Site → Site → Site → Type 0
Off p q r = ¬ (det p q r ≡ pos 0)

abbrev pub is : {X : Type 0} → Dec X → Bool
is (yes x) = true
is (no n) = false

-- nodes, different ones at points no three of which are on one line, and a direction that is along no two of them
pub record Floor (I : Type 0) (at' : I → Vector) (d : Vector) : Type 0 where
  pub same? : Discrete I
  pub off : (i j k : I) → ¬ (i ≡ j) → ¬ (i ≡ k) → ¬ (j ≡ k) → Off (node (at' i)) (node (at' j)) (node (at' k))
  pub along : (i j : I) → ¬ (i ≡ j) → Off (node (at' i)) (node (at' j)) (far d)
