-- General position, of any numbered points.
use Rattle.std.specs.Prelude.{◌≡◌, ℕ, ◌≢◌, pos, Some, Option}
use Rattle.plane.specs.declared.Point.{Point}
use Rattle.plane.specs.Plane.{turn, InRange}

-- coordinates in range, different nodes at different points, no three on one line
pub record GeneralPosition (at : ℕ → Option Point) : Type 0 where
  pub in_range : (i : ℕ) (p : Point) → at i ≡ Some p → InRange p
  pub apart : (i j : ℕ) (p q : Point) → i ≢ j → at i ≡ Some p → at j ≡ Some q → p ≢ q
  pub bent : (i j k : ℕ) (p q r : Point) → i ≢ j → j ≢ k → i ≢ k → at i ≡ Some p → at j ≡ Some q → at k ≡ Some r → turn p q r ≢ pos 0
