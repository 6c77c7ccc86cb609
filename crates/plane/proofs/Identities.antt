use mathlib.Core.Path.{◌≡◌}
use mathlib.Core.List.{List, [], ◌∷◌}
use lib.IntN.{ℤ, pos, ◌+ℤ◌, ◌-ℤ◌, ◌*ℤ◌}
use Rattle.plane.proofs.Vectors.{Vector, cross, turn, inner}
use Rattle.plane.proofs.Ring.{E, var, add, mul, sub, lit, ring}

-- points and the same operations, as expressions
pub record Vectorᵉ : Type 0 where
  pub x : E
  pub y : E

abbrev pub diffᵉ : Vectorᵉ → Vectorᵉ → Vectorᵉ
diffᵉ a b = record { x = sub a.x b.x; y = sub a.y b.y }

abbrev pub crossᵉ : Vectorᵉ → Vectorᵉ → E
crossᵉ u v = sub (mul u.x v.y) (mul u.y v.x)

abbrev pub dotᵉ : Vectorᵉ → Vectorᵉ → E
dotᵉ u v = add (mul u.x v.x) (mul u.y v.y)

abbrev pub turnᵉ : Vectorᵉ → Vectorᵉ → Vectorᵉ → E
turnᵉ a b c = crossᵉ (diffᵉ b a) (diffᵉ c a)

abbrev pub innerᵉ : Vectorᵉ → Vectorᵉ → Vectorᵉ → E
innerᵉ a b c = dotᵉ (diffᵉ a c) (diffᵉ b c)

-- the first four points
abbrev pub A : Vectorᵉ
A = record { x = var 0; y = var 1 }

abbrev pub B : Vectorᵉ
B = record { x = var 2; y = var 3 }

abbrev pub C : Vectorᵉ
C = record { x = var 4; y = var 5 }

abbrev pub D : Vectorᵉ
D = record { x = var 6; y = var 7 }

abbrev pub env : Vector → Vector → Vector → Vector → List ℤ
env a b c d = a.x ∷ a.y ∷ b.x ∷ b.y ∷ c.x ∷ c.y ∷ d.x ∷ d.y ∷ []

-- three products of cross products
pub plücker : (x y z w : Vector) → cross x y *ℤ cross z w +ℤ cross y z *ℤ cross x w +ℤ cross z x *ℤ cross y w ≡ pos 0
plücker x y z w = ring (env x y z w)
    (add (add (mul (crossᵉ A B) (crossᵉ C D)) (mul (crossᵉ B C) (crossᵉ A D))) (mul (crossᵉ C A) (crossᵉ B D))) (lit (pos 0)) tt

-- turns and inner products of four points
pub quad : (a b c d : Vector) → turn a b d *ℤ inner a b c -ℤ turn a b c *ℤ inner a b d -ℤ turn c d b *ℤ inner c d a +ℤ turn c d a *ℤ inner c d b ≡ pos 0
quad a b c d = ring (env a b c d)
    (add (sub (sub (mul (turnᵉ A B D) (innerᵉ A B C)) (mul (turnᵉ A B C) (innerᵉ A B D))) (mul (turnᵉ C D B) (innerᵉ C D A))) (mul (turnᵉ C D A) (innerᵉ C D B))) (lit (pos 0)) tt
