-- What the proofs about faces take from the plane: four identities, and what signs of turns they force.
use Rattle.std.specs.Prelude.{◌≡◌, Bool, true, false, not, cond, ◌&&◌, ◌⊎◌, ◌≢◌, pos, ◌+ℤ◌, ◌-ℤ◌, ◌*ℤ◌, ◌<ℤ◌, ◌≤ℤ◌}
use Rattle.plane.specs.declared.Point.{Point}
use Rattle.plane.specs.Plane.{Vector, way, cross, turn, inner, positive}

infixl 32 ◌⊕◌
-- exclusive or
abbrev pub ◌⊕◌ : Bool → Bool → Bool
true ⊕ b = not b
false ⊕ b = b

-- c is left of the way from a to b
abbrev pub left : Point → Point → Point → Bool
left a b c = positive (turn a b c)

-- the lines a b and u v separate each other's ends
abbrev pub cross_over : Point → Point → Point → Point → Bool
cross_over a b u v = (left a b u ⊕ left a b v) && (left u v a ⊕ left u v b)

-- with a direction d, as a point at infinity
module _ (d : Vector) where
  -- z is above a, looking along d
  abbrev pub above : Point → Point → Bool
  above a z = positive (cross d (way a z))

  -- z is between the levels of a and b, and right of the way from a to b
  abbrev pub in_strip : Point → Point → Point → Bool
  in_strip a b z = above a z && (above z b && left b a z)

  -- a is between the levels of lo and hi, and left of the way from lo to hi
  abbrev pub sees : Point → Point → Point → Bool
  sees a lo hi = above lo a && (above a hi && left lo hi a)

  -- the ray from a along d meets the link u v
  abbrev pub hit : Point → Point → Point → Bool
  hit a u v = cond (above u v) (sees a u v) (sees a v u)

-- no three of four points on one line, and no two of them along d
pub record Spread (d : Vector) (a b u v : Point) : Type 0 where
  pub abu : turn a b u ≢ pos 0
  pub abv : turn a b v ≢ pos 0
  pub auv : turn a u v ≢ pos 0
  pub buv : turn b u v ≢ pos 0
  pub ab : cross d (way a b) ≢ pos 0
  pub au : cross d (way a u) ≢ pos 0
  pub av : cross d (way a v) ≢ pos 0
  pub bu : cross d (way b u) ≢ pos 0
  pub bv : cross d (way b v) ≢ pos 0
  pub uv : cross d (way u v) ≢ pos 0

pub record PlaneLaws : Type 0 where
  -- Plücker
  pub three_products : (x y z w : Vector) → cross x y *ℤ cross z w +ℤ cross y z *ℤ cross x w +ℤ cross z x *ℤ cross y w ≡ pos 0
  -- affine
  pub three_turns : (a b c d : Point) → turn a b c ≡ turn a b d +ℤ turn b c d +ℤ turn c a d
  -- discs
  pub four_discs : (a b c d : Point) → turn a b d *ℤ inner a b c -ℤ turn a b c *ℤ inner a b d -ℤ turn c d b *ℤ inner c d a +ℤ turn c d a *ℤ inner c d b ≡ pos 0
  -- meet: the lines u v and s t, measured against any line p q
  pub meeting_point : (s t u v p q : Point) → turn s t v *ℤ turn p q u -ℤ turn s t u *ℤ turn p q v ≡ turn u v s *ℤ turn p q t -ℤ turn u v t *ℤ turn p q s
  -- of two links that cross, one has an end in the closed disc over the other
  pub an_end_in_a_disc : (a b c d : Point) → turn a b c <ℤ pos 0 → pos 0 <ℤ turn a b d → pos 0 <ℤ turn c d a → turn c d b <ℤ pos 0
      → (inner a b c ≤ℤ pos 0) ⊎ (inner a b d ≤ℤ pos 0) ⊎ (inner c d a ≤ℤ pos 0) ⊎ (inner c d b ≤ℤ pos 0)
  -- the strip: u and v in it, the rays from a and b that meet u v, and a crossing add up to an even number
  pub strip : (d : Vector) (a b u v : Point) → Spread d a b u v → above d a b ≡ true
      → in_strip d a b u ⊕ (in_strip d a b v ⊕ (hit d a u v ⊕ hit d b u v)) ≡ cross_over a b u v
