-- Points with a weight. A node of the plane has weight 1, a direction has weight 0, the point (E·s + C·t)/(C + E) has weight C + E.
-- All sign rules are of `det`, so one proof serves points, directions and places.
use mathlib.Core.Bool.{Bool, true, false, not, cond, ◌&&◌, ◌||◌}
use lib.IntN.{ℤ, pos, ◌+ℤ◌, ◌-ℤ◌, ◌*ℤ◌}
use lib.Signed.{lt_z}
use Rattle.plane.specs.Laws.{◌⊕◌}
use Rattle.plane.proofs.Vectors.{Vector}

pub record Site : Type 0 where
  pub x : ℤ
  pub y : ℤ
  pub h : ℤ

abbrev pub node : Vector → Site
node p = record { x = p.x; y = p.y; h = pos 1 }

abbrev pub far : Vector → Site
far d = record { x = d.x; y = d.y; h = pos 0 }

-- the point that divides s t as C to E, with its weight
abbrev pub place : ℤ → ℤ → Vector → Vector → Site
place C E s t = record { x = E *ℤ s.x +ℤ C *ℤ t.x; y = E *ℤ s.y +ℤ C *ℤ t.y; h = E +ℤ C }

abbrev pub det : Site → Site → Site → ℤ
det p q r = p.h *ℤ (q.x *ℤ r.y -ℤ q.y *ℤ r.x) +ℤ q.h *ℤ (r.x *ℤ p.y -ℤ r.y *ℤ p.x) +ℤ r.h *ℤ (p.x *ℤ q.y -ℤ p.y *ℤ q.x)

-- the words of Booleans, as functions
abbrev pub xor : Bool → Bool → Bool
xor a b = a ⊕ b

abbrev pub and : Bool → Bool → Bool
and a b = a && b

abbrev pub or : Bool → Bool → Bool
or a b = a || b

-- most of three
abbrev pub most : Bool → Bool → Bool → Bool
most true b c = or b c
most false b c = and b c

-- r is left of the line from p to q. Shut: 0 counts as no.
unfoldable pub L : Site → Site → Site → Bool
L p q r = lt_z (pos 0) (det p q r)

module _ (o : Site) where
  -- z lies higher than a, across the direction o
  abbrev pub up : Site → Site → Bool
  up a z = L a o z

  -- z lies in the strip between the levels of a and b, right of a b
  abbrev pub In : Site → Site → Site → Bool
  In a b z = and (up a z) (and (up z b) (L b a z))

  -- a is between the levels of lo and hi, and left of lo hi
  abbrev pub seg : Site → Site → Site → Bool
  seg a lo hi = and (up lo a) (and (up a hi) (L lo hi a))

  -- the ray from a along o meets the link u v
  abbrev pub hit : Site → Site → Site → Bool
  hit a u v = cond (up u v) (seg a u v) (seg a v u)

  -- what a dart u v adds
  abbrev pub De : Site → Site → Site → Site → Bool
  De a b u v = xor (In a b u) (xor (In a b v) (xor (hit a u v) (hit b u v)))

  abbrev pub Sa : Site → Site → Site → Bool
  Sa a b w = and (up a w) (L b a w)

  abbrev pub Sb : Site → Site → Site → Bool
  Sb a b w = and (up w b) (L b a w)

abbrev pub crossing : Site → Site → Site → Site → Bool
crossing a b u v = and (xor (L a b u) (L a b v)) (xor (L u v a) (L u v b))

-- seen from v, x lies strictly inside the clockwise arc from p to q; for p the same as q: any x but p
abbrev pub inside : Site → Site → Site → Site → Bool
inside v p x q = most (L v x p) (L v q x) (not (L v q p))
