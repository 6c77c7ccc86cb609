-- The laws of the plane, in the words of points
use mathlib.Core.Path.{◌≡◌, refl, sym, ◌∙◌, ap}
use mathlib.Core.Bool.{true}
use mathlib.Core.Logic.{◌≢◌}
use lib.IntN.{pos, ◌+ℤ◌}
use lib.Signed.{◌<ℤ◌}
use Rattle.plane.specs.declared.Point.{Point}
use Rattle.plane.specs.Plane.{way, positive}
use Rattle.plane.specs.Laws.{left, above, in_strip, hit, cross_over, Spread, PlaneLaws, ◌⊕◌}
use Rattle.plane.proofs.Vectors.{Vector, cross, turn, position}
use Rattle.plane.proofs.Sites.{Site, node, far, L}
use Rattle.plane.proofs.Ring.{add, ring}
use Rattle.plane.proofs.Identities.{plücker, quad, turnᵉ, A, B, C, D, env}
use Rattle.plane.proofs.Facts.{crossing_disc}
use Rattle.plane.proofs.Determinants.{det_turn, det_far}
use Rattle.plane.proofs.Strip.{Off, General, dart, off_flip}
use Rattle.plane.proofs.SamePlace.{meet}

three_turns : (a b c d : Vector) → turn a b c ≡ turn a b d +ℤ turn b c d +ℤ turn c a d
three_turns a b c d = ring (env a b c d) (turnᵉ A B C) (add (add (turnᵉ A B D) (turnᵉ B C D)) (turnᵉ C A D)) tt

abbrev at : Point → Site
at p = node (position p)

pub left_is : (a b c : Point) → L (at a) (at b) (at c) ≡ left a b c
unfolding L
left_is a b c = ap positive (det_turn (position a) (position b) (position c))

pub above_is : (d : Vector) (a z : Point) → L (at a) (far d) (at z) ≡ above d a z
unfolding L
above_is d a z = ap positive (det_far (position a) d (position z))

pub off_turn : (a b c : Point) → turn (position a) (position b) (position c) ≢ pos 0 → Off (at a) (at b) (at c)
off_turn a b c n e = n (sym (det_turn (position a) (position b) (position c)) ∙ e)

pub off_above : (d : Vector) (a z : Point) → cross d (way a z) ≢ pos 0 → Off (at a) (at z) (far d)
off_above d a z n = off_flip (at a) (far d) (at z) (λ e. n (sym (det_far (position a) d (position z)) ∙ e))

one : pos 0 <ℤ pos 1
one = record { lt = tt }

general : (d : Vector) (a b u v : Point) → Spread d a b u v → General (at a) (at b) (at u) (at v) (far d)
general d a b u v s = record {
  frame = record { ha = one; hy = one; hu = one; hv = one; ho = refl };
  ayu = off_turn a b u s.abu;
  ayv = off_turn a b v s.abv;
  ayo = off_above d a b s.ab;
  auv = off_turn a u v s.auv;
  auo = off_above d a u s.au;
  avo = off_above d a v s.av;
  yuv = off_turn b u v s.buv;
  yuo = off_above d b u s.bu;
  yvo = off_above d b v s.bv;
  uvo = off_above d u v s.uv;
}

strip : (d : Vector) (a b u v : Point) → Spread d a b u v → above d a b ≡ true
    → in_strip d a b u ⊕ (in_strip d a b v ⊕ (hit d a u v ⊕ hit d b u v)) ≡ cross_over a b u v
strip d a b u v s h =
    simp (above_is, left_is) at (dart (at a) (at b) (at u) (at v) (far d) (general d a b u v s) (above_is d a b ∙ h))

pub plane_laws : PlaneLaws
plane_laws = record {
  three_products = plücker;
  three_turns = λ a b c d. three_turns (position a) (position b) (position c) (position d);
  four_discs = λ a b c d. quad (position a) (position b) (position c) (position d);
  meeting_point = λ s t u v p q. meet (position s) (position t) (position u) (position v) (position p) (position q);
  an_end_in_a_disc = λ a b c d. crossing_disc (position a) (position b) (position c) (position d);
  strip = strip;
}
