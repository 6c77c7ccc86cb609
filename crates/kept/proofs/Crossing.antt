-- Kept links do not cross
use Rattle.std.proofs.Common.{◌≡◌, ℕ, zero, suc, Bool, true, false, not, ◌&&◌, ℤ, pos, negsuc, ◌*ℤ◌, neg_ℤ, nat_abs, ◌≤ℤ◌, Some, sym, refl, ap, ◌∙◌, ap₂, inl, inr, true≢false, arith}
use native.Mathlib.Decide.{ℕ_discrete}
use lib.IntN.{zero-*ℤ, *ℤ-zero, *ℤ_comm}
use lib.Signed.{lt_z}
use borrow.Author.Differences.{ints, true_is_lt, false_is_lt}
use Rattle.plane.specs.declared.Point.{Point}
use Rattle.plane.specs.Plane.{turn, inner}
use Rattle.plane.proofs.Vectors.{Vector, position}
use Rattle.plane.proofs.Vectors as vectors
use Rattle.plane.proofs.Ring.{ring, lit}
use Rattle.plane.proofs.Identities.{turnᵉ, A, B, env}
use Rattle.plane.proofs.Sites.{Site, node, L, xor, and, crossing}
use Rattle.plane.proofs.Determinants.{det_turn}
use Rattle.plane.proofs.Signs.{St, Strict, eqB, st_mul, neg_mul_neg}
use Rattle.plane.proofs.Facts.{turn_swap}
use Rattle.plane.proofs.General.{Off}
use Rattle.plane.proofs.Discs.{turn_sign, crossing_discs}
use Rattle.floor.specs.Meaning.{Meaning, Serving, serving_at}
use Rattle.floor.specs.Planar.{Blocks, Lawful}
use Rattle.kept.specs.Kept.{Kept}
use Rattle.kept.specs.Laws.{strictly_cross, KeptLinksDoNotCross}
use Rattle.kept.proofs.Lists.{fails, holds}
use Rattle.kept.proofs.Near.{both, one_point}
use Rattle.kept.proofs.Graph.{kept_clear, points_apart}

-- ---- signs of turns, as the plane's lemmas read them
abbrev pub at : Point → Site
at p = node (position p)

turn_off : (a b c : Point) → ¬ (turn a b c ≡ pos 0) → Off (at a) (at b) (at c)
turn_off a b c n e = n (sym (det_turn (position a) (position b) (position c)) ∙ e)

negative_is : (b : Bool) (w : ℤ) → Strict b w → lt_z w (pos 0) ≡ not b
negative_is true w h = sym (false_is_lt w (pos 0) (omega (arith, ints)))
negative_is false w h = sym (true_is_lt w (pos 0) (omega (arith, ints)))

opposite_is : {p q : Bool} (y z : ℤ) → St p y → St q z → lt_z (y *ℤ z) (pos 0) ≡ xor p q
opposite_is {p = p} {q = q} y z s t = negative_is (eqB p q) (y *ℤ z) (st_mul s t).is ∙ flip p q
  where
    flip : (p q : Bool) → not (eqB p q) ≡ xor p q
    flip true q = refl
    flip false true = refl
    flip false false = refl

-- for four different nodes, the test of the rules is the crossing of the plane's lemmas
pub cross_is : (a b c d : Point) → Off (at a) (at b) (at c) → Off (at a) (at b) (at d) → Off (at c) (at d) (at a) → Off (at c) (at d) (at b)
    → strictly_cross a b c d ≡ crossing (at a) (at b) (at c) (at d)
cross_is a b c d abc abd cda cdb =
    ap₂ ◌&&◌
    (opposite_is (turn a b c) (turn a b d) (turn_sign (position a) (position b) (position c) abc) (turn_sign (position a) (position b) (position d) abd))
    (opposite_is (turn c d a) (turn c d b) (turn_sign (position c) (position d) (position a) cda) (turn_sign (position c) (position d) (position b) cdb))
    ∙ go (xor (L (at a) (at b) (at c)) (L (at a) (at b) (at d))) (xor (L (at c) (at d) (at a)) (L (at c) (at d) (at b)))
  where
    go : (p q : Bool) → (p && q) ≡ and p q
    go true q = refl
    go false q = refl

-- opposite turns are not 0
flat_left : (y z : ℤ) → y ≡ pos 0 → lt_z (y *ℤ z) (pos 0) ≡ false
flat_left y z e = ap (λ w. lt_z w (pos 0)) (ap (λ w. w *ℤ z) e ∙ zero-*ℤ z)

flat_right : (y z : ℤ) → z ≡ pos 0 → lt_z (y *ℤ z) (pos 0) ≡ false
flat_right y z e = ap (λ w. lt_z w (pos 0)) (ap (λ w. y *ℤ w) e ∙ *ℤ-zero y)

pub cross_off : (a b c d : Point) → strictly_cross a b c d ≡ true → Off (at a) (at b) (at c) × Off (at a) (at b) (at d) × Off (at c) (at d) (at a) × Off (at c) (at d) (at b)
cross_off a b c d e =
    let (f, g) = both e in (
      turn_off a b c (λ z. true≢false (sym f ∙ flat_left (turn a b c) (turn a b d) z)),
      turn_off a b d (λ z. true≢false (sym f ∙ flat_right (turn a b c) (turn a b d) z)),
      turn_off c d a (λ z. true≢false (sym g ∙ flat_left (turn c d a) (turn c d b) z)),
      turn_off c d b (λ z. true≢false (sym g ∙ flat_right (turn c d a) (turn c d b) z)),
    )

pub cross_sites : (a b c d : Point) → strictly_cross a b c d ≡ true → crossing (at a) (at b) (at c) (at d) ≡ true
cross_sites a b c d e = let (f, g, h, k) = cross_off a b c d e in sym (cross_is a b c d f g h k) ∙ e

-- the other way along the second link
pub cross_back : (a b c d : Point) → strictly_cross a b c d ≡ strictly_cross a b d c
cross_back a b c d = ap₂ (λ y z. lt_z y (pos 0) && lt_z z (pos 0)) (*ℤ_comm (turn a b c) (turn a b d))
    (sym (neg_mul_neg (turn c d a) (turn c d b)) ∙ sym (ap₂ ◌*ℤ◌ (turn_swap (position c) (position d) (position a)) (turn_swap (position c) (position d) (position b))))

pub size_back : (c d a : Point) → nat_abs (turn d c a) ≡ nat_abs (turn c d a)
size_back c d a = ap nat_abs (turn_swap (position c) (position d) (position a)) ∙ minus (turn c d a)
  where
    minus : (z : ℤ) → nat_abs (neg_ℤ z) ≡ nat_abs z
    minus (pos zero) = refl
    minus (pos (suc n)) = refl
    minus (negsuc n) = refl

still_first : (a b : Vector) → vectors.turn a b a ≡ pos 0
still_first a b = ring (env a b a a) (turnᵉ A B A) (lit (pos 0)) tt

still_second : (a b : Vector) → vectors.turn a b b ≡ pos 0
still_second a b = ring (env a b a a) (turnᵉ A B B) (lit (pos 0)) tt

module _ (b : Blocks) (m : Meaning) (l : Lawful b) (g : Serving m) where
  -- three nodes in service
  pub three_off : (i j k : ℕ) (p q r : Point) → ¬ (i ≡ j) → ¬ (i ≡ k) → ¬ (j ≡ k) → serving_at m i ≡ Some p → serving_at m j ≡ Some q → serving_at m k ≡ Some r → Off (at p) (at q) (at r)
  three_off i j k p q r ij ik jk e f h = turn_off p q r (g.general.bent i j k p q r ij jk ik e f h)

  -- no end of one kept link lies in the disc of another
  out_of_disc : (i j k : ℕ) (p q r : Point) → ¬ (k ≡ i) → ¬ (k ≡ j) → serving_at m i ≡ Some p → serving_at m j ≡ Some q → serving_at m k ≡ Some r
      → Kept b m i j → ¬ (inner p q r ≤ℤ pos 0)
  out_of_disc i j k p q r ki kj e f h kept d =
      let (s, clear) = kept_clear b m l g i j kept in
      true≢false (sym (holds (l.in_the_disc p q r (points_apart b m l g i j p q s.apart e f) (points_apart b m l g i k p r (λ z. ki (sym z)) e h) (points_apart b m l g j k q r (λ z. kj (sym z)) f h) d.le))
      ∙ clear k p q r ki kj e f h)

  module _ (i j k o : ℕ) (p q r s : Point) (ei : serving_at m i ≡ Some p) (ej : serving_at m j ≡ Some q) (ek : serving_at m k ≡ Some r) (eo : serving_at m o ≡ Some s)
      (ij : Kept b m i j) (ko : Kept b m k o) where
    ends_apart : ¬ (i ≡ k) → ¬ (i ≡ o) → ¬ (j ≡ k) → ¬ (j ≡ o) → strictly_cross p q r s ≡ true → ⊥
    ends_apart ik io jk jo e =
        let (x, y, z, w) = cross_off p q r s e in
        elim (crossing_discs (position p) (position q) (position r) (position s) x y z w (cross_sites p q r s e)) [
          | inl d ↦ out_of_disc i j k p q r (λ t. ik (sym t)) (λ t. jk (sym t)) ei ej ek ij d
          | inr (inl d) ↦ out_of_disc i j o p q s (λ t. io (sym t)) (λ t. jo (sym t)) ei ej eo ij d
          | inr (inr (inl d)) ↦ out_of_disc k o i r s p ik io ek eo ei ko d
          | inr (inr (inr d)) ↦ out_of_disc k o j r s q jk jo ek eo ej ko d
        ]

    flat : lt_z (turn p q r *ℤ turn p q s) (pos 0) ≡ false → strictly_cross p q r s ≡ false
    flat e = ap (λ (t : Bool). t && lt_z (turn r s p *ℤ turn r s q) (pos 0)) e

    first_flat : turn p q r ≡ pos 0 → strictly_cross p q r s ≡ false
    first_flat e = flat (flat_left (turn p q r) (turn p q s) e)

    second_flat : turn p q s ≡ pos 0 → strictly_cross p q r s ≡ false
    second_flat e = flat (flat_right (turn p q r) (turn p q s) e)

    at_one : (x y : ℕ) (v w : Point) → serving_at m x ≡ Some v → serving_at m y ≡ Some w → x ≡ y → w ≡ v
    at_one x y v w e f t = one_point m x w v (ap (serving_at m) t ∙ f) e

    no_crossing : strictly_cross p q r s ≡ false
    no_crossing = go (ℕ_discrete i k) (ℕ_discrete i o) (ℕ_discrete j k) (ℕ_discrete j o)
      where
        go : Dec (i ≡ k) → Dec (i ≡ o) → Dec (j ≡ k) → Dec (j ≡ o) → strictly_cross p q r s ≡ false
        go (yes t) y z w = first_flat (ap (turn p q) (at_one i k p r ei ek t) ∙ still_first (position p) (position q))
        go (no x) (yes t) z w = second_flat (ap (turn p q) (at_one i o p s ei eo t) ∙ still_first (position p) (position q))
        go (no x) (no y) (yes t) w = first_flat (ap (turn p q) (at_one j k q r ej ek t) ∙ still_second (position p) (position q))
        go (no x) (no y) (no z) (yes t) = second_flat (ap (turn p q) (at_one j o q s ej eo t) ∙ still_second (position p) (position q))
        go (no x) (no y) (no z) (no w) = fails (ends_apart x y z w)

pub do_not_cross : KeptLinksDoNotCross
do_not_cross b m l g i j k o p q r s ei ej ek eo ij ko = no_crossing b m l g i j k o p q r s ei ej ek eo ij ko
