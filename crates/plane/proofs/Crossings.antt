-- The crossing count in all cases
use mathlib.Core.Path.{◌≡◌, refl, sym, ◌∙◌, ap, ap₂, subst}
use mathlib.Core.Bool.{Bool, true, false, not, cond}
use mathlib.Core.List.{[], ◌∷◌}
use native.Mathlib.Omega.{arith}
use lib.IntN.{ℤ, pos, ◌+ℤ◌, ◌*ℤ◌, neg_ℤ, *ℤ-zero}
use lib.Signed.{◌<ℤ◌, ◌≤ℤ◌, lt_z}
use borrow.Author.Differences.{ints, false_is_lt}
use Rattle.plane.proofs.Vectors.{Vector}
use Rattle.plane.proofs.Sites.{Site, det, node, far, place, L, xor, and, or, hit, seg}
use Rattle.plane.proofs.Ring.{E, var, add, mul, lit, ring}
use Rattle.plane.proofs.Identities.{Vectorᵉ}
use Rattle.plane.proofs.Determinants.{Siteᵉ, detᵉ, det_same, det_cycle}
use Rattle.plane.proofs.Signs.{St, Wk, weak, wk_mul, st_cycle}
use Rattle.plane.proofs.Strip.{left_sign, pqr}
use Rattle.plane.proofs.SharedEnds.{hit_twin}
use Rattle.plane.proofs.Nearer.{Sided, count, nearer}
use Rattle.plane.proofs.DartLaws.{Floor, is}

abbrev A : Vectorᵉ
A = record { x = var 0; y = var 1 }

abbrev B : Vectorᵉ
B = record { x = var 2; y = var 3 }

abbrev P : Siteᵉ
P = record { x = var 6; y = var 7; h = var 8 }

abbrev Q : Siteᵉ
Q = record { x = var 9; y = var 10; h = var 11 }

abbrev at_node : Vectorᵉ → Siteᵉ
at_node p = record { x = p.x; y = p.y; h = lit (pos 1) }

abbrev at_place : E → E → Vectorᵉ → Vectorᵉ → Siteᵉ
at_place c e s t = record { x = add (mul e s.x) (mul c t.x); y = add (mul e s.y) (mul c t.y); h = add e c }

pub place_is : (p q : Site) (c e : ℤ) (s t : Vector) → det p q (place c e s t) ≡ e *ℤ det p q (node s) +ℤ c *ℤ det p q (node t)
place_is p q c e s t = ring (s.x ∷ s.y ∷ t.x ∷ t.y ∷ c ∷ e ∷ p.x ∷ p.y ∷ p.h ∷ q.x ∷ q.y ∷ q.h ∷ [])
    (detᵉ P Q (at_place (var 4) (var 5) A B)) (add (mul (var 5) (detᵉ P Q (at_node A))) (mul (var 4) (detᵉ P Q (at_node B)))) tt

-- the places 0 : 1 and 1 : 0 are s and t
pub place_s : (s t : Vector) → place (pos 0) (pos 1) s t ≡ node s
place_s s t = λ i. record { x = one_zero s.x t.x i; y = one_zero s.y t.y i; h = pos 1 }
  where
    one_zero : (y z : ℤ) → pos 1 *ℤ y +ℤ pos 0 *ℤ z ≡ y
    one_zero y z = ring (y ∷ z ∷ []) (add (mul (lit (pos 1)) (var 0)) (mul (lit (pos 0)) (var 1))) (var 0) tt

pub place_t : (s t : Vector) → place (pos 1) (pos 0) s t ≡ node t
place_t s t = λ i. record { x = zero_one s.x t.x i; y = zero_one s.y t.y i; h = pos 1 }
  where
    zero_one : (y z : ℤ) → pos 0 *ℤ y +ℤ pos 1 *ℤ z ≡ z
    zero_one y z = ring (y ∷ z ∷ []) (add (mul (lit (pos 0)) (var 0)) (mul (lit (pos 1)) (var 1))) (var 1) tt

-- not positive
below_zero : (e c y z : ℤ) → y ≡ pos 0 → pos 0 ≤ℤ c → St false z → lt_z (pos 0) (e *ℤ y +ℤ c *ℤ z) ≡ false
below_zero e c y z h hc s = go (e *ℤ y) (c *ℤ z) (ap (λ w. e *ℤ w) h ∙ *ℤ-zero e) (wk_mul pc (weak s)).is
  where
    pc : Wk true c
    pc = record { is = hc }

    go : (y z : ℤ) → y ≡ pos 0 → pos 0 ≤ℤ neg_ℤ z → lt_z (pos 0) (y +ℤ z) ≡ false
    go y z h k = sym (false_is_lt (pos 0) (y +ℤ z) (omega (arith, ints)))

-- a dart at s is hit by no place
module _ (c e : ℤ) (d s t w : Vector) (hc : pos 0 ≤ℤ c) (hw : Sided d s t w) (low : St false (det (node s) (far d) (node t))) where
  x_not_higher : L (node s) (far d) (place c e s t) ≡ false
  unfolding L
  x_not_higher = ap (lt_z (pos 0)) (place_is (node s) (far d) c e s t) ∙ below_zero e c (det (node s) (far d) (node s)) (det (node s) (far d) (node t)) (det_cycle (node s) (node s) (far d) ∙ det_same (node s) (far d)) hc low

  x_not_left : St false (det (node s) (node t) (node w)) → L (node w) (node s) (place c e s t) ≡ false
  unfolding L
  x_not_left h = ap (lt_z (pos 0)) (place_is (node w) (node s) c e s t)
      ∙ below_zero e c (det (node w) (node s) (node s)) (det (node w) (node s) (node t)) (sym (det_cycle (node w) (node s) (node s)) ∙ det_same (node s) (node w)) hc
      (st_cycle (node t) (node w) (node s) (st_cycle (node s) (node t) (node w) h))

  pub dart_s : hit (far d) (place c e s t) (node s) (node w) ≡ false
  dart_s = rw (pqr (node s) (far d) (node w) hw.by_s) (go (L (node s) (node t) (node w)) (left_sign (node s) (node t) (node w) hw.off))
    where
      and_false : (p q r : Bool) → r ≡ false → and p (and q r) ≡ false
      and_false true true r e = e
      and_false true false r e = refl
      and_false false q r e = refl

      go : (b : Bool) → St b (det (node s) (node t) (node w)) → cond b (seg (far d) (place c e s t) (node s) (node w)) (seg (far d) (place c e s t) (node w) (node s)) ≡ false
      go true h = ap (λ z. and z (and (L (place c e s t) (far d) (node w)) (L (node s) (node w) (place c e s t)))) x_not_higher
      go false h = and_false (L (node w) (far d) (place c e s t)) (L (place c e s t) (far d) (node s)) (L (node w) (node s) (place c e s t)) (x_not_left h)

-- ---- over a floor: s and t nodes, every other node on one side of both levels, t just below s
module _ {I : Type 0} (at' : I → Vector) (d : Vector) (f : Floor I at' d) (s t : I) (st : ¬ (s ≡ t))
    (sided : (z : I) → ¬ (s ≡ z) → ¬ (t ≡ z) → Sided d (at' s) (at' t) (at' z)) (low : St false (det (node (at' s)) (far d) (node (at' t)))) where
  -- u v crosses s t, with four different ends, strictly nearer to t than the place c : e
  abbrev pub nears : ℤ → ℤ → I → I → Bool
  nears c e u v = and (not (or (is (f.same? u s)) (is (f.same? v s)))) (nearer c e (at' s) (at' t) (at' u) (at' v))

  module _ (c e : ℤ) (hc : pos 0 ≤ℤ c) (he : pos 0 <ℤ e) where
    hit_s : (w : I) → ¬ (s ≡ w) → ¬ (t ≡ w)
        → xor (hit (far d) (place c e (at' s) (at' t)) (node (at' s)) (node (at' w))) (hit (far d) (node (at' t)) (node (at' s)) (node (at' w))) ≡ false
    hit_s w sw tw = ap₂ xor (dart_s c e d (at' s) (at' t) (at' w) hc (sided w sw tw) low)
        (subst (λ z. hit (far d) z (node (at' s)) (node (at' w)) ≡ false) (place_t (at' s) (at' t)) (dart_s (pos 1) (pos 0) d (at' s) (at' t) (at' w) (record { le = tt }) (sided w sw tw) low))

    -- THE CROSSING COUNT, all darts but those at t
    pub count_law : (u v : I) → ¬ (u ≡ v) → ¬ (t ≡ u) → ¬ (t ≡ v)
        → xor (hit (far d) (place c e (at' s) (at' t)) (node (at' u)) (node (at' v))) (hit (far d) (node (at' t)) (node (at' u)) (node (at' v))) ≡ nears c e u v
    count_law u v uv tu tv = go (f.same? u s) (f.same? v s)
      where
        rev : {i j : I} → ¬ (i ≡ j) → ¬ (j ≡ i)
        rev n e = n (sym e)

        go : (us : Dec (u ≡ s)) (vs : Dec (v ≡ s))
            → xor (hit (far d) (place c e (at' s) (at' t)) (node (at' u)) (node (at' v))) (hit (far d) (node (at' t)) (node (at' u)) (node (at' v)))
            ≡ and (not (or (is us) (is vs))) (nearer c e (at' s) (at' t) (at' u) (at' v))
        go (yes p) vs = ap (λ i. xor (hit (far d) (place c e (at' s) (at' t)) (node (at' i)) (node (at' v))) (hit (far d) (node (at' t)) (node (at' i)) (node (at' v)))) p
            ∙ hit_s v (λ k. uv (p ∙ k)) tv
        go (no p) (yes q) = ap₂ xor (hit_twin (far d) (place c e (at' s) (at' t)) (node (at' u)) (node (at' v)) (f.along u v uv)) (hit_twin (far d) (node (at' t)) (node (at' u)) (node (at' v)) (f.along u v uv))
            ∙ ap (λ i. xor (hit (far d) (place c e (at' s) (at' t)) (node (at' i)) (node (at' u))) (hit (far d) (node (at' t)) (node (at' i)) (node (at' u)))) q
            ∙ hit_s u (rev p) tu
        go (no p) (no q) = count c e d (at' s) (at' t) (at' u) (at' v) hc he (sided u (rev p) tu) (sided v (rev q) tv)
            (f.off u v s uv p q) (f.off u v t uv (rev tu) (rev tv)) (f.along u v uv)
