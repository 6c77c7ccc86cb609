-- The direction D = N·(t − s) turned left a little: it is along no two nodes, t is just below s, and the corner at s that holds it
use mathlib.Core.Path.{◌≡◌, refl, sym, ◌∙◌, ap, subst}
use mathlib.Core.Bool.{Bool, true, false, not}
use mathlib.Core.List.{[], ◌∷◌}
use Prim.Native.Nat.{ℕ, zero, suc}
use native.Mathlib.Omega.{arith}
use lib.IntN.{ℤ, pos, negsuc, ◌+ℤ◌, ◌-ℤ◌, ◌*ℤ◌, neg_ℤ, *ℤ-zero}
use lib.Signed.{◌<ℤ◌, ◌≤ℤ◌}
use borrow.Author.Differences.{ints}
use Rattle.plane.proofs.Vectors.{Vector, cross, dot, diff}
use Rattle.plane.proofs.Sites.{det, node, far, place, L, most, inside}
use Rattle.plane.proofs.Ring.{E, var, add, mul, neg, sub, lit, ring}
use Rattle.plane.proofs.Identities.{Vectorᵉ, crossᵉ, dotᵉ, diffᵉ}
use Rattle.plane.proofs.Determinants.{Siteᵉ, detᵉ, det_cycle, det_same}
use Rattle.plane.proofs.Positive.{mul_pos}
use Rattle.plane.proofs.Signs.{St, sure, st_neg, st_mul, st_cycle, st_swap}
use Rattle.plane.proofs.Strip.{Off, off_flip, off_cycle, left_sign, pqr, prq}
use Rattle.plane.proofs.Between.{plus, st_sum, sum_st, nought}
use Rattle.plane.proofs.EntryDarts.{nonzero}
use Rattle.plane.proofs.Nearer.{dir, Within, scaled, Sided, level_x}
use Rattle.plane.proofs.Crossings.{place_is}

abbrev A : Vectorᵉ
A = record { x = var 0; y = var 1 }

abbrev B : Vectorᵉ
B = record { x = var 2; y = var 3 }

abbrev C : Vectorᵉ
C = record { x = var 4; y = var 5 }

abbrev F : Vectorᵉ
F = record { x = var 6; y = var 7 }

abbrev dirᵉ : E → Vectorᵉ → Vectorᵉ → Vectorᵉ
dirᵉ n s t = record { x = sub (mul n (sub t.x s.x)) (sub t.y s.y); y = add (mul n (sub t.y s.y)) (sub t.x s.x) }

abbrev at_node : Vectorᵉ → Siteᵉ
at_node p = record { x = p.x; y = p.y; h = lit (pos 1) }

abbrev at_far : Vectorᵉ → Siteᵉ
at_far p = record { x = p.x; y = p.y; h = lit (pos 0) }

-- (d·w)² + (d×w)² is |d|²|w|²
lagrange : (d w : Vector) → cross d w *ℤ cross d w +ℤ dot d w *ℤ dot d w ≡ dot d d *ℤ dot w w
lagrange d w = ring (d.x ∷ d.y ∷ w.x ∷ w.y ∷ []) (add (mul (crossᵉ A B) (crossᵉ A B)) (mul (dotᵉ A B) (dotᵉ A B))) (mul (dotᵉ A A) (dotᵉ B B)) tt

along_is : (N : ℤ) (s t i j : Vector) → det (node i) (far (dir N s t)) (node j) ≡ N *ℤ cross (diff t s) (diff j i) -ℤ dot (diff t s) (diff j i)
along_is N s t i j = ring (s.x ∷ s.y ∷ t.x ∷ t.y ∷ i.x ∷ i.y ∷ j.x ∷ j.y ∷ N ∷ [])
    (detᵉ (at_node C) (at_far (dirᵉ (var 8) A B)) (at_node F)) (sub (mul (var 8) (crossᵉ (diffᵉ B A) (diffᵉ F C))) (dotᵉ (diffᵉ B A) (diffᵉ F C))) tt

low_is : (N : ℤ) (s t : Vector) → det (node s) (far (dir N s t)) (node t) ≡ neg_ℤ (dot (diff t s) (diff t s))
low_is N s t = ring (s.x ∷ s.y ∷ t.x ∷ t.y ∷ N ∷ []) (detᵉ (at_node A) (at_far (dirᵉ (var 4) A B)) (at_node B)) (neg (dotᵉ (diffᵉ B A) (diffᵉ B A))) tt

-- t is just below s
pub low : (N : ℤ) (s t : Vector) → pos 0 <ℤ dot (diff t s) (diff t s) → St false (det (node s) (far (dir N s t)) (node t))
low N s t h = subst (λ z. St false z) (sym (low_is N s t)) (st_neg plus)
  where
    plus : St true (dot (diff t s) (diff t s))
    plus = record { is = h }

zero? : (z : ℤ) → Dec (z ≡ pos 0)
zero? (pos zero) = yes refl
zero? (pos (suc n)) = no (λ e. differ n e)
  where
    differ : (n : ℕ) → pos (suc n) ≡ pos 0 → ⊥
    differ n e = omega (arith, ints)
zero? (negsuc n) = no (λ e. differ n e)
  where
    differ : (n : ℕ) → negsuc n ≡ pos 0 → ⊥
    differ n e = omega (arith, ints)

-- D is along no two points
pub along : (N : ℤ) (s t i j : Vector) → pos 0 <ℤ dot (diff t s) (diff t s) → pos 0 <ℤ dot (diff j i) (diff j i) → Within N (dot (diff t s) (diff j i)) → Off (node i) (node j) (far (dir N s t))
along N s t i j hd hw b = off_flip (node i) (far (dir N s t)) (node j) (λ e. go (zero? (cross (diff t s) (diff j i))) (sym (along_is N s t i j) ∙ e))
  where
    minus : (m : ℤ) (z : ℤ) → z ≡ pos 0 → z -ℤ m ≡ pos 0 → m ≡ pos 0
    minus m z h e = omega (arith, ints)

    parts : (p q r s : ℤ) → p +ℤ q ≡ r → p ≡ pos 0 → q ≡ pos 0 → pos 0 <ℤ r → ⊥
    parts p q r s e f g h = omega (arith, ints)

    go : Dec (cross (diff t s) (diff j i) ≡ pos 0) → N *ℤ cross (diff t s) (diff j i) -ℤ dot (diff t s) (diff j i) ≡ pos 0 → ⊥
    go (no n) e = nonzero (scaled N (cross (diff t s) (diff j i)) (dot (diff t s) (diff j i)) (sure (cross (diff t s) (diff j i)) n) b.0 b.1) e
    go (yes z) e =
        let m : dot (diff t s) (diff j i) ≡ pos 0 = minus (dot (diff t s) (diff j i)) (N *ℤ cross (diff t s) (diff j i)) (ap (λ k. N *ℤ k) z ∙ *ℤ-zero N) e in
        parts (cross (diff t s) (diff j i) *ℤ cross (diff t s) (diff j i)) (dot (diff t s) (diff j i) *ℤ dot (diff t s) (diff j i)) (dot (diff t s) (diff t s) *ℤ dot (diff j i) (diff j i)) (pos 0)
        (lagrange (diff t s) (diff j i)) (ap (λ k. cross (diff t s) (diff j i) *ℤ k) z ∙ *ℤ-zero (cross (diff t s) (diff j i))) (ap (λ k. dot (diff t s) (diff j i) *ℤ k) m ∙ *ℤ-zero (dot (diff t s) (diff j i))) (mul_pos hd hw)

-- a place strictly between s and t is on no node's level
pub clear_of : (c e : ℤ) (d s t z : Vector) → pos 0 <ℤ c → pos 0 <ℤ e → Sided d s t z → Off (place c e s t) (node z) (far d)
clear_of c e d s t z hc he h = off_flip (place c e s t) (far d) (node z) (nonzero (level_x c e s t z d (weaken c hc) he h.by_s h.by_t))
  where
    weaken : (c : ℤ) → pos 0 <ℤ c → pos 0 ≤ℤ c
    weaken c h = omega (arith, ints)

-- nor on the level of s or of t
pub clear_s : (c e : ℤ) (d s t : Vector) → pos 0 <ℤ c → St false (det (node s) (far d) (node t)) → Off (place c e s t) (node s) (far d)
clear_s c e d s t hc lo = off_cycle (far d) (place c e s t) (node s) (off_cycle (node s) (far d) (place c e s t) (nonzero
    (subst (λ z. St false z) (sym (place_is (node s) (far d) c e s t)) (sum_st (nought false e (det (node s) (far d) (node s)) (det_cycle (node s) (node s) (far d) ∙ det_same (node s) (far d))) (st_mul (plus hc) lo)))))

pub clear_t : (c e : ℤ) (d s t : Vector) → pos 0 <ℤ e → St false (det (node s) (far d) (node t)) → Off (place c e s t) (node t) (far d)
clear_t c e d s t he lo = off_cycle (far d) (place c e s t) (node t) (off_cycle (node t) (far d) (place c e s t) (nonzero
    (subst (λ z. St true z) (sym (place_is (node t) (far d) c e s t)) (st_sum (st_mul (plus he) back) (nought true c (det (node t) (far d) (node t)) (det_cycle (node t) (node t) (far d) ∙ det_same (node t) (far d)))))))
  where
    back : St true (det (node t) (far d) (node s))
    back = st_cycle (node s) (node t) (far d) (st_swap (node t) (node s) (far d) (st_cycle (far d) (node t) (node s) (st_cycle (node s) (far d) (node t) lo)))

-- ---- the opening: the direction of t itself foremost
module _ (d s t : Vector) (u w : Vector) (lo : St false (det (node s) (far d) (node t))) (hu : Sided d s t u) (hw : Sided d s t w) where
  -- t not among the two sides: D is inside just if t is
  pub opening : inside (node s) (node u) (far d) (node w) ≡ inside (node s) (node u) (node t) (node w)
  opening = rw (pqr (node s) (far d) (node u) hu.by_s, prq (node s) (far d) (node w) hw.by_s, prq (node s) (node t) (node w) (left_sign (node s) (node t) (node w) hw.off)) refl

  -- t is a neighbour: D is inside the corner that ends at t, and not inside the one that starts at t
  pub opening_last : inside (node s) (node u) (far d) (node t) ≡ true
  opening_last = rw (pqr (node s) (far d) (node u) hu.by_s, prq (node s) (far d) (node t) lo) (go (L (node s) (node t) (node u)))
    where
      go : (b : Bool) → most b true (not b) ≡ true
      go true = refl
      go false = refl
