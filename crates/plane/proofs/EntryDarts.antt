-- Darts of a floor and a place x on the link a b, in all cases; the places where links cross s t; darts at s
use mathlib.Core.Path.{◌≡◌, refl, sym, ◌∙◌, ap, ap₂}
use mathlib.Core.Bool.{Bool, true, false}
use mathlib.Core.List.{[], ◌∷◌}
use native.Mathlib.Omega.{arith}
use lib.IntN.{ℤ, pos, neg_ℤ}
use lib.Signed.{◌<ℤ◌}
use borrow.Author.Differences.{ints}
use Rattle.plane.proofs.Vectors.{Vector, turn}
use Rattle.plane.proofs.Sites.{Site, det, node, far, place, L, xor, and, up, De, Sa, crossing}
use Rattle.plane.proofs.Ring.{E, var, add, mul, neg, lit, ring}
use Rattle.plane.proofs.Identities.{Vectorᵉ, turnᵉ}
use Rattle.plane.proofs.Determinants.{Siteᵉ, detᵉ}
use Rattle.plane.proofs.Signs.{St, Strict, st_cycle}
use Rattle.plane.proofs.Strip.{Off, left_sign, prq, Frame}
use Rattle.plane.proofs.SharedEnds.{De_twin}
use Rattle.plane.proofs.Between.{Between, by_a, entry_apart, entry_b, entry_a, entry_ab}
use Rattle.plane.proofs.DartLaws.{Floor, S, eq, is, Sa_b, xor_false}

pub nonzero : {b : Bool} {z : ℤ} → St b z → ¬ (z ≡ pos 0)
nonzero {b = b} {z = z} s e = go b s.is
  where
    go : (b : Bool) → Strict b z → ⊥
    go true h = omega (arith, ints)
    go false h = omega (arith, ints)

-- ---- the place where a b crosses s t lies between a and b
abbrev A : Vectorᵉ
A = record { x = var 0; y = var 1 }

abbrev B : Vectorᵉ
B = record { x = var 2; y = var 3 }

abbrev C : Vectorᵉ
C = record { x = var 4; y = var 5 }

abbrev D : Vectorᵉ
D = record { x = var 6; y = var 7 }

abbrev P : Siteᵉ
P = record { x = var 8; y = var 9; h = var 10 }

abbrev Q : Siteᵉ
Q = record { x = var 11; y = var 12; h = var 13 }

abbrev at_node : Vectorᵉ → Siteᵉ
at_node p = record { x = p.x; y = p.y; h = lit (pos 1) }

abbrev at_place : E → E → Vectorᵉ → Vectorᵉ → Siteᵉ
at_place c e s t = record { x = add (mul e s.x) (mul c t.x); y = add (mul e s.y) (mul c t.y); h = add e c }

pub meeting : (a b s t : Vector) → St true (turn s t b) → St false (turn s t a) → Between (node a) (node b) (place (turn a b s) (neg_ℤ (turn a b t)) s t)
meeting a b s t hb ha = record {
  m = turn s t b;
  n = neg_ℤ (turn s t a);
  hm = hb.is;
  hn = ha.is;
  is = λ p q.
      ring (a.x ∷ a.y ∷ b.x ∷ b.y ∷ s.x ∷ s.y ∷ t.x ∷ t.y ∷ p.x ∷ p.y ∷ p.h ∷ q.x ∷ q.y ∷ q.h ∷ [])
      (detᵉ P Q (at_place (turnᵉ A B C) (neg (turnᵉ A B D)) C D))
      (add (mul (turnᵉ C D B) (detᵉ P Q (at_node A))) (mul (neg (turnᵉ C D A)) (detᵉ P Q (at_node B)))) tt;
}

-- ---- the darts
module _ {I : Type 0} (at' : I → Vector) (d : Vector) (f : Floor I at' d) (a b : I) (ab : ¬ (a ≡ b)) (above : up (far d) (node (at' a)) (node (at' b)) ≡ true)
    (x : Site) (hx : pos 0 <ℤ x.h) (w : Between (node (at' a)) (node (at' b)) x) (clear : (i : I) → Off x (node (at' i)) (far d)) where
  axo! : St (L (S at' d f a) (S at' d f b) (far d)) (det (S at' d f a) x (far d))
  axo! = st_cycle (far d) (node (at' a)) x (by_a (node (at' a)) (node (at' b)) x w (far d) (st_cycle (node (at' b)) (far d) (node (at' a)) (st_cycle (node (at' a)) (node (at' b)) (far d) (left_sign _ _ _ (f.along a b ab)))))

  x_above : up (far d) (node (at' a)) x ≡ true
  x_above = prq (node (at' a)) x (far d) axo! ∙ sym (prq (node (at' a)) (node (at' b)) (far d) (left_sign _ _ _ (f.along a b ab))) ∙ above

  at_a : (v : I) → ¬ (a ≡ v) → ¬ (b ≡ v) → De (far d) (node (at' a)) x (node (at' a)) (node (at' v)) ≡ Sa (far d) (node (at' a)) (node (at' b)) (node (at' v))
  at_a v av bv = entry_a (node (at' a)) (node (at' b)) x (node (at' v)) (far d) w
      (record { ha = record { lt = tt }; hb = hx; hw = record { lt = tt }; ho = refl; abw = nonzero axv!; abo = nonzero axo!; awo = f.along a v av; bwo = clear v }) (f.off a b v ab av bv) x_above
    where
      axv! : St (L (node (at' a)) (node (at' b)) (node (at' v))) (det (node (at' a)) x (node (at' v)))
      axv! = st_cycle (node (at' v)) (node (at' a)) x (by_a (node (at' a)) (node (at' b)) x w (node (at' v)) (st_cycle (node (at' b)) (node (at' v)) (node (at' a)) (st_cycle (node (at' a)) (node (at' b)) (node (at' v)) (left_sign _ _ _ (f.off a b v ab av bv)))))

  frame : (u v : I) → Frame (node (at' a)) x (node (at' u)) (node (at' v)) (far d)
  frame u v = record { ha = record { lt = tt }; hy = hx; hu = record { lt = tt }; hv = record { lt = tt }; ho = refl }

  at_b : (v : I) → ¬ (a ≡ v) → ¬ (b ≡ v) → De (far d) (node (at' a)) x (node (at' b)) (node (at' v)) ≡ false
  at_b v av bv = entry_b (node (at' a)) (node (at' b)) x (node (at' v)) (far d) w (frame b v) (f.off a b v ab av bv) (f.along a b ab) (f.along a v av) (clear v) (f.along b v bv) above

  pub entry_law : (u v : I) → ¬ (u ≡ v)
      → (¬ (a ≡ u) → ¬ (a ≡ v) → ¬ (b ≡ u) → ¬ (b ≡ v) → crossing (node (at' a)) (node (at' b)) (node (at' u)) (node (at' v)) ≡ false)
      → De (far d) (node (at' a)) x (node (at' u)) (node (at' v))
      ≡ xor (and (eq at' d f u a) (Sa (far d) (node (at' a)) (node (at' b)) (node (at' v)))) (and (eq at' d f v a) (Sa (far d) (node (at' a)) (node (at' b)) (node (at' u))))
  entry_law u v uv apart = go (f.same? u a) (f.same? v a) (f.same? u b) (f.same? v b)
    where
      rev : {i j : I} → ¬ (i ≡ j) → ¬ (j ≡ i)
      rev n e = n (sym e)

      twin : De (far d) (node (at' a)) x (node (at' u)) (node (at' v)) ≡ De (far d) (node (at' a)) x (node (at' v)) (node (at' u))
      twin = De_twin (far d) (node (at' a)) x (node (at' u)) (node (at' v)) (f.along u v uv)

      link : De (far d) (node (at' a)) x (node (at' a)) (node (at' b)) ≡ false
      link = entry_ab (node (at' a)) (node (at' b)) x (far d) w (f.along a b ab) above

      none : Sa (far d) (node (at' a)) (node (at' b)) (node (at' b)) ≡ false
      none = Sa_b at' d f a b ab above

      go : (ua : Dec (u ≡ a)) (va : Dec (v ≡ a)) → Dec (u ≡ b) → Dec (v ≡ b)
          → De (far d) (node (at' a)) x (node (at' u)) (node (at' v))
          ≡ xor (and (is ua) (Sa (far d) (node (at' a)) (node (at' b)) (node (at' v)))) (and (is va) (Sa (far d) (node (at' a)) (node (at' b)) (node (at' u))))
      go (yes p) (yes q) r s = absurd (uv (p ∙ sym q))
      go (yes p) (no q) r (yes s) = ap₂ (λ i j. De (far d) (node (at' a)) x (node (at' i)) (node (at' j))) p s ∙ link ∙ sym (xor_false _ ∙ ap (λ i. Sa (far d) (node (at' a)) (node (at' b)) (node (at' i))) s ∙ none)
      go (yes p) (no q) r (no s) = ap (λ i. De (far d) (node (at' a)) x (node (at' i)) (node (at' v))) p ∙ at_a v (rev q) (rev s) ∙ sym (xor_false _)
      go (no p) (yes q) (yes r) s = twin ∙ ap₂ (λ i j. De (far d) (node (at' a)) x (node (at' i)) (node (at' j))) q r ∙ link ∙ sym (ap (λ i. Sa (far d) (node (at' a)) (node (at' b)) (node (at' i))) r ∙ none)
      go (no p) (yes q) (no r) s = twin ∙ ap (λ i. De (far d) (node (at' a)) x (node (at' i)) (node (at' u))) q ∙ at_a u (rev p) (rev r)
      go (no p) (no q) (yes r) (yes s) = absurd (uv (r ∙ sym s))
      go (no p) (no q) (yes r) (no s) = ap (λ i. De (far d) (node (at' a)) x (node (at' i)) (node (at' v))) r ∙ at_b v (rev q) (rev s)
      go (no p) (no q) (no r) (yes s) = twin ∙ ap (λ i. De (far d) (node (at' a)) x (node (at' i)) (node (at' u))) s ∙ at_b u (rev p) (rev r)
      go (no p) (no q) (no r) (no s) = entry_apart (node (at' a)) (node (at' b)) x (node (at' u)) (node (at' v)) (far d) w (frame u v)
          (f.off a b u ab (rev p) (rev r)) (f.off a b v ab (rev q) (rev s)) (f.along a b ab) (f.off a u v (rev p) (rev q) uv) (f.off b u v (rev r) (rev s) uv)
          (f.along a u (rev p)) (f.along a v (rev q)) (clear u) (clear v) (f.along u v uv) above (apart (rev p) (rev q) (rev r) (rev s))
