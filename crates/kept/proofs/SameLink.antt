-- Kept links that cross a way at one place are the same link
use Rattle.std.proofs.Common.{◌≡◌, ℕ, ◌*◌, true, ◌⊎◌, pos, nat_abs, Some, sym, ap, ◌∙◌, subst, inl, inr, true≢false, mul_comm}
use native.Mathlib.Decide.{ℕ_discrete}
use Rattle.plane.specs.declared.Point.{Point}
use Rattle.plane.specs.Plane.{turn}
use Rattle.plane.proofs.Vectors.{position}
use Rattle.plane.proofs.SamePlace.{Level}
use Rattle.plane.proofs.SamePlace as plane
use Rattle.floor.specs.Meaning.{Meaning, Serving, serving_at}
use Rattle.floor.specs.Planar.{Blocks, Lawful}
use Rattle.kept.specs.Kept.{Kept}
use Rattle.kept.specs.Laws.{strictly_cross, same_place, SamePlaceSameLink}
use Rattle.kept.proofs.Near.{one_point}
use Rattle.kept.proofs.Graph.{kept_clear, kept_back}
use Rattle.kept.proofs.Crossing.{three_off, cross_off, cross_is, cross_sites, cross_back, size_back, do_not_cross}

level : (s t a b c d : Point) → same_place s t a b c d → Level (position s) (position t) (position a) (position b) (position c) (position d)
level s t a b c d e = ap pos (e ∙ mul_comm (nat_abs (turn c d s)) (nat_abs (turn a b t)))

-- the other way along either link
first_back : (s t a b c d : Point) → same_place s t a b c d → same_place s t b a c d
first_back s t a b c d e = ap (λ (n : ℕ). n * nat_abs (turn c d t)) (size_back a b s) ∙ e ∙ ap (λ (n : ℕ). nat_abs (turn c d s) * n) (sym (size_back a b t))

second_back : (s t a b c d : Point) → same_place s t a b c d → same_place s t a b d c
second_back s t a b c d e = ap (λ (n : ℕ). nat_abs (turn a b s) * n) (size_back c d t) ∙ e ∙ ap (λ (n : ℕ). n * nat_abs (turn a b t)) (sym (size_back c d s))

module _ (b : Blocks) (m : Meaning) (l : Lawful b) (g : Serving m) (s t : Point) where
  -- a kept link, with its points, that crosses the way from s to t
  record Over (i j : ℕ) (p q : Point) : Type 0 where
    pub at_i : serving_at m i ≡ Some p
    pub at_j : serving_at m j ≡ Some q
    pub kept : Kept b m i j
    pub over : strictly_cross s t p q ≡ true

  back : {i j : ℕ} {p q : Point} → Over i j p q → Over j i q p
  back {i = i} {j = j} {p = p} {q = q} h =
      record { at_i = h.at_j; at_j = h.at_i; kept = kept_back b m l g i j h.kept; over = sym (cross_back s t p q) ∙ h.over }

  ends : {i j : ℕ} {p q : Point} → Over i j p q → ¬ (i ≡ j)
  ends {i = i} {j = j} h = (kept_clear b m l g i j h.kept).0.apart

  -- with a common end
  shared : (i j k o : ℕ) (p q r w : Point) → i ≡ k → Over i j p q → Over k o r w → same_place s t p q r w → j ≡ o
  shared i j k o p q r w ik x y e = go (ℕ_discrete j o)
    where
      same : r ≡ p
      same = one_point m k r p y.at_i (ap (serving_at m) (sym ik) ∙ x.at_i)

      go : Dec (j ≡ o) → j ≡ o
      go (yes f) = f
      go (no n) =
          let (a, _, c, d) = cross_off s t p q x.over in
          let over' : strictly_cross s t p w ≡ true = ap (λ (z : Point). strictly_cross s t z w) (sym same) ∙ y.over in
          let (_, _, c', d') = cross_off s t p w over' in
          absurd (plane.same_place_shared (position s) (position t) (position p) (position q) (position w) a c d c' d'
          (three_off b m l g i o j p w q (λ f. ends y (sym ik ∙ f)) (ends x) (λ f. n (sym f)) x.at_i y.at_j x.at_j)
          (cross_sites s t p q x.over) (cross_sites s t p w over') (level s t p q p w (subst (λ (z : Point). same_place s t p q z w) same e)))

  distinct : (i j k o : ℕ) (p q r w : Point) → ¬ (i ≡ k) → ¬ (i ≡ o) → ¬ (j ≡ k) → ¬ (j ≡ o) → Over i j p q → Over k o r w → same_place s t p q r w → ⊥
  distinct i j k o p q r w ik io jk jo x y e =
      let (a, c, d, f) = cross_off s t p q x.over in
      let (a', c', d', f') = cross_off s t r w y.over in
      let z = three_off b m l g i j k p q r (ends x) ik jk x.at_i x.at_j y.at_i in
      let z' = three_off b m l g i j o p q w (ends x) io jo x.at_i x.at_j y.at_j in
      let u = three_off b m l g k o i r w p (ends y) (λ h. ik (sym h)) (λ h. io (sym h)) y.at_i y.at_j x.at_i in
      let u' = three_off b m l g k o j r w q (ends y) (λ h. jk (sym h)) (λ h. jo (sym h)) y.at_i y.at_j x.at_j in
      true≢false (sym
      (cross_is p q r w z z' u u'
      ∙ plane.same_place (position s) (position t) (position p) (position q) (position r) (position w) a c a' c' d f d' f' z z' u u' (cross_sites s t p q x.over) (cross_sites s t r w y.over) (level s t p q r w e))
      ∙ do_not_cross b m l g i j k o p q r w x.at_i x.at_j y.at_i y.at_j x.kept y.kept)

  one_link : (i j k o : ℕ) (p q r w : Point) → Over i j p q → Over k o r w → same_place s t p q r w → ((i ≡ k) × (j ≡ o)) ⊎ ((i ≡ o) × (j ≡ k))
  one_link i j k o p q r w x y e = go (ℕ_discrete i k) (ℕ_discrete i o) (ℕ_discrete j k) (ℕ_discrete j o)
    where
      go : Dec (i ≡ k) → Dec (i ≡ o) → Dec (j ≡ k) → Dec (j ≡ o) → ((i ≡ k) × (j ≡ o)) ⊎ ((i ≡ o) × (j ≡ k))
      go (yes f) _ _ _ = inl (f, shared i j k o p q r w f x y e)
      go (no _) (yes f) _ _ = inr (f, shared i j o k p q w r f x (back y) (second_back s t p q r w e))
      go (no _) (no _) (yes f) _ = inr (shared j i k o q p r w f (back x) y (first_back s t p q r w e), f)
      go (no _) (no _) (no _) (yes f) = inl (shared j i o k q p w r f (back x) (back y) (second_back s t q p r w (first_back s t p q r w e)), f)
      go (no a) (no c) (no d) (no f) = absurd (distinct i j k o p q r w a c d f x y e)

pub same_link : SamePlaceSameLink
same_link b m l g s t i j k o a z p q r w es et ei ej ek eo kept kept' over over' e =
    one_link b m l g a z i j k o p q r w (record { at_i = ei; at_j = ej; kept = kept; over = over }) (record { at_i = ek; at_j = eo; kept = kept'; over = over' }) e
