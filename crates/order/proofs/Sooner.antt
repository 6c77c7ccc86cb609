-- Which direction is sooner, seen from a start: the order of the directions in its frame, so its laws are theirs
use Rattle.std.proofs.Common.{◌≡◌, ℕ, zero, suc, true, false, cond, eqb, ◌≢◌, ◌⊎◌, [], ◌∷◌, ℤ, pos, negsuc, ◌-ℤ◌, ◌*ℤ◌, neg_ℤ, ◌<ℤ◌, sym, refl, ap, ◌∙◌, subst, inl, inr, arith}
use borrow.Author.Differences.{ints}
use lib.IntN.{+ℤ_comm}
use lib.Signed.{lt_z}
use Rattle.std.proofs.lemmas.Bool.Decides.{eqb_tells}
use Rattle.plane.specs.Plane.{Vector, way, dot, positive}
use Rattle.plane.specs.declared.Point.{Point}
use Rattle.plane.proofs.Ring.{mul, neg, sub, lit, ring}
use Rattle.plane.proofs.Positive.{mul_pos, add_pos_le, square_nonneg}
use Rattle.plane.proofs.Identities.{crossᵉ, dotᵉ, A, B, C}
use Rattle.order.specs.declared.Sense.{Sense}
use Rattle.order.specs.declared.Sense.TheVariants.{Clockwise, Counter}
use Rattle.order.specs.declared.Start.{Start}
use Rattle.order.specs.Directions.{on_from, sector, sooner, direction, part, earlier, start_sector}
use Rattle.order.proofs.Firsts.{Lawful}
use Rattle.order.specs.Ranks.{ranked, ranked_level}
use Rattle.order.specs.Turning as turning
use Rattle.order.specs.Turning.{on, by_difference, same_sign}

pub on_back : (sense : Sense) (d e : Vector) → on_from sense e d ≡ neg_ℤ (on_from sense d e)
on_back Clockwise d e = ring (d.x ∷ d.y ∷ e.x ∷ e.y ∷ []) (crossᵉ A B) (neg (crossᵉ B A)) tt
on_back Counter d e = ring (d.x ∷ d.y ∷ e.x ∷ e.y ∷ []) (crossᵉ B A) (neg (crossᵉ A B)) tt

-- in the frame of s, all cross products grow by the square of s
grown : (sense : Sense) (s d e : Vector)
    → (dot s d *ℤ on_from sense s e -ℤ on_from sense s d *ℤ dot s e) *ℤ pos 1 ≡ on_from sense d e *ℤ dot s s
grown Clockwise s d e = ring (s.x ∷ s.y ∷ d.x ∷ d.y ∷ e.x ∷ e.y ∷ [])
    (mul (sub (mul (dotᵉ A B) (crossᵉ C A)) (mul (crossᵉ B A) (dotᵉ A C))) (lit (pos 1))) (mul (crossᵉ C B) (dotᵉ A A)) tt
grown Counter s d e = ring (s.x ∷ s.y ∷ d.x ∷ d.y ∷ e.x ∷ e.y ∷ [])
    (mul (sub (mul (dotᵉ A B) (crossᵉ A C)) (mul (crossᵉ A B) (dotᵉ A C))) (lit (pos 1))) (mul (crossᵉ B C) (dotᵉ A A)) tt

module _ (sense : Sense) (counts : Start) (s : Vector) where
  pub part_is : (d : Vector) → part (direction sense counts s d) ≡ sector sense counts s d
  part_is d = ap (λ b. cond (positive (on_from sense s d)) 1 (cond b 3 (cond (positive (dot s d)) (start_sector counts) 2)))
      (below (on_from sense s d) (on_from sense d s) (on_back sense s d))
    where
      below : (z w : ℤ) → w ≡ neg_ℤ z → lt_z z (pos 0) ≡ positive w
      below z w e = by_difference z (pos 0) ∙ ap positive (same z w e)
        where
          same : (z w : ℤ) → w ≡ neg_ℤ z → pos 0 -ℤ z ≡ w
          same z w e = omega (arith, ints)

  module _ (far : pos 0 <ℤ dot s s) where
    on_is : (d e : Vector) → on (direction sense counts s d) (direction sense counts s e) ≡ positive (on_from sense d e)
    on_is d e = by_difference (on_from sense s d *ℤ dot s e) (dot s d *ℤ on_from sense s e)
        ∙ same_sign (dot s d *ℤ on_from sense s e -ℤ on_from sense s d *ℤ dot s e) (on_from sense d e) (pos 1) (dot s s) (omega (arith, ints)) far (grown sense s d e)

    -- in the frame of s they are ordered as seen from s
    pub sooner_is : (d e : Vector) → earlier (direction sense counts s d) (direction sense counts s e) ≡ sooner sense counts s d e
    sooner_is d e = λ i. ranked (part_is d i) (part_is e i) (on_is d e i)

    pub never : (d : Vector) → sooner sense counts s d d ≡ false
    never d = sym (sooner_is d d) ∙ turning.never (direction sense counts s d)

    pub transitive : (d e f : Vector) → sooner sense counts s d e ≡ true → sooner sense counts s e f ≡ true → sooner sense counts s d f ≡ true
    transitive d e f h k = sym (sooner_is d f)
        ∙ turning.transitive (direction sense counts s d) (direction sense counts s e) (direction sense counts s f) (sooner_is d e ∙ h) (sooner_is e f ∙ k)

    pub alike : (d e f : Vector) → sooner sense counts s d e ≡ false → sooner sense counts s e d ≡ false
        → (sooner sense counts s d f ≡ sooner sense counts s e f) × (sooner sense counts s f d ≡ sooner sense counts s f e)
    alike d e f h k =
        let same = turning.alike (direction sense counts s d) (direction sense counts s e) (direction sense counts s f) (sooner_is d e ∙ h) (sooner_is e d ∙ k) in
        (sym (sooner_is d f) ∙ same.0 ∙ sooner_is e f, sym (sooner_is f d) ∙ same.1 ∙ sooner_is f e)

-- its laws, for a start that is no zero
pub lawful : (sense : Sense) (counts : Start) (s : Vector) → pos 0 <ℤ dot s s → Lawful (sooner sense counts s) (λ _. Unit {0})
lawful sense counts s far =
    record {
      irreflexive = never sense counts s far;
      transitive = λ d e f pd pe pf. transitive sense counts s far d e f;
      alike = λ d e f pd pe pf. alike sense counts s far d e f;
    }

-- two that are level are along one line
pub level : (sense : Sense) (counts : Start) (s d e : Vector) → sooner sense counts s d e ≡ false → sooner sense counts s e d ≡ false → on_from sense d e ≡ pos 0
level sense counts s d e h k =
    let same = ranked_level (sector sense counts s d) (sector sense counts s e) (positive (on_from sense d e)) (positive (on_from sense e d)) h k in
    go (on_from sense d e) (on_from sense e d) (on_back sense d e) same.1 same.2
  where
    go : (z w : ℤ) → w ≡ neg_ℤ z → positive z ≡ false → positive w ≡ false → z ≡ pos 0
    go z w e p q = omega (arith, ints)

-- two points that are not one are some way apart
square_positive : (z : ℤ) → ¬ (z ≡ pos 0) → pos 0 <ℤ (z *ℤ z)
square_positive (pos zero) n = absurd (n refl)
square_positive (pos (suc m)) n = mul_pos {a = pos (suc m)} {b = pos (suc m)} (omega (arith, ints)) (omega (arith, ints))
square_positive (negsuc m) n = omega (arith, ints)

gap : (a b : ℕ) → ¬ (b ≡ a) → ¬ (pos b -ℤ pos a ≡ pos 0)
gap a b n e = n (omega (arith, ints))

pub same? : (a b : Point) → (b ≡ a) ⊎ (b ≢ a)
same? a b = go (eqb_tells b.x a.x) (eqb_tells b.y a.y)
  where
    go : ((eqb b.x a.x ≡ true) × (b.x ≡ a.x)) ⊎ ((eqb b.x a.x ≡ false) × (b.x ≡ a.x → ⊥))
        → ((eqb b.y a.y ≡ true) × (b.y ≡ a.y)) ⊎ ((eqb b.y a.y ≡ false) × (b.y ≡ a.y → ⊥)) → (b ≡ a) ⊎ (b ≢ a)
    go (inr n) k = inr (λ e. n.1 (ap (λ p. p.x) e))
    go (inl e) (inr n) = inr (λ e. n.1 (ap (λ p. p.y) e))
    go (inl e) (inl f) = inl (λ i. record { x = e.1 i; y = f.1 i })

pub apart : (a b : Point) → b ≢ a → pos 0 <ℤ dot (way a b) (way a b)
apart a b differ = go (eqb_tells b.x a.x) (eqb_tells b.y a.y)
  where
    go : ((eqb b.x a.x ≡ true) × (b.x ≡ a.x)) ⊎ ((eqb b.x a.x ≡ false) × (b.x ≡ a.x → ⊥))
        → ((eqb b.y a.y ≡ true) × (b.y ≡ a.y)) ⊎ ((eqb b.y a.y ≡ false) × (b.y ≡ a.y → ⊥)) → pos 0 <ℤ dot (way a b) (way a b)
    go (inr n) k = add_pos_le (square_positive (way a b).x (gap a.x b.x n.1)) (square_nonneg (way a b).y)
    go (inl e) (inr n) = subst (λ (z : ℤ). pos 0 <ℤ z) (+ℤ_comm ((way a b).y *ℤ (way a b).y) ((way a b).x *ℤ (way a b).x))
        (add_pos_le (square_positive (way a b).y (gap a.y b.y n.1)) (square_nonneg (way a b).x))
    go (inl e) (inl f) = absurd (differ (λ i. record { x = e.1 i; y = f.1 i }))

-- the same of points
pub points_sooner : (sense : Sense) (counts : Start) (at start x y : Point) → start ≢ at
    → earlier (direction sense counts (way at start) (way at x)) (direction sense counts (way at start) (way at y)) ≡ sooner sense counts (way at start) (way at x) (way at y)
points_sooner sense counts at start x y differ = sooner_is sense counts (way at start) (apart at start differ) (way at x) (way at y)
