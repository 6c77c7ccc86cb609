-- Directions in the frames of their starts: their order by angle
use Rattle.std.specs.Prelude.{◌≡◌, ℕ, Bool, true, false, cond, ◌⊎◌, [], ◌∷◌, ℤ, pos, negsuc, ◌+ℤ◌, ◌-ℤ◌, ◌*ℤ◌, neg_ℤ, ◌<ℤ◌, ◌==◌, int_lt, refl}
use Rattle.std.proofs.Common.{sym, ap, ap₂, subst, ◌∙◌, inl, inr, arith}
use borrow.Author.Differences.{ints, true_is_lt, false_is_lt}
use Rattle.std.proofs.Math.IntN.{+ℤ_idl, +ℤ_idr, *ℤ_comm, zero-*ℤ, *ℤ-zero}
use Rattle.plane.proofs.Ring.{var, add, mul, neg, ring}
use Rattle.plane.proofs.Identities.{crossᵉ, A, B, C}
use Rattle.plane.proofs.Positive.{add_pos, mul_pos, div_pos, pos-not-zero}
use Rattle.plane.specs.Plane.{Vector, cross, positive}
use Rattle.order.specs.declared.Start.{Start}
use Rattle.order.specs.declared.Start.TheVariants.{NoTurn, FullTurn}
use Rattle.order.specs.declared.direction.Direction.{Direction}
use Rattle.order.specs.Directions.{part, earlier, start_sector}
use Rattle.order.specs.Ranks.{ranked_never, ranked_trans, ranked_level, ranked_first, ranked_second}

-- within one sector: e is farther on than d
abbrev pub on : Direction → Direction → Bool
on d e = int_lt (d.across *ℤ e.along) (d.along *ℤ e.across)

-- the sign of what lies across, by the sector
abbrev side : ℕ → ℤ
side n = cond (n == 1) (pos 1) (cond (n == 3) (negsuc 0) (pos 0))

-- on a side, or neither
abbrev Sided : ℕ → ℤ → Type 0
Sided n z = (pos 0 <ℤ (side n *ℤ z)) ⊎ ((z ≡ pos 0) × (side n ≡ pos 0))

sided : (d : Direction) → Sided (part d) d.across
sided d = go (positive d.across) refl (int_lt d.across (pos 0)) refl (positive d.along) d.counts
  where
    go : (l : Bool) → positive d.across ≡ l → (r : Bool) → int_lt d.across (pos 0) ≡ r → (f : Bool) (s : Start) → Sided (cond l 1 (cond r 3 (cond f (start_sector s) 2))) d.across
    go true h r k f s = inl (omega (arith, ints))
    go false h true k f s = inl (omega (arith, ints))
    go false h false k true NoTurn = inr (omega (arith, ints), refl)
    go false h false k true FullTurn = inr (omega (arith, ints), refl)
    go false h false k false s = inr (omega (arith, ints), refl)

pub above : (z : ℤ) → positive z ≡ true → pos 0 <ℤ z
above z t = omega (arith, ints)

pub is_positive : (z : ℤ) → pos 0 <ℤ z → positive z ≡ true
is_positive z h = sym (true_is_lt (pos 0) z (omega (arith, ints)))

-- the same test of two numbers, by their signs
pub both_ways : (y z : ℤ) → (pos 0 <ℤ y → pos 0 <ℤ z) → (pos 0 <ℤ z → pos 0 <ℤ y) → positive y ≡ positive z
both_ways y z there back = go (positive y) refl (positive z) refl
  where
    go : (s : Bool) → positive y ≡ s → (t : Bool) → positive z ≡ t → s ≡ t
    go true h true k = refl
    go true h false k = absurd (omega (arith, ints, there (omega (arith, ints))))
    go false h true k = absurd (omega (arith, ints, back (omega (arith, ints))))
    go false h false k = refl

pub by_difference : (y z : ℤ) → int_lt y z ≡ positive (z -ℤ y)
by_difference y z = go (int_lt y z) refl (positive (z -ℤ y)) refl
  where
    go : (s : Bool) → int_lt y z ≡ s → (t : Bool) → positive (z -ℤ y) ≡ t → s ≡ t
    go true h true k = refl
    go true h false k = absurd (omega (arith, ints))
    go false h true k = absurd (omega (arith, ints))
    go false h false k = refl

-- a positive factor does not change a sign
pub same_sign : (y z m n : ℤ) → pos 0 <ℤ m → pos 0 <ℤ n → y *ℤ m ≡ z *ℤ n → positive y ≡ positive z
same_sign y z m n hm hn e = both_ways y z (λ h. div_pos (sym e) hn (mul_pos h hm)) (λ h. div_pos e hm (mul_pos h hn))

clash : true ≡ false → ⊥
clash e = cc

-- in the frame of its start
abbrev pub frame : Direction → Vector
frame d = record { x = d.along; y = d.across }

on_is : (d e : Direction) → on d e ≡ positive (cross (frame d) (frame e))
on_is d e = by_difference (d.across *ℤ e.along) (d.along *ℤ e.across)

flat_on : (d e : Direction) → d.across ≡ pos 0 → e.across ≡ pos 0 → on d e ≡ false
flat_on d e h k = ap₂ int_lt (ap (λ z. z *ℤ e.along) h ∙ zero-*ℤ e.along) (ap (λ z. d.along *ℤ z) k ∙ *ℤ-zero d.along)

-- neither side: no number is on it
no_side : {X : Type 0} (k z : ℤ) → k ≡ pos 0 → pos 0 <ℤ (k *ℤ z) → X
no_side k z e h = pos-not-zero (ap (λ t. t *ℤ z) e ∙ zero-*ℤ z) h

-- three vectors, and what of each is on the side k
compared : (a b c : Vector) (k : ℤ) → cross a c *ℤ (k *ℤ b.y) ≡ cross a b *ℤ (k *ℤ c.y) +ℤ cross b c *ℤ (k *ℤ a.y)
compared a b c k = ring (a.x ∷ a.y ∷ b.x ∷ b.y ∷ c.x ∷ c.y ∷ k ∷ [])
    (mul (crossᵉ A C) (mul (var 6) B.y)) (add (mul (crossᵉ A B) (mul (var 6) C.y)) (mul (crossᵉ B C) (mul (var 6) A.y))) tt

cross_back : (a b : Vector) → cross b a ≡ neg_ℤ (cross a b)
cross_back a b = ring (a.x ∷ a.y ∷ b.x ∷ b.y ∷ []) (crossᵉ B A) (neg (crossᵉ A B)) tt

-- a and b in one direction are alike to c
same_turn : (a b c : Vector) (k : ℤ) → pos 0 <ℤ (k *ℤ a.y) → pos 0 <ℤ (k *ℤ b.y) → cross a b ≡ pos 0 → positive (cross a c) ≡ positive (cross b c)
same_turn a b c k ha hb e = same_sign (cross a c) (cross b c) (k *ℤ b.y) (k *ℤ a.y) hb ha
    (compared a b c k ∙ ap (λ z. z *ℤ (k *ℤ c.y) +ℤ cross b c *ℤ (k *ℤ a.y)) e ∙ ap (λ z. z +ℤ cross b c *ℤ (k *ℤ a.y)) (zero-*ℤ (k *ℤ c.y)) ∙ +ℤ_idl (cross b c *ℤ (k *ℤ a.y)))

same_turn_back : (a b c : Vector) (k : ℤ) → pos 0 <ℤ (k *ℤ a.y) → pos 0 <ℤ (k *ℤ b.y) → cross a b ≡ pos 0 → positive (cross c a) ≡ positive (cross c b)
same_turn_back a b c k ha hb e = same_sign (cross c a) (cross c b) (k *ℤ b.y) (k *ℤ a.y) hb ha
    (compared c b a k ∙ ap (λ z. cross c b *ℤ (k *ℤ a.y) +ℤ z *ℤ (k *ℤ c.y)) (cross_back a b ∙ ap neg_ℤ e) ∙ ap (λ z. cross c b *ℤ (k *ℤ a.y) +ℤ z) (zero-*ℤ (k *ℤ c.y)) ∙ +ℤ_idr (cross c b *ℤ (k *ℤ a.y)))

-- three directions in one sector
module _ (d e f : Direction) (n : ℕ) (hd : Sided n d.across) (he : Sided n e.across) (hf : Sided n f.across) where
  abbrev Halves : Type 0
  Halves = (pos 0 <ℤ (side n *ℤ d.across)) × (pos 0 <ℤ (side n *ℤ e.across)) × (pos 0 <ℤ (side n *ℤ f.across))

  abbrev Flat : Type 0
  Flat = (d.across ≡ pos 0) × (e.across ≡ pos 0) × (f.across ≡ pos 0)

  alike_sided : Halves ⊎ Flat
  alike_sided = go hd he hf
    where
      go : Sided n d.across → Sided n e.across → Sided n f.across → Halves ⊎ Flat
      go (inl p) (inl q) (inl r) = inl (p, q, r)
      go (inl p) (inl q) (inr r) = no_side _ _ r.1 p
      go (inl p) (inr q) r = no_side _ _ q.1 p
      go (inr p) (inl q) r = no_side _ _ p.1 q
      go (inr p) (inr q) (inl r) = no_side _ _ p.1 r
      go (inr p) (inr q) (inr r) = inr (p.0, q.0, r.0)

  on_trans : on d e ≡ true → on e f ≡ true → on d f ≡ true
  on_trans h k = on_is d f ∙ go alike_sided
    where
      go : Halves ⊎ Flat → positive (cross (frame d) (frame f)) ≡ true
      go (inl s) = is_positive (cross (frame d) (frame f)) (div_pos (compared (frame d) (frame e) (frame f) (side n)) s.1
          (add_pos (mul_pos (above (cross (frame d) (frame e)) (sym (on_is d e) ∙ h)) s.2) (mul_pos (above (cross (frame e) (frame f)) (sym (on_is e f) ∙ k)) s.0)))
      go (inr s) = absurd (clash (sym h ∙ flat_on d e s.0 s.1))

  -- neither of d and e is farther on
  module _ (h : on d e ≡ false) (k : on e d ≡ false) where
    level : (z w : ℤ) → w ≡ neg_ℤ z → positive z ≡ false → positive w ≡ false → z ≡ pos 0
    level z w e p q = omega (arith, ints)

    parallel : cross (frame d) (frame e) ≡ pos 0
    parallel = level (cross (frame d) (frame e)) (cross (frame e) (frame d)) (cross_back (frame d) (frame e)) (sym (on_is d e) ∙ h) (sym (on_is e d) ∙ k)

    on_first : on d f ≡ on e f
    on_first = go alike_sided
      where
        go : Halves ⊎ Flat → on d f ≡ on e f
        go (inl s) = on_is d f ∙ same_turn (frame d) (frame e) (frame f) (side n) s.0 s.1 parallel ∙ sym (on_is e f)
        go (inr s) = flat_on d f s.0 s.2 ∙ sym (flat_on e f s.1 s.2)

    on_second : on f d ≡ on f e
    on_second = go alike_sided
      where
        go : Halves ⊎ Flat → on f d ≡ on f e
        go (inl s) = on_is f d ∙ same_turn_back (frame d) (frame e) (frame f) (side n) s.0 s.1 parallel ∙ sym (on_is f e)
        go (inr s) = flat_on f d s.2 s.0 ∙ sym (flat_on f e s.2 s.1)

-- ---- the laws
on_never : (d : Direction) → on d d ≡ false
on_never d = go (d.across *ℤ d.along) (d.along *ℤ d.across) (*ℤ_comm d.across d.along)
  where
    go : (y z : ℤ) → y ≡ z → int_lt y z ≡ false
    go y z e = sym (false_is_lt y z (omega (arith, ints)))

pub never : (d : Direction) → earlier d d ≡ false
never d = ranked_never (part d) (on d d) (on_never d)

moved : (d e : Direction) → part d ≡ part e → Sided (part d) e.across
moved d e h = subst (λ (n : ℕ). Sided n e.across) (sym h) (sided e)

pub transitive : (d e f : Direction) → earlier d e ≡ true → earlier e f ≡ true → earlier d f ≡ true
transitive d e f = ranked_trans (part d) (part e) (part f) (on d e) (on e f) (on d f) (λ i j. on_trans d e f (part d) (sided d) (moved d e i) (moved d f (i ∙ j)))

pub alike : (d e f : Direction) → earlier d e ≡ false → earlier e d ≡ false → (earlier d f ≡ earlier e f) × (earlier f d ≡ earlier f e)
alike d e f h k =
    let same = ranked_level (part d) (part e) (on d e) (on e d) h k in
    let i = same.0 in (
      ranked_first (part d) (part e) (part f) (on d f) (on e f) i (λ j. on_first d e f (part d) (sided d) (moved d e i) (moved d f j) same.1 same.2),
      ranked_second (part d) (part e) (part f) (on f d) (on f e) i (λ j. on_second d e f (part d) (sided d) (moved d e i) (moved d f j) same.1 same.2),
    )
