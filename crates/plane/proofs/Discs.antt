-- Two segments that cross: an end of one lies in the closed disc over the other. All orientations.
use mathlib.Core.Path.{◌≡◌, sym, subst}
use mathlib.Core.Logic.{◌⊎◌, inl, inr}
use mathlib.Core.Bool.{Bool, true, false}
use native.Mathlib.Omega.{arith}
use lib.Dec.{T}
use lib.IntN.{ℤ, pos, ◌+ℤ◌, ◌-ℤ◌, neg_ℤ}
use lib.Signed.{◌<ℤ◌, ◌≤ℤ◌}
use borrow.Author.Differences.{ints}
use Rattle.plane.proofs.Vectors.{Vector, turn, inner}
use Rattle.plane.proofs.Sites.{node, L, xor, and, crossing}
use Rattle.plane.proofs.Ring.{add, sub, lit, ring}
use Rattle.plane.proofs.Identities.{turnᵉ, innerᵉ, A, B, C, D, env}
use Rattle.plane.proofs.Positive.{pos_neg}
use Rattle.plane.proofs.Facts.{crossing_disc, turn_swap}
use Rattle.plane.proofs.Determinants.{det_turn}
use Rattle.plane.proofs.Signs.{St}
use Rattle.plane.proofs.Strip.{Off, left_sign}

abbrev pub InDisc : Vector → Vector → Vector → Vector → Type 0
InDisc a b c d = (inner a b c ≤ℤ pos 0) ⊎ (inner a b d ≤ℤ pos 0) ⊎ (inner c d a ≤ℤ pos 0) ⊎ (inner c d b ≤ℤ pos 0)

pub turn_sign : (a b c : Vector) → Off (node a) (node b) (node c) → St (L (node a) (node b) (node c)) (turn a b c)
turn_sign a b c n = subst (λ z. St (L (node a) (node b) (node c)) z) (det_turn a b c) (left_sign (node a) (node b) (node c) n)

inner_swap : (a b c : Vector) → inner b a c ≡ inner a b c
inner_swap a b c = ring (env a b c c) (innerᵉ B A C) (innerᵉ A B C) tt

around : (a b c d : Vector) → (turn a b d -ℤ turn a b c) +ℤ (turn c d b -ℤ turn c d a) ≡ pos 0
around a b c d = ring (env a b c d) (add (sub (turnᵉ A B D) (turnᵉ A B C)) (sub (turnᵉ C D B) (turnᵉ C D A))) (lit (pos 0)) tt

no_way : (w x y z : ℤ) → (x -ℤ w) +ℤ (z -ℤ y) ≡ pos 0 → w <ℤ pos 0 → pos 0 <ℤ x → y <ℤ pos 0 → pos 0 <ℤ z → ⊥
no_way w x y z e h k l m = omega (arith, ints)

pub discs : (a b c d : Vector) (p q r s : Bool) → St p (turn a b c) → St q (turn a b d) → St r (turn c d a) → St s (turn c d b) → and (xor p q) (xor r s) ≡ true → InDisc a b c d
discs a b c d true true r s hp hq hr hs e = absurd (subst T (sym e) tt)
discs a b c d false false r s hp hq hr hs e = absurd (subst T (sym e) tt)
discs a b c d true false true true hp hq hr hs e = absurd (subst T (sym e) tt)
discs a b c d true false false false hp hq hr hs e = absurd (subst T (sym e) tt)
discs a b c d false true true true hp hq hr hs e = absurd (subst T (sym e) tt)
discs a b c d false true false false hp hq hr hs e = absurd (subst T (sym e) tt)
discs a b c d false true true false hp hq hr hs e = crossing_disc a b c d (pos_neg hp.is) hq.is hr.is (pos_neg hs.is)
discs a b c d true false false true hp hq hr hs e = turned (crossing_disc a b d c (pos_neg hq.is) hp.is
    (subst (λ z. pos 0 <ℤ z) (sym (turn_swap c d a)) hr.is) (subst (λ z. z <ℤ pos 0) (sym (turn_swap c d b)) (minus (turn c d b) hs.is)))
  where
    minus : (z : ℤ) → pos 0 <ℤ z → neg_ℤ z <ℤ pos 0
    minus z h = omega (arith, ints)

    turned : InDisc a b d c → InDisc a b c d
    turned (inl h) = inr (inl h)
    turned (inr (inl h)) = inl h
    turned (inr (inr (inl h))) = inr (inr (inl (subst (λ z. z ≤ℤ pos 0) (inner_swap c d a) h)))
    turned (inr (inr (inr h))) = inr (inr (inr (subst (λ z. z ≤ℤ pos 0) (inner_swap c d b) h)))
discs a b c d false true false true hp hq hr hs e = absurd (no_way (turn a b c) (turn a b d) (turn c d a) (turn c d b) (around a b c d) (pos_neg hp.is) hq.is (pos_neg hr.is) hs.is)
discs a b c d true false true false hp hq hr hs e = absurd (no_way (turn a b d) (turn a b c) (turn c d b) (turn c d a) (back (turn a b c) (turn a b d) (turn c d a) (turn c d b) (around a b c d)) (pos_neg hq.is) hp.is (pos_neg hs.is) hr.is)
  where
    back : (w x y z : ℤ) → (x -ℤ w) +ℤ (z -ℤ y) ≡ pos 0 → (w -ℤ x) +ℤ (y -ℤ z) ≡ pos 0
    back w x y z e = omega (arith, ints)

-- PLANARITY: links a b and c d that cross
pub crossing_discs : (a b c d : Vector) → Off (node a) (node b) (node c) → Off (node a) (node b) (node d) → Off (node c) (node d) (node a) → Off (node c) (node d) (node b)
    → crossing (node a) (node b) (node c) (node d) ≡ true → InDisc a b c d
crossing_discs a b c d p q r s e = discs a b c d _ _ _ _ (turn_sign a b c p) (turn_sign a b d q) (turn_sign c d a r) (turn_sign c d b s) e
