use mathlib.Core.Path.{◌≡◌}
use mathlib.Core.Logic.{◌⊎◌, inl, inr}
use lib.IntN.{pos, neg_ℤ}
use lib.Signed.{◌<ℤ◌, ◌≤ℤ◌}
use Rattle.plane.proofs.Vectors.{Vector, turn, inner}
use Rattle.plane.proofs.Ring.{add, mul, neg, lit, ring}
use Rattle.plane.proofs.Identities.{turnᵉ, innerᵉ, A, B, C, D, env}
use Rattle.plane.proofs.Positive.{add_pos, mul_pos, neg_pos, pos-not-zero, sign_of}

-- cyclic symmetry, antisymmetry
pub turn_cycle : (a b c : Vector) → turn a b c ≡ turn b c a
turn_cycle a b c = ring (env a b c c) (turnᵉ A B C) (turnᵉ B C A) tt

pub turn_swap : (a b c : Vector) → turn b a c ≡ neg_ℤ (turn a b c)
turn_swap a b c = ring (env a b c c) (turnᵉ B A C) (neg (turnᵉ A B C)) tt

-- of two segments that cross, one has an end in the closed disc over the other
pub crossing_disc : (a b c d : Vector) → turn a b c <ℤ pos 0 → pos 0 <ℤ turn a b d → pos 0 <ℤ turn c d a → turn c d b <ℤ pos 0
    → (inner a b c ≤ℤ pos 0) ⊎ (inner a b d ≤ℤ pos 0) ⊎ (inner c d a ≤ℤ pos 0) ⊎ (inner c d b ≤ℤ pos 0)
crossing_disc a b c d h k l m = go (sign_of (inner a b c) (pos 0)) (sign_of (inner a b d) (pos 0)) (sign_of (inner c d a) (pos 0)) (sign_of (inner c d b) (pos 0))
  where
    go : (inner a b c ≤ℤ pos 0) ⊎ (pos 0 <ℤ inner a b c) → (inner a b d ≤ℤ pos 0) ⊎ (pos 0 <ℤ inner a b d) → (inner c d a ≤ℤ pos 0) ⊎ (pos 0 <ℤ inner c d a) → (inner c d b ≤ℤ pos 0) ⊎ (pos 0 <ℤ inner c d b)
        → (inner a b c ≤ℤ pos 0) ⊎ (inner a b d ≤ℤ pos 0) ⊎ (inner c d a ≤ℤ pos 0) ⊎ (inner c d b ≤ℤ pos 0)
    go (inl p) q r s = inl p
    go (inr p) (inl q) r s = inr (inl q)
    go (inr p) (inr q) (inl r) s = inr (inr (inl r))
    go (inr p) (inr q) (inr r) (inl s) = inr (inr (inr s))
    go (inr p) (inr q) (inr r) (inr s) = pos-not-zero
        (ring (env a b c d) (add (add (mul (turnᵉ A B D) (innerᵉ A B C)) (mul (neg (turnᵉ A B C)) (innerᵉ A B D))) (add (mul (neg (turnᵉ C D B)) (innerᵉ C D A)) (mul (turnᵉ C D A) (innerᵉ C D B)))) (lit (pos 0)) tt)
        (add_pos (add_pos (mul_pos k p) (mul_pos (neg_pos h) q)) (add_pos (mul_pos (neg_pos m) r) (mul_pos l s)))
