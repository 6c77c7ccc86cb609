-- A product is negative just when its factors have opposite signs.
use Rattle.std.proofs.Common.{◌≡◌, ℕ, zero, suc, Bool, true, false, ◌&&◌, ◌||◌, ℤ, pos, negsuc, ◌*ℤ◌, ◌≤ℤ◌, ◌<ℤ◌, sym, ◌∙◌, arith}
use lib.Signed.{lt_z}
use borrow.Author.Differences.{ints}
use Rattle.face.specs.Crossing.{opposite}

below : (z : ℤ) → z <ℤ pos 0 → lt_z z (pos 0) ≡ true
below z h = grind (arith, ints)

not_below : (z : ℤ) → pos 0 ≤ℤ z → lt_z z (pos 0) ≡ false
not_below z h = grind (arith, ints)

abbrev pub unlike : ℤ → ℤ → Bool
unlike y z = (lt_z y (pos 0) && lt_z (pos 0) z) || (lt_z (pos 0) y && lt_z z (pos 0))

module _ (m n : ℕ) where
  both_pos : unlike (pos m) (pos n) ≡ false
  both_pos = grind (arith, ints)

  both_neg : unlike (negsuc m) (negsuc n) ≡ false
  both_neg = grind (arith, ints)

  pos_neg : unlike (pos (suc m)) (negsuc n) ≡ true
  pos_neg = grind (arith, ints)

  neg_pos : unlike (negsuc m) (pos (suc n)) ≡ true
  neg_pos = grind (arith, ints)

pub unlike_is_opposite : (y z : ℤ) → unlike y z ≡ opposite y z
unlike_is_opposite (pos m) (pos n) = both_pos m n ∙ sym (not_below (pos m *ℤ pos n) (omega (arith, ints)))
unlike_is_opposite (pos zero) (negsuc n) = sym (not_below (pos 0 *ℤ negsuc n) (omega (arith, ints)))
unlike_is_opposite (pos (suc m)) (negsuc n) = pos_neg m n ∙ sym (below (pos (suc m) *ℤ negsuc n) (omega (arith, ints)))
unlike_is_opposite (negsuc m) (pos zero) = sym (not_below (negsuc m *ℤ pos 0) (omega (arith, ints)))
unlike_is_opposite (negsuc m) (pos (suc n)) = neg_pos m n ∙ sym (below (negsuc m *ℤ pos (suc n)) (omega (arith, ints)))
unlike_is_opposite (negsuc m) (negsuc n) = both_neg m n ∙ sym (not_below (negsuc m *ℤ negsuc n) (omega (arith, ints)))
