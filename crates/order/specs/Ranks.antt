-- An order by a rank first, and within one rank by a test
use Rattle.std.specs.Prelude.{◌≡◌, ℕ, Bool, true, false, ◌&&◌, ◌||◌, ◌==◌, nat_lt}
use Rattle.std.proofs.Common.{arith}
use Rattle.std.proofs.lemmas.Bool.Decides.{nat_tests}

abbrev pub ranked : ℕ → ℕ → Bool → Bool
ranked i j t = nat_lt i j || (i == j && t)

pub ranked_never : (i : ℕ) (t : Bool) → t ≡ false → ranked i i t ≡ false
ranked_never i t h = grind (arith, nat_tests)

pub ranked_trans : (i j k : ℕ) (xy yz xz : Bool) → (i ≡ j → j ≡ k → xy ≡ true → yz ≡ true → xz ≡ true)
    → ranked i j xy ≡ true → ranked j k yz ≡ true → ranked i k xz ≡ true
ranked_trans i j k xy yz xz within h g = grind (arith, nat_tests)

pub ranked_level : (i j : ℕ) (xy yx : Bool) → ranked i j xy ≡ false → ranked j i yx ≡ false → (i ≡ j) × (xy ≡ false) × (yx ≡ false)
ranked_level i j xy yx h g = (grind (arith, nat_tests), grind (arith, nat_tests), grind (arith, nat_tests))

-- one rank, and within it one answer
pub ranked_first : (i j k : ℕ) (xz yz : Bool) → i ≡ j → (i ≡ k → xz ≡ yz) → ranked i k xz ≡ ranked j k yz
ranked_first i j k xz yz e within = grind (arith, nat_tests)

pub ranked_second : (i j k : ℕ) (zx zy : Bool) → i ≡ j → (i ≡ k → zx ≡ zy) → ranked k i zx ≡ ranked k j zy
ranked_second i j k zx zy e within = grind (arith, nat_tests)
