-- Rows of bits: what writing a bit alters, and which comes next.
use Rattle.std.proofs.Common.{◌≡◌, ℕ, ◌+◌, ◌-◌, ◌*◌, ◌/◌, ◌%◌, ◌^◌, ◌<◌, ◌≤◌, ◌≢◌, sym, ap, ◌∙◌, ⊎_elim, arith, bit_and, w64}
use Rattle.std.specs.Int.{bit_at, bit_not, trailing_zeros}
use Rattle.std.proofs.lemmas.Bool.{cases_lt}
use Rattle.std.proofs.lemmas.Nat.{shr-shr, shr_le, and_le_l}
use Rattle.std.proofs.lemmas.Nat.Bits.{bit_at-zero, bit_at-trailing_zeros, bit_at_above, bit_at_clear_other}

-- a bit that is cleared leaves every other as it was, those past the row too
pub clear_other : (n k : ℕ) → k < 64 → n < 2 ^ 64 → (i : ℕ) → i ≢ k → bit_at (bit_and n (bit_not w64 (1 * 2 ^ k % 2 ^ 64))) i ≡ bit_at n i
clear_other n k within small i ne =
    let m = bit_not w64 (1 * 2 ^ k % 2 ^ 64) in
    ⊎_elim
    (λ lt. bit_at_clear_other w64 n k within i lt ne)
    (λ past. bit_at_above (bit_and n m) 64 i (omega (arith, and_le_l n m)) past ∙ sym (bit_at_above n 64 i small past))
    (cases_lt i 64)

-- what is left of a row after a shift
shifted : (r j k : ℕ) → j ≤ k → bit_at r k ≡ bit_at (r / 2 ^ j) (k - j)
shifted r j k le = ap (bit_at r) (let e : k ≡ j + (k - j) = omega arith in e) ∙ sym (ap (λ n. n % 2) (shr-shr r j (k - j)))

-- the next bit of a row from place j on: none, or the first
pub next_none : (r j k : ℕ) → r / 2 ^ j ≡ 0 → j ≤ k → bit_at r k ≡ 0
next_none r j k e le = shifted r j k le ∙ ap (λ n. bit_at n (k - j)) e ∙ bit_at-zero (k - j)

pub next_some : (r j : ℕ) → 0 < r / 2 ^ j → r < 2 ^ 64 → let n = j + trailing_zeros w64 (r / 2 ^ j) in (n < 64) × (bit_at r n ≡ 1) × ((k : ℕ) → j ≤ k → k < n → bit_at r k ≡ 0)
next_some r j some small =
    let t = trailing_zeros w64 (r / 2 ^ j) in
    let lowest = bit_at-trailing_zeros w64 (r / 2 ^ j) some (omega (arith, shr_le r j)) in
    let hit : bit_at r (j + t) ≡ 1 = sym (ap (λ n. n % 2) (shr-shr r j t)) ∙ lowest.1 in
    let room : j + t < 64 = ⊎_elim (λ lt. lt) (λ past. absurd (omega (arith, hit, bit_at_above r 64 (j + t) small past))) (cases_lt (j + t) 64) in
    (room, hit, λ k le lt. shifted r j k le ∙ lowest.2 (k - j) (omega arith))
