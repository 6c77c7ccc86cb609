-- Digits and the bytes that they spell.
use Rattle.std.proofs.Common.{◌≡◌, ℕ, suc, ◌+◌, ◌-◌, ◌*◌, ◌/◌, ◌%◌, ◌<◌, ◌≤◌, true, not, List, [], ◌∷◌, ◌++◌, length, map, drop, set, get_or, All, Ok, refl, ap, ◌∙◌, arith}
use Rattle.std.proofs.Math.Bool.{not-not}
use Rattle.std.proofs.lemmas.List.{drop_more, set_at, set-append_right}
use Rattle.std.proofs.lemmas.List.Elements.{All-nil, All-cons, All-head, All-tail, All-same}
use Rattle.std.proofs.lemmas.List.Sums.{prefix_len_is, prefix_len_passes}
use Rattle.std.proofs.lemmas.Bool.Decides.{nat_tests}
use Rattle.std.specs.List.{prefix_len, position_or_len}
use Rattle.std.specs.Simd.{first_chunks}
use Rattle.frame.specs.Digits.{digit, is_digit, worth, spelled, paired, bytes_in}

-- every character is a digit
abbrev pub Digits : List ℕ → Type 0
Digits s = All (λ c. is_digit c ≡ true) s

-- every number is a byte
abbrev pub Bytes : List ℕ → Type 0
Bytes bs = All (λ b. b < 256) bs

-- a digit and its number, there and back
pub worth_digit : (n : ℕ) → n < 16 → worth (digit n) ≡ n
worth_digit n h = grind (arith, nat_tests)

pub is_digit_digit : (n : ℕ) → n < 16 → is_digit (digit n) ≡ true
is_digit_digit n h = grind (arith, nat_tests)

pub digit_worth : (c : ℕ) → is_digit c ≡ true → digit (worth c) ≡ c
digit_worth c h = grind (arith, nat_tests)

pub worth_small : (c : ℕ) → is_digit c ≡ true → worth c < 16
worth_small c h = grind (arith, nat_tests)

-- the first character that is no digit stands behind the digits in front
pub position_is : (s : List ℕ) → position_or_len (λ c. not (is_digit c)) s ≡ prefix_len is_digit s
position_is [] = refl
position_is (c ∷ s) = rw (not-not, position_is s)

-- a line that has bytes is of digits, and digits of an even number, few enough for a line, have some
pub digits_in : (s bs : List ℕ) → bytes_in s ≡ Ok bs → Digits s
digits_in s bs e =
    let whole : length s ≤ prefix_len is_digit s = grind (arith, nat_tests) in
    λ k d h. prefix_len_passes is_digit s k d (omega arith)

pub bytes_of : (s : List ℕ) → Digits s → length s ≤ 80 → length s % 2 ≡ 0 → bytes_in s ≡ Ok (paired s)
bytes_of s h short even =
    let whole = prefix_len_is is_digit s (length s) 0 (omega arith) (λ k lt. h k 0 lt) (λ lt. absurd (omega arith)) in
    grind (arith, nat_tests)

-- the first of some digits, the rest, and one more in front
first : (c : ℕ) (s : List ℕ) → Digits (c ∷ s) → is_digit c ≡ true
first c s h = All-head (λ c. is_digit c ≡ true) c s h

rest : (c : ℕ) (s : List ℕ) → Digits (c ∷ s) → Digits s
rest c s h = All-tail (λ c. is_digit c ≡ true) c s h

both : (c : ℕ) (s : List ℕ) → is_digit c ≡ true → Digits s → Digits (c ∷ s)
both c s h k = All-cons (λ c. is_digit c ≡ true) c s h k

-- bytes and their digits, there and back
pub length_spelled : (bs : List ℕ) → length (spelled bs) ≡ 2 * length bs
length_spelled [] = refl
length_spelled (b ∷ bs) = omega (arith, length_spelled bs)

pub spelled_digits : (bs : List ℕ) → Bytes bs → Digits (spelled bs)
spelled_digits [] h = All-nil _
spelled_digits (b ∷ bs) h =
    let small = All-head (λ b. b < 256) b bs h in
    let others = spelled_digits bs (All-tail (λ b. b < 256) b bs h) in
    let low = is_digit_digit (b % 16) (omega arith) in
    both (digit (b / 16)) (digit (b % 16) ∷ spelled bs) (is_digit_digit (b / 16) (omega arith)) (both (digit (b % 16)) (spelled bs) low others)

pub paired_spelled : (bs : List ℕ) → Bytes bs → paired (spelled bs) ≡ bs
paired_spelled [] h = refl
paired_spelled (b ∷ bs) h =
    let small = All-head (λ b. b < 256) b bs h in
    let high = worth_digit (b / 16) (omega arith) in
    let low = worth_digit (b % 16) (omega arith) in
    let whole : worth (digit (b / 16)) * 16 + worth (digit (b % 16)) ≡ b = omega (arith, high, low) in
    cc (whole, paired_spelled bs (All-tail (λ b. b < 256) b bs h))

pub spelled_paired : (s : List ℕ) → Digits s → length s % 2 ≡ 0 → spelled (paired s) ≡ s
spelled_paired [] h e = refl
spelled_paired (c ∷ []) h e = absurd (omega (arith, e))
spelled_paired (c ∷ d ∷ s) h e =
    let high = first c (d ∷ s) h in
    let low = first d s (rest c (d ∷ s) h) in
    let small = worth_small d low in
    let high_half : (worth c * 16 + worth d) / 16 ≡ worth c = omega (arith, small) in
    let low_half : (worth c * 16 + worth d) % 16 ≡ worth d = omega (arith, small) in
    let others = spelled_paired s (rest d s (rest c (d ∷ s) h)) (omega (arith, e)) in
    cc (ap digit high_half ∙ digit_worth c high, ap digit low_half ∙ digit_worth d low, others)

pub paired_bytes : (s : List ℕ) → Digits s → Bytes (paired s)
paired_bytes [] h = All-nil _
paired_bytes (c ∷ []) h = All-nil _
paired_bytes (c ∷ d ∷ s) h =
    let high = worth_small c (first c (d ∷ s) h) in
    let low = worth_small d (first d s (rest c (d ∷ s) h)) in
    All-cons (λ b. b < 256) (worth c * 16 + worth d) (paired s) (omega arith) (paired_bytes s (rest d s (rest c (d ∷ s) h)))

-- two characters over those behind a front of a text
pub two_over :
    (front s : List ℕ) (n m x y : ℕ) → length front ≡ n → n + 1 < length s → m ≡ n + 2 →
    set (set (front ++ drop n s) n x) (n + 1) y ≡ front ++ x ∷ y ∷ drop m s
two_over front s n m x y size h two =
    let first = drop_more s n 0 (omega arith) in
    let second = drop_more s (n + 1) 0 h in
    let on : n + 1 + 1 ≡ m = omega arith in
    let split : drop n s ≡ get_or s n 0 ∷ get_or s (n + 1) 0 ∷ drop m s = first ∙ ap (λ r. get_or s n 0 ∷ r) (second ∙ ap (λ k. get_or s (n + 1) 0 ∷ drop k s) on) in
    let one : n + 1 - n ≡ 1 = omega arith in
    ap (λ r. set (set (front ++ r) n x) (n + 1) y) split ∙
    ap (λ r. set r (n + 1) y) (set_at front (get_or s n 0) (get_or s (n + 1) 0 ∷ drop m s) x n size) ∙
    set-append_right front (x ∷ get_or s (n + 1) 0 ∷ drop m s) n (n + 1) y size (omega arith) ∙
    ap (λ k. front ++ set (x ∷ get_or s (n + 1) 0 ∷ drop m s) k y) one

-- the pairs of a line: the number that two digits spell, and that both are digits
abbrev pub pair_worth : List ℕ → ℕ
pair_worth p = worth (get_or p 0 0) * 16 + worth (get_or p 1 0)

abbrev pub PairDigits : List ℕ → Type 0
PairDigits p = (is_digit (get_or p 0 0) ≡ true) × (is_digit (get_or p 1 0) ≡ true)

abbrev pub pairs : List ℕ → List (List ℕ)
pairs s = first_chunks 2 (length s / 2) s

halved : (n : ℕ) → suc (suc n) / 2 ≡ suc (n / 2)
halved n = omega arith

pub pairs_worth : (s : List ℕ) → map pair_worth (pairs s) ≡ paired s
pairs_worth [] = refl
pairs_worth (c ∷ []) = refl
pairs_worth (c ∷ d ∷ s) = rw (halved (length s)) (ap (λ bs. (worth c * 16 + worth d) ∷ bs) (pairs_worth s))

pub pairs_digits : (s : List ℕ) → Digits s → All PairDigits (pairs s)
pairs_digits [] h = All-nil _
pairs_digits (c ∷ []) h = All-nil _
pairs_digits (c ∷ d ∷ s) h =
    let here : PairDigits (c ∷ d ∷ []) = (first c (d ∷ s) h, first d s (rest c (d ∷ s) h)) in
    rw (halved (length s)) (All-cons PairDigits (c ∷ d ∷ []) (pairs s) here (pairs_digits s (rest d s (rest c (d ∷ s) h))))

-- a place of the pairs of a line that has bytes
pub pair_at : (s : List ℕ) (ps : List (List ℕ)) (i : ℕ) → bytes_in s ≡ Ok (paired s) → ps ≡ pairs s → i < length ps → PairDigits (get_or ps i [])
pair_at s ps i e same h = All-same PairDigits ps (pairs s) same (pairs_digits s (digits_in s (paired s) e)) i [] h
