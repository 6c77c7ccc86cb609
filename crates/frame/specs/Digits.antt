-- Bytes as hexadecimal digits, two a byte, the high half first. A character is its code.
use Rattle.std.specs.Prelude.{ℕ, ◌+◌, ◌-◌, ◌*◌, ◌/◌, ◌%◌, Bool, cond, ◌&&◌, ◌||◌, List, [], ◌∷◌, length, Ok, Err, Result, ◌==◌, nat_le, nat_lt}
use Rattle.std.specs.List.{flat_map, prefix_len}
use Rattle.frame.specs.declared.fault.LineFault.{LineFault}
use Rattle.frame.specs.declared.fault.LineFault.TheVariants.{TooLong, NotDigit, Odd}

-- the digit of a number below 16: 0 to 9, then a to f
abbrev pub digit : ℕ → ℕ
digit n = cond (nat_lt n 10) (48 + n) (87 + n)

-- whether a character is a digit: 0 to 9, or a to f
abbrev pub is_digit : ℕ → Bool
is_digit c = (nat_le 48 c && nat_le c 57) || (nat_le 97 c && nat_le c 102)

-- the number that a digit stands for
abbrev pub worth : ℕ → ℕ
worth c = cond (nat_lt c 58) (c - 48) (c - 87)

-- the two digits of a byte
abbrev pub byte_digits : ℕ → List ℕ
byte_digits b = digit (b / 16) ∷ digit (b % 16) ∷ []

-- the digits of a row of bytes
abbrev pub spelled : List ℕ → List ℕ
spelled bs = flat_map byte_digits bs

-- the bytes that digits spell, two by two
abbrev pub paired : List ℕ → List ℕ
paired [] = []
paired (c ∷ []) = []
paired (c ∷ d ∷ s) = (worth c * 16 + worth d) ∷ paired s

-- the bytes in a line, or its first fault: more than 80 characters, the first character that is no digit, an odd number of digits
abbrev pub bytes_in : List ℕ → Result (List ℕ) LineFault
bytes_in s =
    cond (nat_lt 80 (length s)) (Err TooLong)
    (cond (nat_lt (prefix_len is_digit s) (length s)) (Err (NotDigit (prefix_len is_digit s)))
    (cond (length s % 2 == 1) (Err (Odd (length s))) (Ok (paired s))))
