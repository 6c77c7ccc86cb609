-- Frames as rows of bytes: a kind, its fields high byte first, and a check byte.
use Rattle.std.specs.Prelude.{ℕ, ◌+◌, ◌-◌, ◌*◌, ◌/◌, ◌%◌, cond, List, [], ◌∷◌, ◌++◌, length, take, Ok, Err, sum, Result, ◌==◌, nat_lt, slice_index}
use Rattle.frame.specs.declared.fault.FrameFault.{FrameFault}
use Rattle.frame.specs.declared.fault.FrameFault.TheVariants.{TooShort, WrongSum, UnknownKind, WrongLength}
use Rattle.frame.specs.declared.Frame.{Frame}
use Rattle.frame.specs.declared.Frame.TheVariants.{Map, Node, Packet, Withdraw, Return, Hop, End}

-- the two bytes of a number
abbrev pub high : ℕ → ℕ
high n = n / 256 % 256

abbrev pub low : ℕ → ℕ
low n = n % 256

-- the number in one byte of a row, at a place, and in two
abbrev pub one : List ℕ → ℕ → ℕ
one bs i = slice_index bs i

abbrev pub two : List ℕ → ℕ → ℕ
two bs i = slice_index bs i * 256 + slice_index bs (i + 1)

-- a frame where the row has the length of its kind
abbrev pub sized : List ℕ → ℕ → Frame → Result Frame FrameFault
sized bs n f = cond (length bs == n) (Ok f) (Err WrongLength)

-- each kind as bytes: the kind, then the fields
abbrev pub body : Frame → List ℕ
body (Map reach planariser host) = 0x4d ∷ high reach ∷ low reach ∷ planariser ∷ host ∷ []
body (Node x y) = 0x4e ∷ high x ∷ low x ∷ high y ∷ low y ∷ []
body (Packet source target) = 0x50 ∷ source ∷ target ∷ []
body (Withdraw node) = 0x57 ∷ node ∷ []
body (Return node) = 0x52 ∷ node ∷ []
body (Hop sender receiver) = 0x48 ∷ sender ∷ receiver ∷ []
body (End source target end total) = 0x44 ∷ source ∷ target ∷ end ∷ high total ∷ low total ∷ []

-- each kind from bytes: the frame in a row whose check byte is right, or the fault of its kind or its length
abbrev pub by_kind : List ℕ → Result Frame FrameFault
by_kind bs =
    cond (one bs 0 == 0x4d) (sized bs 6 (Map (two bs 1) (one bs 3) (one bs 4)))
    (cond (one bs 0 == 0x4e) (sized bs 6 (Node (two bs 1) (two bs 3)))
    (cond (one bs 0 == 0x50) (sized bs 4 (Packet (one bs 1) (one bs 2)))
    (cond (one bs 0 == 0x57) (sized bs 3 (Withdraw (one bs 1)))
    (cond (one bs 0 == 0x52) (sized bs 3 (Return (one bs 1)))
    (cond (one bs 0 == 0x48) (sized bs 4 (Hop (one bs 1) (one bs 2)))
    (cond (one bs 0 == 0x44) (sized bs 7 (End (one bs 1) (one bs 2) (one bs 3) (two bs 4)))
    (Err UnknownKind)))))))

-- the check byte: the sum of a row, modulo 256
abbrev pub check : List ℕ → ℕ
check bs = sum bs % 256

-- a row with its check byte
abbrev pub checked : List ℕ → List ℕ
checked bs = bs ++ check bs ∷ []

-- the frame in a row of bytes, or its first fault: fewer than two bytes, a wrong sum, another kind, another length
abbrev pub frame_in : List ℕ → Result Frame FrameFault
frame_in bs =
    cond (nat_lt (length bs) 2) (Err TooShort)
    (cond (check (take (length bs - 1) bs) == one bs (length bs - 1)) (by_kind bs) (Err WrongSum))
