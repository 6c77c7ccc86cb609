-- The number of each refusal.
use Rattle.std.specs.Prelude.{ℕ}
use Rattle.frame.specs.declared.fault.LineFault.{LineFault}
use Rattle.frame.specs.declared.fault.LineFault.TheVariants.{TooLong, NotDigit, Odd}
use Rattle.frame.specs.declared.fault.FrameFault.{FrameFault}
use Rattle.frame.specs.declared.fault.FrameFault.TheVariants.{Line, TooShort, WrongSum, UnknownKind, WrongLength}
use Rattle.frame.specs.declared.fault.ShortBuffer.{ShortBuffer}

-- a line's faults
abbrev pub line_number : LineFault → ℕ
line_number TooLong = 10
line_number (NotDigit at) = 11
line_number (Odd digits) = 12

-- a frame's faults: those of its line, and its own
abbrev pub frame_number : FrameFault → ℕ
frame_number (Line fault) = line_number fault
frame_number TooShort = 13
frame_number WrongSum = 14
frame_number UnknownKind = 15
frame_number WrongLength = 16

-- the one fault of writing
abbrev pub buffer_number : ShortBuffer → ℕ
buffer_number fault = 17
