-- Lines: what one says, what writing one answers and leaves, and how the two belong together.
use Rattle.std.specs.Prelude.{◌≡◌, ℕ, cond, List, ◌++◌, length, take, drop, Ok, Err, Result, nat_lt}
use Rattle.frame.specs.declared.fault.LineFault.{LineFault}
use Rattle.frame.specs.declared.fault.FrameFault.{FrameFault}
use Rattle.frame.specs.declared.fault.FrameFault.TheVariants.{Line}
use Rattle.frame.specs.declared.fault.ShortBuffer.{ShortBuffer}
use Rattle.frame.specs.declared.Frame.{Frame}
use Rattle.frame.specs.Digits.{spelled, bytes_in}
use Rattle.frame.specs.Frames.{body, checked, frame_in}

-- the line of a frame
abbrev pub text : Frame → List ℕ
text f = spelled (checked (body f))

-- the frame in the bytes of a line, where it has some; a line's own fault comes first
abbrev pub of_line : Result (List ℕ) LineFault → Result Frame FrameFault
of_line (Ok bs) = frame_in bs
of_line (Err fault) = Err (Line fault)

-- what a line says
abbrev pub reads : List ℕ → Result Frame FrameFault
reads s = of_line (bytes_in s)

-- what writing a text into a buffer answers: how many characters it has, unless the buffer is shorter
abbrev pub told : List ℕ → List ℕ → Result ℕ ShortBuffer
told t buf = cond (nat_lt (length buf) (length t)) (Err record {}) (Ok (length t))

-- what the buffer holds then: the text in front, or what it held
abbrev pub held : List ℕ → List ℕ → List ℕ
held t buf = cond (nat_lt (length buf) (length t)) buf (t ++ drop (length t) buf)

-- what was written of a frame reads back as that frame
abbrev pub ReadsBack : Frame → List ℕ → Result ℕ ShortBuffer → Type 0
ReadsBack f buf (Ok n) = reads (take n buf) ≡ Ok f
ReadsBack f buf (Err fault) = Unit {0}

-- a line that is accepted is the text of its frame, so no two lines say the same
abbrev pub OnlyText : List ℕ → Result Frame FrameFault → Type 0
OnlyText s (Ok f) = s ≡ text f
OnlyText s (Err fault) = Unit {0}
