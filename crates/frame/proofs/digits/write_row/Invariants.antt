use Rattle.std.proofs.Common.{◌≡◌, ◌*◌, ◌++◌, take, drop}
use Rattle.frame.specs.Digits.{spelled}
use Rattle.frame.proofs.digits.write_row.Given as goal

abbrev pub invariant-loop-at : goal.invariant-loop-at
invariant-loop-at l = l.buf ≡ spelled (take l.at l.bytes) ++ drop (2 * l.at) l.initial.buf
