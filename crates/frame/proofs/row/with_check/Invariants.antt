use Rattle.std.proofs.Common.{◌≡◌, take}
use Rattle.frame.proofs.row.with_check.Given as goal

abbrev pub invariant-loop-byte : goal.invariant-loop-byte
invariant-loop-byte l = l.row ≡ take l.byte-index l.front
