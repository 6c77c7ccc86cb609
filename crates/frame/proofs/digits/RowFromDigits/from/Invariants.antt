use Rattle.std.proofs.Common.{◌≡◌, length, map, take}
use Rattle.frame.proofs.Spelling.{pair_worth}
use Rattle.frame.proofs.digits.RowFromDigits.from.Given as goal

abbrev pub invariant-loop-at : goal.invariant-loop-at
invariant-loop-at l = record { size : length l.bytes ≡ 40; row : take l.at l.bytes ≡ map pair_worth (take l.at l.pairs) }
