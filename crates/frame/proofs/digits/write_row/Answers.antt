use Rattle.std.proofs.Common.{◌≡◌, ◌+◌, ◌*◌, ◌++◌, get_or, take, arith, slice_index_or}
use Rattle.std.proofs.lemmas.List.{length-take-le}
use Rattle.std.proofs.lemmas.Grind.{common_steps}
use Rattle.frame.specs.Digits.{spelled, byte_digits}
use Rattle.frame.proofs.Spelling.{length_spelled, two_over}
use Rattle.frame.proofs.digits.write_row.Goals as goal

pub loop-at-preserved : goal.loop-at-preserved
loop-at-preserved c =
    let bytes = c.as_slice-bytes.result.now in
    let at = c.loop-at.at in
    let over = two_over (spelled (take at bytes)) c.args.buf.now (2 * at) (2 * (at + 1)) (slice_index_or c.spell.result 0 0) (slice_index_or c.spell.result 1 0) (omega (arith, length_spelled (take at bytes), length-take-le at bytes (omega arith))) (omega arith) (omega arith) in
    let more : spelled (take (at + 1) bytes) ≡ spelled (take at bytes) ++ byte_digits (get_or bytes at 0) = grind (arith, common_steps) in
    grind (arith, common_steps)
