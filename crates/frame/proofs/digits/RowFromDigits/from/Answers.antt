use Rattle.std.proofs.Common.{◌≡◌, length, take_all, arith}
use Rattle.frame.proofs.Spelling.{pairs, pairs_worth, pair_at}
use Rattle.frame.proofs.digits.RowFromDigits.from.Goals as goal

pub from_digit-requires : goal.from_digit-requires
from_digit-requires c =
    (pair_at c.digits.inside.line.now c.as_chunks.result.0.now c.loop-at.at c.digits.invariant c.as_chunks.ensures.front c.loop-at-test.true).0

pub from_digit-requires-in-loop-at : goal.from_digit-requires-in-loop-at
from_digit-requires-in-loop-at c =
    (pair_at c.digits.inside.line.now c.as_chunks.result.0.now c.loop-at.at c.digits.invariant c.as_chunks.ensures.front c.loop-at-test.true).1

pub returns : goal.returns
returns c =
    let line = c.digits.inside.line.now in
    let ps = c.as_chunks.result.0.now in
    let at : c.loop-at.at ≡ length ps = omega arith in
    let all = take_all (length ps) ps (omega arith) in
    let front : ps ≡ pairs line = c.as_chunks.ensures.front in
    let worths = pairs_worth line in
    cc
