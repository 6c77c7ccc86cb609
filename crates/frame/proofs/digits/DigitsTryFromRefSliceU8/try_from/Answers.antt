use Rattle.std.proofs.Common.{arith}
use Rattle.std.proofs.lemmas.Bool.Decides.{nat_tests}
use Rattle.frame.proofs.Spelling.{position_is}
use Rattle.frame.proofs.digits.DigitsTryFromRefSliceU8.try_from.Goals as goal

pub returns-in-Some : goal.returns-in-Some
returns-in-Some c = grind (arith, nat_tests, position_is c.args.line.now)

pub returns-then-line-eq1 : goal.returns-then-line-eq1
returns-then-line-eq1 c = grind (arith, nat_tests, position_is c.args.line.now)

pub invariant_of-result : goal.invariant_of-result
invariant_of-result c = grind (arith, nat_tests, position_is c.args.line.now)

pub returns : goal.returns
returns c = grind (arith, nat_tests, position_is c.args.line.now)
