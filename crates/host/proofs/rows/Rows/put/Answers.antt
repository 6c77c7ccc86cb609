use Rattle.std.proofs.Common.{arith, w64}
use Rattle.std.proofs.lemmas.Grind.{common_steps}
use Rattle.std.proofs.lemmas.Nat.Bits.{bit_at_set_same, bit_at_set_other, bit_at_clear_same}
use Rattle.host.proofs.Bits.{clear_other}
use Rattle.host.proofs.rows.Rows.put.Goals as goal

pub returns-then-on-clause-there : goal.returns-then-on-clause-there
returns-then-on-clause-there c = grind (arith, common_steps, bit_at_set_same w64)

pub returns-then-on-clause-else_same : goal.returns-then-on-clause-else_same
returns-then-on-clause-else_same c = grind (arith, common_steps, bit_at_set_other w64)

pub returns-else-on-clause-there : goal.returns-else-on-clause-there
returns-else-on-clause-there c = grind (arith, common_steps, bit_at_clear_same w64)

pub returns-else-on-clause-else_same : goal.returns-else-on-clause-else_same
returns-else-on-clause-else_same c = grind (arith, common_steps, clear_other)
