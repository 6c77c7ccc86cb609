use Rattle.std.proofs.Common.{arith}
use Rattle.std.proofs.lemmas.Grind.{common_steps}
use Rattle.host.proofs.Bits.{next_none, next_some}
use Rattle.host.proofs.rows.Rows.next.Goals as goal

pub returns-in-0 : goal.returns-in-0
returns-in-0 c = grind (arith, common_steps, next_none)

pub returns-in_default : goal.returns-in_default
returns-in_default c = grind (arith, common_steps, next_some)
