use Rattle.std.proofs.Common.{arith}
use Rattle.std.proofs.lemmas.Grind.{common_steps}
use Rattle.host.specs.Radios.{get_radios}
use Rattle.host.proofs.storey.Storey.node.Goals as goal

pub returns : goal.returns
returns c = grind (arith, common_steps, get_radios)
