use Rattle.std.proofs.Common.{arith}
use Rattle.std.proofs.lemmas.Grind.{common_steps}
use Rattle.host.specs.Radios.{length_radios}
use Rattle.host.proofs.storey.Storey.count.Goals as goal

pub returns : goal.returns
returns c = grind (arith, common_steps, length_radios)
