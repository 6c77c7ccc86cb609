use Rattle.host.specs.Radios.{switched_back}
use Rattle.host.proofs.sides.switching_laws.Goals as goal

pub returns : goal.returns
returns c = switched_back
