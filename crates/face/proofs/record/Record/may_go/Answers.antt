use Rattle.std.proofs.Common.{arith}
use Rattle.std.proofs.lemmas.Grind.{common_steps}
use Rattle.face.proofs.Hosts.{found_among}
use Rattle.face.proofs.record.Record.may_go.Goals as goal

pub returns : goal.returns
returns g c = grind (arith, common_steps, found_among)
