use Rattle.std.proofs.Common.{arith}
use Rattle.std.proofs.lemmas.Bool.Decides.{nat_tests}
use Rattle.floor.specs.Map.{points_of}
use Rattle.floor.proofs.Charting.{charted}
use Rattle.host.specs.Radios.{radios_all}
use Rattle.host.proofs.storey.Storey.make.Goals as goal

pub returns : goal.returns
returns c = let all = radios_all (points_of c.args.map) 64 (charted c.args.map).few in (grind (arith, nat_tests), cc)
