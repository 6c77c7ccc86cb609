use Rattle.std.proofs.Common.{arith}
use Rattle.std.proofs.lemmas.Grind.{common_steps}
use Rattle.floor.proofs.Charting.{charted}
use Rattle.std.proofs.lemmas.Option.{slice_get_within}
use Rattle.host.specs.Radios.{get_radios}
use Rattle.host.proofs.storey.Storey.radio.Goals as goal

pub map-requires : goal.map-requires
map-requires c = let few = (charted c.args.self.now.map).few in grind (arith, common_steps, slice_get_within)

pub returns : goal.returns
returns c = grind (arith, common_steps, get_radios)
