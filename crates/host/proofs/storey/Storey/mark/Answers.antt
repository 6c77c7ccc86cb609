use Rattle.std.proofs.Common.{arith}
use Rattle.std.proofs.lemmas.Grind.{common_steps}
use Rattle.floor.proofs.Charting.{charted}
use Rattle.host.specs.Radios.{mark_set, mark_past}
use Rattle.host.proofs.storey.Storey.mark.Goals as goal

pub bounds-self-i : goal.bounds-self-i
bounds-self-i c = omega (arith, (charted c.args.self.now.map).few)

pub returns-then-i-count : goal.returns-then-i-count
returns-then-i-count c = grind (arith, common_steps, mark_set, (charted c.args.self.now.map).few)

pub returns-else-i-count : goal.returns-else-i-count
returns-else-i-count c = grind (arith, common_steps, mark_past)
