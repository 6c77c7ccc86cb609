use Rattle.std.proofs.Common.{length}
use Rattle.floor.proofs.map.placing.+on_a_line.Given as goal

abbrev pub decreases-on_a_line : goal.decreases-on_a_line
decreases-on_a_line l = length l.points.now
