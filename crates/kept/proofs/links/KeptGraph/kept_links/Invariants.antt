use Rattle.kept.proofs.Counting.{SummedTo}
use Rattle.kept.proofs.links.KeptGraph.kept_links.Given as goal

abbrev pub invariant-loop-i : goal.invariant-loop-i
invariant-loop-i g l = SummedTo (g.P.Planariser.blocking l.self.planariser.now) (g.R.Reading.meaning l.self.host.now) l.i l.total
