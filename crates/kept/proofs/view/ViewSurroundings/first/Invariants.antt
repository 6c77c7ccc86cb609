use Rattle.host.specs.Remaining.{remaining_of}
use Rattle.kept.proofs.Rounding.{ForemostBut}
use Rattle.kept.proofs.view.ViewSurroundings.first.Given as goal

abbrev pub invariant-loop-w : goal.invariant-loop-w
invariant-loop-w g l =
    ForemostBut (g.P.Planariser.blocking l.self.graph.planariser.now) (g.R.Reading.meaning l.self.graph.host.now) l.self.number
    l.fn.sense l.fn.start l.fn.towards (remaining_of g.R.Reading.meaning l.w-iterator) l.keeper.held
