use Rattle.delivery.proofs.Running.{Sent}
use Rattle.delivery.proofs.deliver.Given as goal

-- after as many sends as turns, the packet carries the record of the rules
abbrev pub invariant-loop-sent : goal.invariant-loop-sent
invariant-loop-sent g l = Sent (g.P.Planariser.blocking l.graph.planariser.now) (g.R.Reading.meaning l.graph.host.now) l.source l.target l.budget l._sent l.packet
