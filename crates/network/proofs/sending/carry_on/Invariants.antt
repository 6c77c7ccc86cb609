use Rattle.std.proofs.Common.{◌≡◌}
use Rattle.network.proofs.Carrying.{Carrying}
use Rattle.network.proofs.sending.carry_on.Given as goal

abbrev pub invariant-loop-hops : goal.invariant-loop-hops
invariant-loop-hops g l =
    Carrying (g.P.Planariser.blocking l.graph.planariser.now) (g.R.Reading.meaning l.graph.host.now) l.initial.packet l.budget l.initial.list.memory.now l.initial.list.len l.hops l.packet l.list.memory.now l.list.len
    × (l.list.memory.ghost_name ≡ l.initial.list.memory.ghost_name)
