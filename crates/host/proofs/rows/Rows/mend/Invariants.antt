use Rattle.floor.specs.Meaning.{neighbours, is_among}
use Rattle.host.specs.Rows.{bit}
use Rattle.host.specs.Storeys.{meaning_of}
use Rattle.host.proofs.Mending.{MendedBelow}
use Rattle.host.proofs.rows.Rows.mend.Given as goal

abbrev pub invariant-loop-k : goal.invariant-loop-k
invariant-loop-k l = MendedBelow (bit l.initial.self.row) (bit l.self.row) l.i l.k (is_among (neighbours (meaning_of l.storey) l.i))
