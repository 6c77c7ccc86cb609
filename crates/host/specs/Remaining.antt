-- What an iterator over neighbours has left.
use Rattle.std.specs.Prelude.{List}
use Rattle.floor.specs.declared.node.Node.{Node}
use Rattle.floor.specs.Meaning.{Meaning, neighbours}
use Rattle.host.specs.Questions.{numbered_from}
use Rattle.host.specs.declared.neighbours.Neighbours.{Neighbours}

-- the neighbours of its node that are numbered from where it stands on
abbrev pub remaining_of : {R : Type 0} → (R → Meaning) → Neighbours R → List Node
remaining_of meaning s = numbered_from s.from (neighbours (meaning s.host.now) s.of)
