-- What a host is asked, and what a switching alters.
use Rattle.std.specs.Prelude.{ℕ, Bool, List, Some, None, Option, nat_le, slice_set}
use Rattle.floor.specs.declared.node.Node.{Node}
use Rattle.floor.specs.declared.node.Radio.{Radio}
use Rattle.std.specs.List.{find, filter}
use Rattle.floor.specs.Meaning.{Meaning, radio, neighbours}

-- the lowest-numbered neighbour of node i whose number is at least j
abbrev pub next_neighbour : Meaning → ℕ → ℕ → Option Node
next_neighbour m i j = find (λ (n : Node). nat_le j n.number) (neighbours m i)

-- those of some nodes that are numbered j or above
abbrev pub numbered_from : ℕ → List Node → List Node
numbered_from j ns = filter (λ (n : Node). nat_le j n.number) ns

abbrev pub marked : Meaning → ℕ → Bool → Option Radio → Meaning
marked m i mark None = m
marked m i mark (Some p) = record { reach = m.reach; nodes = slice_set m.nodes i (record { point = p.point; serving = mark }) }

-- node i withdrawn or returned: that mark set and nothing else; a number that is no node alters nothing
abbrev pub with_mark : Meaning → ℕ → Bool → Meaning
with_mark m i mark = marked m i mark (radio m i)
