-- Kept links, and the first of them round a node.
use Rattle.std.specs.Prelude.{ℕ, suc, ◌+◌, Bool, not, ◌&&◌, T, List, [], ◌∷◌, length, Some, None, Option, nat_lt}
use Rattle.plane.specs.declared.Point.{Point}
use Rattle.plane.specs.Plane.{Vector, way}
use Rattle.order.specs.declared.Sense.{Sense}
use Rattle.order.specs.declared.Start.{Start}
use Rattle.order.specs.Foremost.{foremost}
use Rattle.order.specs.Directions.{sooner}
use Rattle.floor.specs.declared.node.Node.{Node}
use Rattle.floor.specs.declared.node.Radio.{Radio}
use Rattle.std.specs.List.{filter, list_any}
use Rattle.floor.specs.Numbers.{differ}
use Rattle.floor.specs.Meaning.{Meaning, radio, neighbours, is_among}
use Rattle.floor.specs.Planar.{Blocks}

-- one of the neighbours of a node at p, other than v, blocks the link to v
abbrev pub blocked : Blocks → Point → Node → List Node → Bool
blocked b p v near = list_any (λ (w : Node). differ w.number v.number && b p v.point w.point) near

-- of the neighbours of a node at p: those to which no other of them blocks the link
abbrev pub kept : Blocks → Point → List Node → List Node
kept b p near = filter (λ (v : Node). not (blocked b p v near)) near

abbrev pub kept_of : Blocks → List Node → Option Radio → List Node
kept_of b near None = []
kept_of b near (Some p) = kept b p.point near

abbrev pub kept_neighbours : Blocks → Meaning → ℕ → List Node
kept_neighbours b m i = kept_of b (neighbours m i) (radio m i)

-- the link from i to j is kept
abbrev pub Kept : Blocks → Meaning → ℕ → ℕ → Type 0
Kept b m i j = T (is_among (kept_neighbours b m i) j)

-- the kept links of the radios from number i on, each pair counted at its lower number
abbrev pub kept_from : Blocks → Meaning → ℕ → List Radio → ℕ
kept_from b m i [] = 0
kept_from b m i (p ∷ ps) = length (filter (λ (v : Node). nat_lt i v.number) (kept_neighbours b m i)) + kept_from b m (suc i) ps

-- K: the number of kept links
abbrev pub kept_links : Blocks → Meaning → ℕ
kept_links b m = kept_from b m 0 m.nodes

-- the node of a list that is first round p from a start
abbrev pub first_round : Sense → Start → Point → Vector → List Node → Option Node
first_round sense at p start ns = foremost (λ (a b : Node). sooner sense at start (way p a.point) (way p b.point)) ns

-- node i by number and point, as a host has it; where it has none, at the origin
abbrev pub node_or_origin : ℕ → Option Radio → Node
node_or_origin i None = record { number = i; point = record { x = 0; y = 0 } }
node_or_origin i (Some p) = record { number = i; point = p.point }

abbrev pub node_at : Meaning → ℕ → Node
node_at m i = node_or_origin i (radio m i)
