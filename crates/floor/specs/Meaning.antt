-- A host's meaning: its nodes and their reach; neighbours, and what chains of radio links join.
use Rattle.std.specs.Prelude.{ℕ, suc, ◌*◌, ◌≤◌, Bool, false, cond, not, ◌&&◌, T, List, [], ◌∷◌, length, pos, Some, None, Option, int_le}
use Rattle.plane.specs.declared.Point.{Point}
use Rattle.plane.specs.Plane.{squared}
use Rattle.floor.specs.declared.node.Node.{Node}
use Rattle.floor.specs.declared.node.Radio.{Radio}
use Rattle.std.specs.List.{slice_get, list_any}
use Rattle.floor.specs.Numbers.{differ}
use Rattle.floor.specs.Position.{GeneralPosition}

pub record Meaning : Type 0 where
  pub reach : ℕ
  pub nodes : List Radio

abbrev pub radio : Meaning → ℕ → Option Radio
radio m i = slice_get m.nodes i

abbrev pub place_of : Option Radio → Option Point
place_of None = None
place_of (Some r) = Some r.point

-- where node i is
abbrev pub point_at : Meaning → ℕ → Option Point
point_at m i = place_of (radio m i)

abbrev pub serving_place : Option Radio → Option Point
serving_place None = None
serving_place (Some r) = cond r.serving (Some r.point) None

abbrev pub serves : Option Radio → Bool
serves None = false
serves (Some r) = r.serving

-- node i is in service
abbrev pub serving : Meaning → ℕ → Bool
serving m i = serves (radio m i)

-- where node i is, if it is in service
abbrev pub serving_at : Meaning → ℕ → Option Point
serving_at m i = serving_place (radio m i)

-- the nodes of a meaning form a map
pub record Mapped (m : Meaning) : Type 0 where
  pub few : length m.nodes ≤ 64
  pub general : GeneralPosition (point_at m)

-- the nodes in service alone do
pub record Serving (m : Meaning) : Type 0 where
  pub few : length m.nodes ≤ 64
  pub general : GeneralPosition (serving_at m)

-- both in service, and no farther apart than the reach
abbrev pub hear : ℕ → Radio → Radio → Bool
hear reach p q = p.serving && q.serving && int_le (squared p.point q.point) (pos (reach * reach))

-- of the radios numbered from j on, those other than i that p hears
abbrev pub heard : ℕ → ℕ → Radio → ℕ → List Radio → List Node
heard reach i p j [] = []
heard reach i p j (q ∷ qs) = let rest = heard reach i p (suc j) qs in cond (differ i j && hear reach p q) (record { number = j; point = q.point } ∷ rest) rest

abbrev pub heard_by : Meaning → ℕ → Option Radio → List Node
heard_by m i None = []
heard_by m i (Some p) = heard m.reach i p 0 m.nodes

-- the neighbours of node i, by number and point, the lowest number first
abbrev pub neighbours : Meaning → ℕ → List Node
neighbours m i = heard_by m i (radio m i)

abbrev pub is_among : List Node → ℕ → Bool
is_among ns j = list_any (λ (n : Node). not (differ n.number j)) ns

-- a chain of radio links
pub data Joined (m : Meaning) : ℕ → ℕ → Type 0 where
  here : (i : ℕ) → Joined m i i
  on : (i j k : ℕ) → T (is_among (neighbours m i) j) → Joined m j k → Joined m i k

abbrev pub known_as : ℕ → Option Radio → Option Node
known_as i None = None
known_as i (Some p) = Some (record { number = i; point = p.point })

-- node i, by number and point
abbrev pub node : Meaning → ℕ → Option Node
node m i = known_as i (radio m i)
