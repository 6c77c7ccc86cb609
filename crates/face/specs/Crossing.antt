-- When a link crosses the way from a source to a target, and where.
use Rattle.std.specs.Prelude.{Bool, cond, ◌&&◌, ℤ, pos, ◌*ℤ◌, Some, None, Option, int_lt, unsigned_abs}
use Rattle.plane.specs.Plane.{turn}
use Rattle.order.specs.declared.Place.{Place}
use Rattle.floor.specs.declared.node.Node.{Node}
use Rattle.floor.specs.Numbers.{differ}

-- one is positive and the other negative
abbrev pub opposite : ℤ → ℤ → Bool
opposite y z = int_lt (y *ℤ z) (pos 0)

abbrev pub four_nodes : Node → Node → Node → Node → Bool
four_nodes s t u v =
    differ s.number t.number && differ s.number u.number && differ s.number v.number
    && differ t.number u.number && differ t.number v.number && differ u.number v.number

-- four nodes, u and v on opposite sides of the line s t, s and t on opposite sides of the line u v
abbrev pub crosses : Node → Node → Node → Node → Bool
crosses s t u v =
    four_nodes s t u v
    && opposite (turn s.point t.point u.point) (turn s.point t.point v.point)
    && opposite (turn u.point v.point s.point) (turn u.point v.point t.point)

-- the place where the lines meet
abbrev pub meeting : Node → Node → Node → Node → Place
meeting s t u v = record { above = unsigned_abs (turn u.point v.point s.point); below = unsigned_abs (turn u.point v.point t.point) }

-- where the link from u to v crosses the way from s to t
abbrev pub crossing : Node → Node → Node → Node → Option Place
crossing s t u v = cond (crosses s t u v) (Some (meeting s t u v)) None
