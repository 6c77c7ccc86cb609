-- Positions as vectors: the same words as of points, for points that are no nodes (a direction, a place on a line)
use lib.IntN.{ℤ, pos, ◌-ℤ◌}
use Rattle.plane.specs.declared.Point.{Point}
pub use Rattle.plane.specs.Plane.{Vector, cross, dot}

-- a − b
abbrev pub diff : Vector → Vector → Vector
diff a b = record { x = a.x -ℤ b.x; y = a.y -ℤ b.y }

abbrev pub turn : Vector → Vector → Vector → ℤ
turn a b c = cross (diff b a) (diff c a)

abbrev pub inner : Vector → Vector → Vector → ℤ
inner a b c = dot (diff a c) (diff b c)

-- where a point is
abbrev pub position : Point → Vector
position p = record { x = pos p.x; y = pos p.y }
