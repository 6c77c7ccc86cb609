-- Points, ways between them, turns and squared distances, over the whole numbers: no widths here.
use Rattle.std.specs.Prelude.{Bool, ℕ, ◌≤◌, ℤ, pos, ◌+ℤ◌, ◌-ℤ◌, ◌*ℤ◌}
use Rattle.std.specs.Int.Signed.{lt_z}
use Rattle.plane.specs.declared.Point.{Point}

pub record Vector : Type 0 where
  pub x : ℤ
  pub y : ℤ

-- the point of two coordinates
abbrev pub point : ℕ × ℕ → Point
point coordinates = record { x = coordinates.0; y = coordinates.1 }

-- from a to b
abbrev pub way : Point → Point → Vector
way a b = record { x = pos b.x -ℤ pos a.x; y = pos b.y -ℤ pos a.y }

abbrev pub cross : Vector → Vector → ℤ
cross d e = d.x *ℤ e.y -ℤ d.y *ℤ e.x

abbrev pub dot : Vector → Vector → ℤ
dot d e = d.x *ℤ e.x +ℤ d.y *ℤ e.y

-- positive when c lies left of the way from a to b
abbrev pub turn : Point → Point → Point → ℤ
turn a b c = cross (way a b) (way a c)

-- the inner product of the ways from c to a and to b: at most 0 just when c is in the closed disc with diameter a b
abbrev pub inner : Point → Point → Point → ℤ
inner a b c = dot (way c a) (way c b)

abbrev pub squared : Point → Point → ℤ
squared a b = dot (way a b) (way a b)

abbrev pub positive : ℤ → Bool
positive = lt_z (pos 0)

-- the largest coordinate of a lawful point
abbrev pub farthest : ℕ
farthest = 32767

-- a point of the map: both coordinates in range
abbrev pub InRange : Point → Type 0
InRange p = (p.x ≤ farthest) × (p.y ≤ farthest)

-- no turn, inner product or squared distance of lawful points is larger in size
abbrev pub largest : ℕ
largest = 2147352578
