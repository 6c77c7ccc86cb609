-- Directions round a node, ordered by their angles from a start, worked out from signs.
use Rattle.std.specs.Prelude.{ℕ, Bool, cond, ◌&&◌, ◌||◌, ℤ, pos, ◌*ℤ◌, ◌==◌, int_lt, nat_lt}
use Rattle.plane.specs.Plane.{Vector, cross, dot, positive}
use Rattle.order.specs.declared.Sense.{Sense}
use Rattle.order.specs.declared.Sense.TheVariants.{Clockwise, Counter}
use Rattle.order.specs.declared.Start.{Start}
use Rattle.order.specs.declared.Start.TheVariants.{NoTurn, FullTurn}
use Rattle.order.specs.declared.direction.Direction.{Direction}

-- positive when e is less than half a turn on from d
abbrev pub on_from : Sense → Vector → Vector → ℤ
on_from Clockwise d e = cross e d
on_from Counter d e = cross d e

-- the sector of the start itself
abbrev pub start_sector : Start → ℕ
start_sector NoTurn = 0
start_sector FullTurn = 4

-- how far round from the start d lies: 0 at it, 1 before half a turn, 2 at half a turn, 3 beyond, 4 at a full turn
abbrev pub sector : Sense → Start → Vector → Vector → ℕ
sector sense at start d =
    cond (positive (on_from sense start d)) 1
    (cond (positive (on_from sense d start)) 3
    (cond (positive (dot start d)) (start_sector at) 2))

-- seen from the start, d comes before e
abbrev pub sooner : Sense → Start → Vector → Vector → Vector → Bool
sooner sense at start d e =
    let i = sector sense at start d in
    let j = sector sense at start e in
    nat_lt i j || (i == j && positive (on_from sense d e))

-- d in the frame of its start
abbrev pub direction : Sense → Start → Vector → Vector → Direction
direction sense at start d = record { along = dot start d; across = on_from sense start d; counts = at }

-- the sector of what is in the frame of its start
abbrev pub part : Direction → ℕ
part d = cond (positive d.across) 1 (cond (int_lt d.across (pos 0)) 3 (cond (positive d.along) (start_sector d.counts) 2))

-- d, turned to from its start, comes before e, turned to from its own
abbrev pub earlier : Direction → Direction → Bool
earlier d e = nat_lt (part d) (part e) || (part d == part e && int_lt (d.across *ℤ e.along) (d.along *ℤ e.across))
