-- What the points of a map's nodes, listed by number, always are.
use Rattle.std.specs.Prelude.{◌≤◌, List, length}
use Rattle.plane.specs.declared.Point.{Point}
use Rattle.std.specs.List.{slice_get}
use Rattle.floor.specs.Position.{GeneralPosition}

-- at most 64, in general position
pub record Charted (points : List Point) : Type 0 where
  pub few : length points ≤ 64
  pub general : GeneralPosition (slice_get points)
