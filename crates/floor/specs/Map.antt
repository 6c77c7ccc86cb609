-- What a map holds.
use Rattle.std.specs.Prelude.{List, vec_items}
use Rattle.plane.specs.declared.Point.{Point}
use Rattle.floor.specs.declared.map.Map.{Map}

-- the points of its nodes, listed by number
abbrev pub points_of : Map → List Point
points_of m = vec_items m.points
