-- A neighbour with its direction, as the keeper is offered it.
use Rattle.plane.specs.declared.Point.{Point}
use Rattle.plane.specs.Plane.{way}
use Rattle.order.specs.declared.Sense.{Sense}
use Rattle.order.specs.declared.Start.{Start}
use Rattle.order.specs.Directions.{direction}
use Rattle.floor.specs.declared.node.Node.{Node}
use Rattle.kept.specs.declared.bearing.Bearing.{Bearing}

-- neighbour w of a node at p, from the direction of another point
abbrev pub bearing : Sense → Start → Point → Point → Node → Bearing
bearing sense start p towards w = record { node = w; direction = direction sense start (way p towards) (way p w.point) }
