-- Arcs round a point: what being sooner means, and that the two senses undo each other.
use Rattle.std.specs.Prelude.{◌≡◌, Bool, true, false, cond, not, ◌&&◌, ◌≢◌, List, pos, Some}
use Rattle.plane.specs.declared.Point.{Point}
use Rattle.plane.specs.Plane.{Vector, way, turn, positive}
use Rattle.order.specs.declared.Sense.{Sense}
use Rattle.order.specs.declared.Sense.TheVariants.{Clockwise, Counter}
use Rattle.order.specs.declared.Start.{Start}
use Rattle.order.specs.declared.Start.TheVariants.{NoTurn, FullTurn}
use Rattle.order.specs.Directions.{on_from, sooner, direction, earlier}
use Rattle.order.specs.Foremost.{In, foremost}

abbrev pub opposite : Sense → Sense
opposite Clockwise = Counter
opposite Counter = Clockwise

-- e is less than half a turn on from d
abbrev pub soon : Sense → Vector → Vector → Bool
soon sense d e = positive (on_from sense d e)

-- d lies strictly inside the arc from p to q, where no two of the three are along one line
abbrev pub inside_arc : Sense → Vector → Vector → Vector → Bool
inside_arc sense p d q = cond (soon sense p q) (soon sense p d && soon sense d q) (not (soon sense q d && soon sense d p))

-- seen from v, first round in the sense from u
abbrev pub first_from : Sense → Point → Point → Point → Point → Bool
first_from sense v u x y = sooner sense FullTurn (way v u) (way v x) (way v y)

-- points round v: none at v, no two different ones on a line with v
pub record Round (v : Point) (xs : List Point) : Type 0 where
  pub away : (x : Point) → In x xs → x ≢ v
  pub fanned : (x y : Point) → In x xs → In y xs → x ≢ y → turn v x y ≢ pos 0

pub record ArcLaws : Type 0 where
  -- directions made at one point from one start are ordered as seen from that start
  pub compared : (sense : Sense) (counts : Start) (v u x y : Point) → u ≢ v
      → earlier (direction sense counts (way v u) (way v x)) (direction sense counts (way v u) (way v y)) ≡ sooner sense counts (way v u) (way v x) (way v y)
  -- x is sooner than y just when it is inside the arc from the start to y
  pub arcs : (sense : Sense) (counts : Start) (v u x y : Point) → turn v u x ≢ pos 0 → turn v x y ≢ pos 0 → turn v u y ≢ pos 0
      → sooner sense counts (way v u) (way v x) (way v y) ≡ inside_arc sense (way v u) (way v x) (way v y)
  -- counted as a full turn, the start itself comes last
  pub start_last : (sense : Sense) (v u x : Point) → u ≢ v → turn v u x ≢ pos 0
      → (sooner sense FullTurn (way v u) (way v x) (way v u) ≡ true) × (sooner sense FullTurn (way v u) (way v u) (way v x) ≡ false)
  -- counted as no turn, it comes first
  pub start_first : (sense : Sense) (v u x : Point) → u ≢ v → turn v u x ≢ pos 0
      → (sooner sense NoTurn (way v u) (way v u) (way v x) ≡ true) × (sooner sense NoTurn (way v u) (way v x) (way v u) ≡ false)
  -- one arc, from either end
  pub either_end : (sense : Sense) (p d q : Vector) → inside_arc (opposite sense) q d p ≡ inside_arc sense p d q
  -- the two senses undo each other: of points round v, if w comes first from u, then u comes first from w the other way
  pub undo : (sense : Sense) (v : Point) (xs : List Point) → Round v xs → (u w : Point) → In u xs
      → foremost (first_from sense v u) xs ≡ Some w → foremost (first_from (opposite sense) v w) xs ≡ Some u
