-- What geometry owes to the run of a packet: the one interface between the two
use Rattle.std.proofs.Common.{◌≡◌, ℕ, ◌<◌, Bool, true, false, not, eqb, ◌⊎◌, List, length, Some, None, Option}
use Rattle.plane.specs.declared.Point.{Point}
use Rattle.plane.specs.Plane.{way}
use Rattle.order.specs.declared.Place.{Place}
use Rattle.order.specs.declared.Sense.TheVariants.{Clockwise, Counter}
use Rattle.order.specs.declared.Start.TheVariants.{NoTurn, FullTurn}
use Rattle.order.specs.Places.{nearer}
use Rattle.floor.specs.declared.node.Node.{Node}
use Rattle.std.specs.List.{find}
use Rattle.floor.specs.Meaning.{Meaning, point_at, neighbours, node, is_among, Joined}
use Rattle.floor.specs.Planar.{Blocks}
use Rattle.kept.specs.Kept.{kept, kept_neighbours, kept_links, first_round}
use Rattle.face.specs.Crossing.{crossing}
use Rattle.face.specs.Packet.{source_place}
use Rattle.orbit.specs.Walks.{In, parity}
use Rattle.orbit.proofs.Orbit.{Turning, face}
use Rattle.orbit.proofs.Darts.{Dart, links, turning}

-- ---- words

abbrev pub point_or_zero : Option Point → Point
point_or_zero None = record { x = 0; y = 0 }
point_or_zero (Some p) = p

abbrev pub pt : Meaning → ℕ → Point
pt m i = point_or_zero (point_at m i)

abbrev pub nd : Meaning → ℕ → Node
nd m i = record { number = i; point = pt m i }

-- the kept neighbours of v, as the step sees them
abbrev pub near : Blocks → Meaning → ℕ → List Node
near b m v = kept b (pt m v) (neighbours m v)

abbrev pub keeps : Blocks → Meaning → ℕ → ℕ → Bool
keeps b m u v = is_among (kept_neighbours b m u) v

abbrev pub size_of : Meaning → ℕ
size_of m = length m.nodes

abbrev pub twin : Dart → Dart
twin x = (x.1, x.0)

-- where a dart crosses the way from s to t
abbrev pub spot : Meaning → ℕ → ℕ → Dart → Option Place
spot m s t x = crossing (nd m s) (nd m t) (nd m x.0) (nd m x.1)

abbrev pub or_source : Option Place → Place
or_source None = source_place
or_source (Some p) = p

abbrev pub nearer_than : Place → Option Place → Bool
nearer_than e None = false
nearer_than e (Some p) = nearer p e

-- y crosses, strictly nearer the target than x does (a dart that does not cross counts as at the source)
abbrev pub beyond : Meaning → ℕ → ℕ → Dart → Dart → Bool
beyond m s t x y = nearer_than (or_source (spot m s t x)) (spot m s t y)

-- ---- the kept graph and its rotation

pub record Rotation (b : Blocks) (m : Meaning) : Type 0 where
  pub symmetric : (u v : ℕ) → keeps b m u v ≡ keeps b m v u
  pub irreflexive : (u : ℕ) → keeps b m u u ≡ false
  pub small : (u v : ℕ) → keeps b m u v ≡ true → (u < size_of m) × (v < size_of m)
  pub is_node : (u v : ℕ) → keeps b m u v ≡ true → node m v ≡ Some (nd m v)
  pub links_are : links (keeps b m) (size_of m) ≡ kept_links b m
  -- the kept neighbour of v that comes clockwise after u, and the one that comes before
  pub after : ℕ → ℕ → ℕ
  pub before : ℕ → ℕ → ℕ
  pub after_kept : (v u : ℕ) → keeps b m v u ≡ true → keeps b m v (after v u) ≡ true
  pub before_kept : (v u : ℕ) → keeps b m v u ≡ true → keeps b m v (before v u) ≡ true
  pub undone : (v u : ℕ) → keeps b m v u ≡ true → before v (after v u) ≡ u
  pub redone : (v u : ℕ) → keeps b m v u ≡ true → after v (before v u) ≡ u
  -- the step finds them
  pub known_is : (v u : ℕ) → keeps b m v u ≡ true → find (λ (n : Node). eqb n.number u) (near b m v) ≡ Some (nd m u)
  pub first_after : (v u : ℕ) → keeps b m v u ≡ true → first_round Clockwise FullTurn (pt m v) (way (pt m v) (pt m u)) (near b m v) ≡ Some (nd m (after v u))
  pub first_before : (v u : ℕ) → keeps b m v u ≡ true → first_round Counter FullTurn (pt m v) (way (pt m v) (pt m u)) (near b m v) ≡ Some (nd m (before v u))
  pub joins : (u v : ℕ) → keeps b m u v ≡ true → Joined m u v

module _ {b : Blocks} {m : Meaning} (g : Rotation b m) where
  -- the darts of the kept graph, each followed by the next of its face
  abbrev pub faces : Turning Dart
  faces = turning (keeps b m) g.symmetric g.irreflexive (size_of m) g.after g.before
      (λ v u hu hv k. ((g.small v (g.after v u) (g.after_kept v u k)).1, g.after_kept v u k))
      (λ v u hu hv k. g.undone v u k)

-- ---- one source and one target, different nodes in service

pub record Ground (b : Blocks) (m : Meaning) (s t : ℕ) : Type 0 where
  pub rotation : Rotation b m
  -- places along the way from s to t
  pub beyond_trans : (x y z : Dart) → beyond m s t x y ≡ true → beyond m s t y z ≡ true → beyond m s t x z ≡ true
  pub beyond_never : (x : Dart) → beyond m s t x x ≡ false
  pub beyond_between : (x y z : Dart) → beyond m s t x z ≡ true → (beyond m s t x y ≡ true) ⊎ (beyond m s t y z ≡ true)
  pub twin_spot : (x : Dart) → spot m s t (twin x) ≡ spot m s t x
  -- a dart that goes from the left of the way to its right
  pub leads : Dart → Bool
  pub twin_leads : (x : Dart) (p : Place) → In x (faces rotation).all → spot m s t x ≡ Some p → leads (twin x) ≡ not (leads x)
  -- same place, same link
  pub same_link : (x y : Dart) (p q : Place) → In x (faces rotation).all → In y (faces rotation).all → spot m s t x ≡ Some p → spot m s t y ≡ Some q
      → nearer p q ≡ false → nearer q p ≡ false → (x ≡ y) ⊎ (x ≡ twin y)
  -- a dart at the source or at the target does not cross
  pub source_spot : (w : ℕ) → spot m s t (s, w) ≡ None
  -- the opening finds the first link, or s has none
  pub opens : ((w : ℕ) × (keeps b m s w ≡ true) × (first_round Clockwise NoTurn (pt m s) (way (pt m s) (pt m t)) (near b m s) ≡ Some (nd m w)))
      ⊎ ((first_round Clockwise NoTurn (pt m s) (way (pt m s) (pt m t)) (near b m s) ≡ None) × ((w : ℕ) → keeps b m s w ≡ false))
  pub joined_keeps : Joined m s t → (w : ℕ) × (keeps b m s w ≡ true)
  -- THE LAW OF PROGRESS, at the source and at a crossing link: of the darts of a face with none to t, an odd number cross nearer than the entry
  pub odd_at_source : Joined m s t → (w : ℕ) → keeps b m s w ≡ true → first_round Clockwise NoTurn (pt m s) (way (pt m s) (pt m t)) (near b m s) ≡ Some (nd m w)
      → ((x : Dart) → In x (face (faces rotation) (s, w)) → ¬ (x.1 ≡ t))
      → parity (beyond m s t (s, w)) (face (faces rotation) (s, w)) ≡ true
  pub odd_at_link : Joined m s t → (d e : Dart) (p : Place) → In d (faces rotation).all → In e (face (faces rotation) d) → spot m s t e ≡ Some p → leads e ≡ true
      → Joined m s e.0
      → ((x : Dart) → In x (face (faces rotation) d) → ¬ (x.1 ≡ t))
      → parity (beyond m s t e) (face (faces rotation) d) ≡ true
