-- Small floors worked through by hand: who receives a packet, and how it ends.
use Rattle.std.specs.Prelude.{◌≡◌, ℕ, zero, suc, true, false, List, [], ◌∷◌, map, Some, None, Option}
use Rattle.plane.specs.declared.Point.{Point}
use Rattle.floor.specs.Meaning.{Meaning}
use Rattle.floor.specs.Planar.{Blocks, gabriel, relative}
use Rattle.host.specs.Questions.{with_mark}
use Rattle.kept.specs.Kept.{kept_links}
use Rattle.face.specs.declared.record.Link.{Link}
use Rattle.face.specs.declared.record.Record.{Record}
use Rattle.face.specs.declared.record.End.{End}
use Rattle.face.specs.declared.record.End.TheVariants.{Delivered, Unreachable}
use Rattle.face.specs.Packet.{send, opening}

abbrev pub at : ℕ → ℕ → Point
at x y = record { x = x; y = y }

-- a floor whose nodes are all in service
abbrev pub floor : ℕ → List Point → Meaning
floor reach points = record { reach = reach; nodes = map (λ (p : Point). record { point = p; serving = true }) points }

-- six nodes in a ring
abbrev pub ring : Meaning
ring = floor 10 (at 0 10 ∷ at 3 18 ∷ at 11 20 ∷ at 18 17 ∷ at 6 5 ∷ at 20 10 ∷ [])

-- the ring, node 2 withdrawn
abbrev pub broken_ring : Meaning
broken_ring = with_mark ring 2 false

-- a triangle, and a fourth node that one of its corners hears
abbrev pub kite : Meaning
kite = floor 8 (at 0 5 ∷ at 6 2 ∷ at 6 9 ∷ at 13 7 ∷ [])

-- the triangle, and a fourth node that none hears
abbrev pub island : Meaning
island = floor 8 (at 0 5 ∷ at 6 2 ∷ at 6 9 ∷ at 40 7 ∷ [])

-- a round with its best crossing nearer its end: the packet walks back
abbrev pub mesh : Meaning
mesh = floor 13 (at 4 0 ∷ at 2 7 ∷ at 8 9 ∷ at 2 5 ∷ at 11 5 ∷ at 4 11 ∷ at 7 2 ∷ at 0 1 ∷ at 1 11 ∷ [])

-- nodes of many kept links, and a target inside
abbrev pub web : Meaning
web = floor 9 (at 0 0 ∷ at 2 7 ∷ at 3 1 ∷ at 1 7 ∷ at 9 1 ∷ at 2 2 ∷ at 8 10 ∷ at 4 3 ∷ at 10 4 ∷ at 1 10 ∷ at 6 5 ∷ [])

-- the receivers of a packet's sends, its end, and its total
pub record Trip : Type 0 where
  pub receivers : List ℕ
  pub end : End
  pub total : ℕ

abbrev pub through : ℕ → Trip → Trip
through v rest = record { receivers = v ∷ rest.receivers; end = rest.end; total = rest.total }

-- n more sends at most
abbrev pub trip : Blocks → Meaning → ℕ → Record → Option Link → Trip
trip b m n r None = record { receivers = []; end = r.end; total = r.total }
trip b m zero r (Some l) = record { receivers = []; end = r.end; total = r.total }
trip b m (suc n) r (Some l) = let after = send b m r in through l.to (trip b m n after after.hand)

abbrev pub from_opening : Blocks → Meaning → Option Record → Option Trip
from_opening b m None = None
from_opening b m (Some r) = Some (trip b m 60 r r.hand)

-- a packet from s to t, sent until it ends
abbrev pub sent : Blocks → Meaning → ℕ → ℕ → Option Trip
sent b m s t = from_opening b m (opening b m s t)

abbrev pub told : List ℕ → End → ℕ → Option Trip
told receivers end total = Some (record { receivers = receivers; end = end; total = total })

pub record WorkedFloors : Type 0 where
  -- the disc with diameter uv has its edge; the lens of the relative planariser is larger
  pub disc_edge : gabriel (at 0 0) (at 4 3) (at 4 0) ≡ true
  pub disc_out : gabriel (at 0 0) (at 4 3) (at 5 0) ≡ false
  pub lens : relative (at 0 0) (at 4 0) (at 2 3) ≡ true
  pub lens_not_disc : gabriel (at 0 0) (at 4 0) (at 2 3) ≡ false
  pub ring_gabriel_links : kept_links gabriel ring ≡ 5
  pub ring_relative_links : kept_links relative ring ≡ 5
  pub ring_gabriel : sent gabriel ring 0 5 ≡ told (4 ∷ 0 ∷ 1 ∷ 2 ∷ 3 ∷ 5 ∷ []) Delivered 6
  pub ring_relative : sent relative ring 0 5 ≡ told (4 ∷ 0 ∷ 1 ∷ 2 ∷ 3 ∷ 5 ∷ []) Delivered 6
  pub broken_gabriel_links : kept_links gabriel broken_ring ≡ 3
  pub broken_relative_links : kept_links relative broken_ring ≡ 3
  pub broken_gabriel : sent gabriel broken_ring 0 5 ≡ told (4 ∷ 0 ∷ 1 ∷ 0 ∷ []) Unreachable 4
  pub broken_relative : sent relative broken_ring 0 5 ≡ told (4 ∷ 0 ∷ 1 ∷ 0 ∷ []) Unreachable 4
  pub kite_gabriel_links : kept_links gabriel kite ≡ 4
  pub kite_gabriel : sent gabriel kite 0 3 ≡ told (1 ∷ 2 ∷ 0 ∷ 1 ∷ 0 ∷ 2 ∷ 3 ∷ []) Delivered 7
  pub kite_relative_links : kept_links relative kite ≡ 3
  pub kite_relative : sent relative kite 0 3 ≡ told (1 ∷ 2 ∷ 3 ∷ []) Delivered 3
  pub island_relative_links : kept_links relative island ≡ 2
  pub island_relative : sent relative island 0 3 ≡ told (1 ∷ 2 ∷ 1 ∷ 0 ∷ []) Unreachable 4
  pub island_gabriel_links : kept_links gabriel island ≡ 3
  pub island_gabriel : sent gabriel island 0 3 ≡ told (1 ∷ 2 ∷ 0 ∷ 1 ∷ 0 ∷ 2 ∷ 1 ∷ []) Unreachable 7
  pub mesh_gabriel_links : kept_links gabriel mesh ≡ 12
  pub mesh_gabriel : sent gabriel mesh 0 8 ≡ told (6 ∷ 3 ∷ 0 ∷ 6 ∷ 4 ∷ 2 ∷ 5 ∷ 1 ∷ 3 ∷ 6 ∷ 3 ∷ 1 ∷ 5 ∷ 8 ∷ []) Delivered 14
  pub web_gabriel_links : kept_links gabriel web ≡ 17
  pub web_gabriel : sent gabriel web 0 10 ≡ told (5 ∷ 7 ∷ 1 ∷ 3 ∷ 9 ∷ 6 ∷ 8 ∷ 4 ∷ 7 ∷ 2 ∷ 5 ∷ 0 ∷ 5 ∷ 7 ∷ 10 ∷ []) Delivered 15
