-- What the kept links promise, over every meaning whose nodes in service are in general position and every lawful planariser.
use Rattle.std.specs.Prelude.{◌≡◌, ℕ, ◌*◌, Bool, true, false, ◌&&◌, T, ◌≢◌, ◌⊎◌, ◌↔◌, pos, ◌*ℤ◌, Some, int_le, int_lt, unsigned_abs}
use Rattle.plane.specs.declared.Point.{Point}
use Rattle.plane.specs.Plane.{turn, squared}
use Rattle.floor.specs.Meaning.{Meaning, Serving, Joined, neighbours, is_among, serving_at}
use Rattle.floor.specs.Planar.{Blocks, Lawful, gabriel, relative}
use Rattle.kept.specs.Kept.{Kept, kept_neighbours}

-- different nodes in service, no farther apart than the reach
pub record Near (m : Meaning) (u v : ℕ) : Type 0 where
  pub p : Point
  pub q : Point
  pub at_u : serving_at m u ≡ Some p
  pub at_v : serving_at m v ≡ Some q
  pub apart : u ≢ v
  pub close : T (int_le (squared p q) (pos (m.reach * m.reach)))

abbrev pub NeighboursAreNear : Type 0
NeighboursAreNear = (m : Meaning) (u v : ℕ) → T (is_among (neighbours m u) v) ↔ Near m u v

-- no node in service other than the two blocks the link
abbrev pub Clear : Blocks → Meaning → ℕ → ℕ → Type 0
Clear b m u v = (w : ℕ) (p q r : Point) → w ≢ u → w ≢ v → serving_at m u ≡ Some p → serving_at m v ≡ Some q → serving_at m w ≡ Some r → b p q r ≡ false

-- a link is kept just when it is a radio link that no node in service blocks
abbrev pub KeptExactly : Blocks → Type 0
KeptExactly b = (m : Meaning) → Serving m → (u v : ℕ) → Kept b m u v ↔ (Near m u v × Clear b m u v)

-- the Gabriel graph: no node in service in the closed disc
abbrev pub GabrielGraph : Type 0
GabrielGraph = KeptExactly gabriel

-- the relative neighbourhood graph: no node in service in the lune
abbrev pub RelativeGraph : Type 0
RelativeGraph = KeptExactly relative

abbrev pub KeptIsSymmetric : Type 0
KeptIsSymmetric = (b : Blocks) (m : Meaning) → Lawful b → Serving m → (u v : ℕ) → is_among (kept_neighbours b m u) v ≡ is_among (kept_neighbours b m v) u

-- a b and c d cross: the ends of each on opposite sides of the other
abbrev pub strictly_cross : Point → Point → Point → Point → Bool
strictly_cross a b c d = int_lt (turn a b c *ℤ turn a b d) (pos 0) && int_lt (turn c d a *ℤ turn c d b) (pos 0)

abbrev pub KeptLinksDoNotCross : Type 0
KeptLinksDoNotCross =
    (b : Blocks) (m : Meaning) → Lawful b → Serving m → (i j k l : ℕ) (p q r s : Point)
    → serving_at m i ≡ Some p → serving_at m j ≡ Some q → serving_at m k ≡ Some r → serving_at m l ≡ Some s
    → Kept b m i j → Kept b m k l → strictly_cross p q r s ≡ false

-- a chain of kept links
pub data Chained (b : Blocks) (m : Meaning) : ℕ → ℕ → Type 0 where
  here : (i : ℕ) → Chained b m i i
  on : (i j k : ℕ) → Kept b m i j → Chained b m j k → Chained b m i k

-- kept links join what radio links join
abbrev pub KeptChainsJoin : Type 0
KeptChainsJoin = (b : Blocks) (m : Meaning) → Lawful b → Serving m → (u v : ℕ) → Joined m u v ↔ Chained b m u v

-- a b and c d meet the line s t at one place: as far from s, in turns, as from t
abbrev pub same_place : Point → Point → Point → Point → Point → Point → Type 0
same_place s t a b c d = unsigned_abs (turn a b s) * unsigned_abs (turn c d t) ≡ unsigned_abs (turn c d s) * unsigned_abs (turn a b t)

-- kept links that cross the way between two nodes in service at one place are the same link
abbrev pub SamePlaceSameLink : Type 0
SamePlaceSameLink =
    (b : Blocks) (m : Meaning) → Lawful b → Serving m → (s t i j k l : ℕ) (a z p q r o : Point)
    → serving_at m s ≡ Some a → serving_at m t ≡ Some z → serving_at m i ≡ Some p → serving_at m j ≡ Some q → serving_at m k ≡ Some r → serving_at m l ≡ Some o
    → Kept b m i j → Kept b m k l → strictly_cross a z p q ≡ true → strictly_cross a z r o ≡ true → same_place a z p q r o
    → ((i ≡ k) × (j ≡ l)) ⊎ ((i ≡ l) × (j ≡ k))

pub record KeptLaws : Type 0 where
  pub neighbours_are_near : NeighboursAreNear
  pub kept_exactly : (b : Blocks) → Lawful b → KeptExactly b
  pub gabriel_graph : GabrielGraph
  pub relative_graph : RelativeGraph
  pub symmetric : KeptIsSymmetric
  pub do_not_cross : KeptLinksDoNotCross
  pub chains_join : KeptChainsJoin
  pub same_place_same_link : SamePlaceSameLink
