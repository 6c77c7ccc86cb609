-- Planarisers: does w block the link between u and v?
use Rattle.std.specs.Prelude.{◌≡◌, Bool, ◌&&◌, T, ◌≢◌, pos, int_le, int_lt}
use Rattle.plane.specs.declared.Point.{Point}
use Rattle.plane.specs.Plane.{inner, squared}

abbrev pub Blocks : Type 0
Blocks = Point → Point → Point → Bool

-- w is in the closed disc with diameter u v
abbrev pub gabriel : Blocks
gabriel u v w = int_le (inner u v w) (pos 0)

-- w is strictly nearer to u, and strictly nearer to v, than u is to v
abbrev pub relative : Blocks
relative u v w = int_lt (squared w u) (squared u v) && int_lt (squared w v) (squared u v)

-- of three distinct points: the same either way round, yes in the closed disc, yes only nearer to both
pub record Lawful (b : Blocks) : Type 0 where
  pub either_way : (u v w : Point) → u ≢ v → u ≢ w → v ≢ w → b u v w ≡ b v u w
  pub in_the_disc : (u v w : Point) → u ≢ v → u ≢ w → v ≢ w → T (gabriel u v w) → T (b u v w)
  pub nearer_only : (u v w : Point) → u ≢ v → u ≢ w → v ≢ w → T (b u v w) → T (relative u v w)
