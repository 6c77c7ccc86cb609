-- The closed disc and the lune are lawful
use Rattle.std.proofs.Common.{◌&&◌, pos, ap, ◌∙◌}
use mathlib.Core.Bool.{and_comm}
use lib.Signed.{le_z, lt_z}
use Rattle.plane.specs.Plane.{squared}
use Rattle.floor.specs.Planar.{Lawful, gabriel, relative}
use Rattle.floor.specs.DiscInLune.{inner_turned, squared_turned, disc_in_lune}

pub gabriel_lawful : Lawful gabriel
gabriel_lawful = record {
  either_way = λ u v w uv uw vw. ap (λ z. le_z z (pos 0)) (inner_turned u v w);
  in_the_disc = λ u v w uv uw vw k. k;
  nearer_only = λ u v w uv uw vw k. disc_in_lune u v w uw vw k;
}

pub relative_lawful : Lawful relative
relative_lawful = record {
  either_way = λ u v w uv uw vw.
      ap (λ z. lt_z (squared w u) z && lt_z (squared w v) z) (squared_turned u v) ∙ and_comm (lt_z (squared w u) (squared v u)) (lt_z (squared w v) (squared v u));
  in_the_disc = λ u v w uv uw vw k. disc_in_lune u v w uw vw k;
  nearer_only = λ u v w uv uw vw k. k;
}
