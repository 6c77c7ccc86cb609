-- The kept graph and its rotation, as the run of a packet asks for them
use Rattle.order.specs.declared.Sense.TheVariants.{Clockwise, Counter}
use Rattle.floor.specs.Meaning.{Meaning, Serving}
use Rattle.floor.specs.Planar.{Blocks, Lawful}
use Rattle.delivery.proofs.Ground.{Rotation}
use Rattle.delivery.proofs.Nodes.{symmetric, irreflexive, keeps_on, keeps_to, on_small, on_node, known_is, joins}
use Rattle.delivery.proofs.Around.{turned_to, turned_is, undone, redone}
use Rattle.delivery.proofs.Links.{links_are}

abbrev pub rotation : (b : Blocks) (m : Meaning) → Lawful b → Serving m → Rotation b m
rotation b m l g = record {
  symmetric = symmetric b m l g;
  irreflexive = irreflexive b m l g;
  small = λ u v k. (on_small m u (keeps_on b m l g u v k), on_small m v (keeps_to b m l g u v k));
  is_node = λ u v k. on_node m v (keeps_to b m l g u v k);
  links_are = links_are b m l g;
  after = turned_to b m Clockwise;
  before = turned_to b m Counter;
  after_kept = λ v u k. (turned_is b m l g v Clockwise u k).1;
  before_kept = λ v u k. (turned_is b m l g v Counter u k).1;
  undone = undone b m l g;
  redone = redone b m l g;
  known_is = known_is b m l g;
  first_after = λ v u k. (turned_is b m l g v Clockwise u k).0;
  first_before = λ v u k. (turned_is b m l g v Counter u k).0;
  joins = joins b m l g;
}
