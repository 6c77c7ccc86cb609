use Rattle.kept.proofs.laws.kept_laws.Goals as goal
use Rattle.kept.proofs.Near.{near}
use Rattle.kept.proofs.Graph.{exactly, symmetric}
use Rattle.floor.specs.BothLawful.{gabriel_lawful, relative_lawful}
use Rattle.kept.proofs.Crossing.{do_not_cross}
use Rattle.kept.proofs.Chains.{chains_join}
use Rattle.kept.proofs.SameLink.{same_link}
use Rattle.floor.specs.Planar.{gabriel, relative}

-- src/laws.rt:4:1
pub returns : goal.returns
returns c = record {
  neighbours_are_near = near;
  kept_exactly = exactly;
  gabriel_graph = exactly gabriel gabriel_lawful;
  relative_graph = exactly relative relative_lawful;
  symmetric = symmetric;
  do_not_cross = do_not_cross;
  chains_join = chains_join;
  same_place_same_link = same_link;
}
