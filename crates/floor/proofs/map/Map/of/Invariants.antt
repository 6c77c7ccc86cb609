use Rattle.std.proofs.Common.{◌≡◌, take}
use Rattle.floor.specs.Map.{points_of}
use Rattle.floor.specs.Placing.{all_placed}
use Rattle.floor.proofs.map.Map.of.Given as goal

abbrev pub invariant-loop-p : goal.invariant-loop-p
invariant-loop-p l = points_of l.map ≡ all_placed (take l.p-index l.coordinates)
