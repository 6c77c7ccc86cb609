use Rattle.std.proofs.Common.{◌≡◌, ◌≤◌, length, take}
use Rattle.order.specs.Foremost.{foremost}
use Rattle.order.proofs.keeper.foremost_of.Given as goal

abbrev pub invariant-loop-x : goal.invariant-loop-x
invariant-loop-x g l = (l.x-index ≤ length l.row) × (l.keeper.held ≡ foremost g.T.Order.before (take l.x-index l.row))
