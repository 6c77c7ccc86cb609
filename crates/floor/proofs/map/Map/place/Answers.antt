use Rattle.std.proofs.Common.{vec_items, arith}
use Rattle.floor.specs.Map.{points_of}
use Rattle.floor.proofs.Charting.{charted, more_charted}
use Rattle.floor.proofs.map.Map.place.Goals as goal

pub invariant_of-self : goal.invariant_of-self
invariant_of-self c =
    let m = c.args.self.now in
    let pushed = vec_items c.push_reserved.new.self in
    let after = more_charted (points_of m) c.deref.result.now pushed c.args.p c.in_ok-number.number
    (charted m) c.deref.ensures.value c.in_ok-number.ensures c.push_reserved.ensures.items in
    record { charted = ∣ after ∣₁; room = omega (arith, m.room) }
