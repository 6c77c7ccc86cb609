use Rattle.std.proofs.Common.{◌<◌, ◌≤◌, length, arith}
use Rattle.kept.proofs.Counting.{above_few, summed_at_first, summed_at_last, summed_on}
use Rattle.kept.proofs.links.KeptGraph.kept_links.Goals as goal

pub loop-i-init : goal.loop-i-init
loop-i-init g c = summed_at_first (g.P.Planariser.blocking c.args.self.planariser.now) (g.R.Reading.meaning c.args.self.host.now)

pub overflow_add-total : goal.overflow_add-total
overflow_add-total g c =
    let few = (g.met.R.Reading.mapped c.args.self.host.now).few in
    let higher = above_few (g.P.Planariser.blocking c.args.self.planariser.now) (g.R.Reading.meaning c.args.self.host.now) c.loop-i.i in
    let small = c.loop-i.invariant.small in
    omega (arith, c.kept_above-total.ensures)

pub loop-i-preserved : goal.loop-i-preserved
loop-i-preserved g c =
    let m = g.R.Reading.meaning c.args.self.host.now in
    let few = (g.met.R.Reading.mapped c.args.self.host.now).few in
    let higher = above_few (g.P.Planariser.blocking c.args.self.planariser.now) m c.loop-i.i in
    let below : c.loop-i.i < length m.nodes = omega arith in
    summed_on (g.P.Planariser.blocking c.args.self.planariser.now) m c.loop-i.i c.loop-i.total c.kept_above-total.result
    c.loop-i.invariant below c.kept_above-total.ensures (omega (arith, c.kept_above-total.ensures))

pub returns : goal.returns
returns g c =
    let m = g.R.Reading.meaning c.args.self.host.now in
    let end : length m.nodes ≤ c.loop-i.i = omega arith in
    summed_at_last (g.P.Planariser.blocking c.args.self.planariser.now) m c.loop-i.i c.loop-i.total c.loop-i.invariant end
