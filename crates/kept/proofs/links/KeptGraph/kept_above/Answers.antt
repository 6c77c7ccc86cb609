use Rattle.std.proofs.Common.{◌≡◌, ◌+◌, ◌≤◌, not, length, ◌∙◌, inl, arith, rules, tests}
use Rattle.std.proofs.lemmas.Iterator.Consumers.{YieldsList-from_first, YieldsList-from_filter, count_from_yields_List}
use Rattle.floor.specs.declared.node.Node.{Node}
use Rattle.floor.specs.Meaning.{neighbours}
use Rattle.host.specs.Questions.{numbered_from}
use Rattle.host.specs.Remaining.{remaining_of}
use Rattle.kept.specs.Kept.{blocked}
use Rattle.kept.proofs.Counting.{above, counted_above, node_below, few_numbered, above_few}
use Rattle.kept.proofs.links.KeptGraph.kept_above.Goals as goal

pub overflow_add-i : goal.overflow_add-i
overflow_add-i g c =
    let few = (g.met.R.Reading.mapped c.args.self.host.now).few in
    let below = node_below (g.R.Reading.meaning c.args.self.host.now) c.args.i c.in-Some.u c.in-Some.ensures in
    omega arith

pub count-requires-clause-fits : goal.count-requires-clause-fits
count-requires-clause-fits g c =
    let m = g.R.Reading.meaning c.args.self.host.now in
    let few = (g.met.R.Reading.mapped c.args.self.host.now).few in
    let left : length (remaining_of g.R.Reading.meaning c.filter.result.iter) ≤ length m.nodes = search (rules, few_numbered) in
    inl (omega arith)

-- what the count is
counted : (g : _) (c : goal.After-count g) → c.count.result ≡ above (g.P.Planariser.blocking c.args.self.planariser.now) (g.R.Reading.meaning c.args.self.host.now) c.args.i
counted g c =
    let m = g.R.Reading.meaning c.args.self.host.now in
    let u = c.in-Some.u in
    let from = numbered_from (c.args.i + 1) (neighbours m c.args.i) in
    count_from_yields_List c.filter.result c.count.result c.count.ensures.ran
    (YieldsList-from_filter _ (λ (v : Node). not (blocked (g.P.Planariser.blocking c.args.self.planariser.now) u.point v (neighbours m u.number)))
    (YieldsList-from_first (λ x. x) (remaining_of g.R.Reading.meaning) from (search rules)) c.filter.ensures.closure (λ x b q k. search (rules, tests)))
    ∙ counted_above (g.P.Planariser.blocking c.args.self.planariser.now) m c.args.i u c.in-Some.ensures

pub overflow_cast-result : goal.overflow_cast-result
overflow_cast-result g c =
    let few = (g.met.R.Reading.mapped c.args.self.host.now).few in
    let higher = above_few (g.P.Planariser.blocking c.args.self.planariser.now) (g.R.Reading.meaning c.args.self.host.now) c.args.i in
    let same = counted g c in
    omega arith

pub returns : goal.returns
returns g c = counted g c
