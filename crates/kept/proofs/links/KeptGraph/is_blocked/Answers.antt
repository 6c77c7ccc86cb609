use Rattle.std.proofs.Common.{◌&&◌, rules, tests}
use Rattle.std.proofs.lemmas.Iterator.Consumers.{YieldsList-from_first}
use Rattle.std.proofs.lemmas.Iterator.Search.{any_from_yields_List}
use Rattle.floor.specs.declared.node.Node.{Node}
use Rattle.floor.specs.Numbers.{differ}
use Rattle.floor.specs.Meaning.{neighbours}
use Rattle.host.specs.Remaining.{remaining_of}
use Rattle.kept.proofs.links.KeptGraph.is_blocked.Goals as goal

pub returns : goal.returns
returns g c =
    let u = c.args.u in
    let v = c.args.v in
    let all = neighbours (g.R.Reading.meaning c.args.self.host.now) u.number in
    any_from_yields_List (λ (w : Node). differ w.number v.number && g.P.Planariser.blocking c.args.self.planariser.now u.point v.point w.point) c.any.new.self _ c.any.result c.any.ensures.ran
    (YieldsList-from_first (λ x. x) (remaining_of g.R.Reading.meaning) all c.of.ensures)
    (λ x b q k. search (rules, tests))
