use Rattle.kept.proofs.Counting.{kept_there, none_there}
use Rattle.kept.proofs.links.KeptGraph.is_kept.Goals as goal

pub returns : goal.returns
returns g c =
    kept_there (g.P.Planariser.blocking c.args.self.planariser.now) (g.R.Reading.meaning c.args.self.host.now) c.args.i c.args.j c.in-Some.u c.in-Some.ensures
    c.in-Some-next_neighbour.v c.is_kept_as.result c.in-Some-next_neighbour.ensures c.is_kept_as.ensures

pub returns-in_default-next_neighbour : goal.returns-in_default-next_neighbour
returns-in_default-next_neighbour g c =
    none_there (g.P.Planariser.blocking c.args.self.planariser.now) (g.R.Reading.meaning c.args.self.host.now) c.args.i c.args.j c.in-Some.u c.in-Some.ensures
    c.in_default-next_neighbour.ensures
