use Rattle.delivery.proofs.Running.{every}
use Rattle.network.proofs.Pasts.{law_of_pasts}
use Rattle.network.proofs.network.Network.new.Goals as goal

pub returns-clause-delivers : goal.returns-clause-delivers
returns-clause-delivers g c =
    law_of_pasts every (g.H.Reading.meaning c.args.host) (g.P.Planariser.blocking c.args.planariser)
    (g.met.H.Reading.mapped c.args.host) (g.met.P.Planariser.lawful c.args.planariser)

pub returns-clause-always : goal.returns-clause-always
returns-clause-always g c = law_of_pasts every
