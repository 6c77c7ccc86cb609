use Rattle.std.proofs.Common.{◌∙◌}
use Rattle.host.proofs.Asking.{asked_first}
use Rattle.host.proofs.neighbours.Neighbours.of.Goals as goal

pub returns : goal.returns
returns g c = c.numbered_from.ensures ∙ asked_first (g.R.Reading.meaning c.args.host.now) c.args.i
