use Rattle.order.proofs.ArcTest.{arc_laws}
use Rattle.order.proofs.direction.arc_laws.Goals as goal

pub returns : goal.returns
returns c = arc_laws
