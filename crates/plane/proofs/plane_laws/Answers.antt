use Rattle.plane.proofs.PlaneLaws.{plane_laws}
use Rattle.plane.proofs.plane_laws.Goals as goal

pub returns : goal.returns
returns c = plane_laws
