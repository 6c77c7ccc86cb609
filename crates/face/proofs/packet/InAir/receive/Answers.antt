use Rattle.face.proofs.Hosts.{sends_are_local}
use Rattle.face.proofs.packet.InAir.receive.Goals as goal

pub returns-clause-local : goal.returns-clause-local
returns-clause-local g c = sends_are_local
