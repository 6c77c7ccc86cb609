-- The number of each refusal.
use Rattle.std.specs.Prelude.{ℕ}
use Rattle.network.specs.declared.types.Refusal.{Refusal}
use Rattle.face.specs.declared.packet.Refusal.{Refusal as Unopened}
use Rattle.face.specs.declared.packet.Refusal.TheVariants as unopened
use Rattle.network.specs.declared.types.Refusal.TheVariants.{NoLine, LineTaken, NoNode, OutOfService, LineEmpty, PacketEnded, PacketUnderWay, NetworkBusy}

abbrev pub number_of : Refusal → ℕ
-- the line is above 15
number_of NoLine = 41
-- the line is not empty
number_of LineTaken = 42
-- a number that is no node
number_of NoNode = 43
-- source or target is out of service
number_of OutOfService = 44
-- the line is empty
number_of LineEmpty = 45
-- the packet has ended
number_of PacketEnded = 46
-- the packet is under way
number_of PacketUnderWay = 47
-- some line has a packet under way
number_of NetworkBusy = 48

-- why a packet was not opened, as a network says it
abbrev pub not_opened : Unopened → Refusal
not_opened unopened.NoNode = NoNode
not_opened unopened.OutOfService = OutOfService
not_opened unopened.NoWay = OutOfService
