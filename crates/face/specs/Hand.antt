-- Packets in the hand, by the records that they carry: what opening, forwarding and receiving answer.
use Rattle.std.specs.Prelude.{◌≡◌, ℕ, Bool, false, cond, ◌&&◌, List, Some, None, Ok, Err, Option, Result, ◌==◌, nat_lt}
use Rattle.plane.specs.declared.Point.{Point}
use Rattle.plane.specs.Plane.{way}
use Rattle.order.specs.declared.Sense.TheVariants.{Clockwise}
use Rattle.order.specs.declared.Start.TheVariants.{NoTurn}
use Rattle.floor.specs.declared.node.Node.{Node}
use Rattle.floor.specs.Meaning.{Meaning, node, neighbours, is_among, serving}
use Rattle.floor.specs.Planar.{Blocks}
use Rattle.kept.specs.Kept.{first_round, kept_neighbours}
use Rattle.face.specs.declared.record.Link.{Link}
use Rattle.face.specs.declared.record.Record.{Record}
use Rattle.face.specs.declared.record.End.TheVariants.{Delivered}
use Rattle.face.specs.declared.packet.Token.{Token}
use Rattle.face.specs.declared.packet.Held.{Held}
use Rattle.face.specs.declared.packet.InAir.{InAir}
use Rattle.face.specs.declared.packet.Packet.{Packet}
use Rattle.face.specs.declared.packet.Packet.TheVariants as packet
use Rattle.face.specs.declared.packet.Refusal.{Refusal}
use Rattle.face.specs.declared.packet.Refusal.TheVariants.{NoNode, OutOfService, NoWay}
use Rattle.face.specs.declared.packet.Unsent.{Unsent}
use Rattle.face.specs.Packet.{opened_ended, opened_to, opening, send}

-- the number of each refusal
abbrev pub denial : Refusal → ℕ
denial NoNode = 43
denial OutOfService = 44
denial NoWay = 61

-- ---- live packets

abbrev pub live : Record → Token
live r = record { carried = r; spent = false }

abbrev pub in_air : Record → InAir
in_air r = record { token = live r }

abbrev pub in_hand_with : Record → Option Link → Packet
in_hand_with r None = packet.Ended (record { token = live r })
in_hand_with r (Some l) = packet.Held (record { token = live r })

-- held where a link is in hand, ended where none is
abbrev pub in_hand : Record → Packet
in_hand r = in_hand_with r r.hand

-- the record of a packet
abbrev pub carried_by : Packet → Record
carried_by (packet.Held p) = p.token.carried
carried_by (packet.Ended p) = p.token.carried

-- ---- opening

-- from the source's kept neighbours
abbrev pub opened_from : Node → Node → List Node → Record
opened_from s t near =
    cond (s.number == t.number) (opened_ended s t Delivered)
    (opened_to s t (first_round Clockwise NoTurn s.point (way s.point t.point) near))

abbrev pub opened_if : Bool → Option Record → Result Packet ℕ
opened_if serving None = Err 43
opened_if serving (Some r) = cond serving (Ok (in_hand r)) (Err 44)

-- a packet over a host: refused with 43 where source or target is no node, with 44 where either is out of service
abbrev pub open_answer : Blocks → Meaning → ℕ → ℕ → Result Packet ℕ
open_answer b m s t = opened_if (serving m s && serving m t) (opening b m s t)

-- an answer to opening, its refusal by number
abbrev pub open_told : Result Packet Refusal → Result Packet ℕ
open_told (Ok p) = Ok p
open_told (Err e) = Err (denial e)

-- ---- forwarding

-- the link in hand goes from the holder to one of these, and a send can still be counted
abbrev pub may_go_along : List Node → Record → Option Link → Bool
may_go_along near r None = false
may_go_along near r (Some l) = l.from == r.holder && nat_lt r.total 65535 && is_among near l.to

abbrev pub may_go : List Node → Record → Bool
may_go near r = may_go_along near r r.hand

-- into the air; or refused with 61, and handed back as it was
abbrev pub forward_answer : Blocks → Meaning → Held → Result InAir (ℕ × Held)
forward_answer b m h = cond (may_go (kept_neighbours b m h.token.carried.holder) h.token.carried) (Ok (in_air h.token.carried)) (Err (61, h))

-- an answer to forwarding or hopping, its refusal by number
abbrev pub told : {A : Type 0} → Result A Unsent → Result A (ℕ × Held)
told (Ok x) = Ok x
told (Err u) = Err (denial u.why, u.held)

-- ---- receiving

-- one send: refused as forwarding is, or the packet where it came to
abbrev pub hop_answer : Blocks → Meaning → Held → Result Packet (ℕ × Held)
hop_answer b m h = cond (may_go (kept_neighbours b m h.token.carried.holder) h.token.carried) (Ok (in_hand (send b m h.token.carried))) (Err (61, h))

-- planarisers that answer alike, equal records, and receivers with equal numbers, points and neighbours: equal records after a send
abbrev pub SendsAreLocal : Type 0
SendsAreLocal =
    (b c : Blocks) (m n : Meaning) (r s : Record) (l : Link) →
    ((x y z : Point) → b x y z ≡ c x y z) → r ≡ s → r.hand ≡ Some l →
    node m l.to ≡ node n l.to → neighbours m l.to ≡ neighbours n l.to →
    send b m r ≡ send c n s
