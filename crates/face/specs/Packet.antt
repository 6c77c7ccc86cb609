-- A packet's record: its opening, and what a send makes of it.
use Rattle.std.specs.Prelude.{ℕ, ◌+◌, ◌-◌, Bool, true, false, cond, ◌&&◌, List, Some, None, Option, ◌==◌, nat_eq, nat_le, nat_lt}
use Rattle.plane.specs.Plane.{way}
use Rattle.order.specs.declared.Place.{Place}
use Rattle.order.specs.declared.Sense.{Sense}
use Rattle.order.specs.declared.Sense.TheVariants.{Clockwise, Counter}
use Rattle.order.specs.declared.Start.TheVariants.{NoTurn, FullTurn}
use Rattle.order.specs.Places.{nearer}
use Rattle.floor.specs.declared.node.Node.{Node}
use Rattle.std.specs.List.{find}
use Rattle.floor.specs.Meaning.{Meaning, neighbours, node}
use Rattle.floor.specs.Planar.{Blocks}
use Rattle.kept.specs.Kept.{kept, first_round}
use Rattle.face.specs.declared.record.Link.{Link}
use Rattle.face.specs.declared.record.Best.{Best}
use Rattle.face.specs.declared.record.Course.{Course}
use Rattle.face.specs.declared.record.Record.{Record}
use Rattle.face.specs.declared.record.Phase.{Phase}
use Rattle.face.specs.declared.record.Phase.TheVariants.{Round, Ahead, Back}
use Rattle.face.specs.declared.record.End.{End}
use Rattle.face.specs.declared.record.End.TheVariants.{UnderWay, Delivered, Unreachable}
use Rattle.face.specs.Crossing.{crossing}

abbrev pub link_of : ℕ → ℕ → Link
link_of u v = record { from = u; to = v }

-- one more, up to the largest number that a record can hold; no packet of a network comes to it
abbrev pub more : ℕ → ℕ
more n = cond (nat_lt n 65535) (n + 1) n

-- ---- the course of a packet from face to face

abbrev pub new_round : Place → Option Link → Course
new_round place first = record { phase = Round; first = first; sends = 0; entry = place; best = None; walk = 0 }

abbrev pub unmarked : Link → ℕ → Place → Option Best
unmarked l index place = Some (record { link = l; index = index; place = place; marked = false })

-- the best crossing, when link l, number `index` of its round, crosses at a place nearer than the entry
abbrev pub better : Link → ℕ → Place → Option Best → Option Best
better l index place None = unmarked l index place
better l index place (Some b) =
    cond (nearer place b.place) (unmarked l index place)
    (cond (nearer b.place place) (Some b)
    (Some (record { link = b.link; index = b.index; place = b.place; marked = true })))

abbrev pub best_after : Course → Link → Option Place → Option Best
best_after c l None = c.best
best_after c l (Some place) = cond (nearer place c.entry) (better l c.sends place c.best) c.best

-- one link more of the round is walked, and where it crosses
abbrev pub counted : Course → Link → Option Place → Course
counted c l crossed = record { phase = c.phase; first = c.first; sends = more c.sends; entry = c.entry; best = best_after c l crossed; walk = c.walk }

abbrev pub walking : Phase → ℕ → Course → Course
walking phase n c = record { phase = phase; first = c.first; sends = c.sends; entry = c.entry; best = c.best; walk = n }

abbrev pub is_link : Option Link → ℕ → ℕ → Bool
is_link None u v = false
is_link (Some l) u v = l.from == u && l.to == v

-- ---- what a receiver makes of a packet, from its own kept neighbours

pub data Verdict : Type 0 where
  GoesOn : ℕ → Course → Verdict
  Ends : End → Course → Verdict
  -- it would turn from, or open to, a node that is no kept neighbour
  Stale : Verdict

abbrev pub on_with : {A : Type 0} → (A → Verdict) → Option A → Verdict
on_with go None = Stale
on_with go (Some x) = go x

-- v is the receiver, `near` its kept neighbours
module _ (v : Node) (near : List Node) where
  abbrev pub known : ℕ → Option Node
  known u = find (λ (n : Node). nat_eq n.number u) near

  -- `go` takes u, and the kept neighbour first after u, u itself coming last
  abbrev pub turning : Sense → ℕ → (Node → Node → Verdict) → Verdict
  turning sense u go = on_with (λ (un : Node). on_with (go un) (first_round sense FullTurn v.point (way v.point un.point) near)) (known u)

  -- step 5: none left to walk
  abbrev pub opens : Best → Node → Verdict
  opens b w = GoesOn w.number (new_round b.place (Some (link_of v.number w.number)))

  abbrev pub reopened : Phase → Best → Verdict
  reopened Round b = Stale
  reopened Ahead b = turning Clockwise b.link.to λ _ w. opens b w
  reopened Back b = on_with (opens b) (known b.link.from)

  -- with the next link, to w, picked: along it, or into a new round
  abbrev pub walked : Course → ℕ → Verdict
  walked c w = cond (c.walk == 0) (on_with (reopened c.phase) c.best) (GoesOn w c)

  -- step 3: the round is closed; its first link goes to w
  abbrev pub closed : Course → ℕ → Option Best → Verdict
  closed c w None = Ends Unreachable c
  closed c w (Some b) =
      let k = b.index in
      let rest = c.sends - 1 - k in
      cond b.marked (Ends Unreachable c)
      (cond (nat_le k rest) (walked (walking Ahead k c) w)
      (turning Counter w λ _ x. walked (walking Back rest c) x.number))

  -- steps 2 to 4, after coming from u
  abbrev pub arrived : Record → ℕ → Course → Phase → Verdict
  arrived r u c Round =
      turning Clockwise u λ un w.
      let c' = counted c (link_of u v.number) (crossing r.source r.target un v) in
      cond (is_link c.first v.number w.number) (closed c' w.number c'.best) (GoesOn w.number c')
  arrived r u c Ahead = turning Clockwise u λ _ w. walked (walking Ahead (c.walk - 1) c) w.number
  arrived r u c Back = turning Counter u λ _ w. walked (walking Back (c.walk - 1) c) w.number

  -- step 1, and the others
  abbrev pub verdict : Record → ℕ → Verdict
  verdict r u = cond (v.number == r.target.number) (Ends Delivered r.course) (arrived r u r.course r.course.phase)

-- the record after the send to v under a verdict
abbrev pub under : Record → ℕ → Verdict → Record
under r v (GoesOn w c) = record { source = r.source; target = r.target; holder = v; hand = Some (link_of v w); course = c; total = more r.total; end = UnderWay }
under r v (Ends e c) = record { source = r.source; target = r.target; holder = v; hand = None; course = c; total = more r.total; end = e }
under r v Stale = record { source = r.source; target = r.target; holder = v; hand = None; course = r.course; total = more r.total; end = Unreachable }

-- THE STEP: the record after a send from u to v, from v's number, point and neighbours alone
abbrev pub step : Blocks → Record → ℕ → Node → List Node → Record
step b r u v near = under r v.number (verdict v (kept b v.point near) r u)

abbrev pub source_place : Place
source_place = record { above = 0; below = 1 }

-- THE OPENING, from the source's neighbours alone
abbrev pub opened_ended : Node → Node → End → Record
opened_ended s t e = record { source = s; target = t; holder = s.number; hand = None; course = new_round source_place None; total = 0; end = e }

abbrev pub opened_along : Node → Node → Option Link → Record
opened_along s t l = record { source = s; target = t; holder = s.number; hand = l; course = new_round source_place l; total = 0; end = UnderWay }

abbrev pub opened_to : Node → Node → Option Node → Record
opened_to s t None = opened_ended s t Unreachable
opened_to s t (Some w) = opened_along s t (Some (link_of s.number w.number))

abbrev pub opened_at : Blocks → Node → Node → List Node → Record
opened_at b s t near =
    cond (s.number == t.number) (opened_ended s t Delivered)
    (opened_to s t (first_round Clockwise NoTurn s.point (way s.point t.point) (kept b s.point near)))

-- ---- over a host

-- received where the host has a node, or none
abbrev pub received : Blocks → Record → Link → Option Node → List Node → Record
received b r l None near = under r l.to Stale
received b r l (Some v) near = step b r l.from v near

abbrev pub sent_along : Blocks → Meaning → Record → Option Link → Record
sent_along b m r None = r
sent_along b m r (Some l) = received b r l (node m l.to) (neighbours m l.to)

-- A SEND over a host: along the link in hand; an ended packet stays as it is
abbrev pub send : Blocks → Meaning → Record → Record
send b m r = sent_along b m r r.hand

abbrev pub opened_between : Blocks → Option Node → Option Node → List Node → Option Record
opened_between b None t near = None
opened_between b (Some s) None near = None
opened_between b (Some s) (Some t) near = Some (opened_at b s t near)

-- the record of a new packet, if source and target are nodes
abbrev pub opening : Blocks → Meaning → ℕ → ℕ → Option Record
opening b m s t = opened_between b (node m s) (node m t) (neighbours m s)
