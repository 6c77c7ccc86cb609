-- What a receiver finds when a packet comes in, and what it makes of it by phase and finding.
use Rattle.std.specs.Prelude.{ℕ, ◌-◌, Bool, List, Some, None, Option, ◌==◌}
use Rattle.floor.specs.declared.node.Node.{Node}
use Rattle.face.specs.declared.record.Course.{Course}
use Rattle.face.specs.declared.record.Record.{Record}
use Rattle.face.specs.declared.record.Phase.{Phase}
use Rattle.face.specs.declared.record.Phase.TheVariants.{Round, Ahead, Back}
use Rattle.face.specs.declared.record.End.TheVariants.{Delivered}
use Rattle.face.specs.declared.step.Arrival.{Arrival}
use Rattle.face.specs.declared.step.Arrival.TheVariants.{AtTarget, Astray, Next, Done}
use Rattle.face.specs.Crossing.{crossing}
use Rattle.face.specs.Packet.{Verdict, GoesOn, Ends, Stale, link_of, counted, walking, is_link, on_with, reopened, closed}

-- `go` takes the neighbour turned from and the next one, if there are such
abbrev pub led : (Node → Node → Verdict) → Option (Node × Node) → Verdict
led go None = Stale
led go (Some found) = go found.0 found.1

-- the course of a round after the link from number u, which is the node `came`, to v
abbrev pub lengthened : Record → ℕ → Node → Node → Course
lengthened r u came v = counted r.course (link_of u v.number) (crossing r.source r.target came v)

-- the round is closed by the next link, from v to w, or no send is left to walk after this one
abbrev pub is_done : Record → ℕ → ℕ → Phase → Bool
is_done r v w Round = is_link r.course.first v w
is_done r v w Ahead = r.course.walk - 1 == 0
is_done r v w Back = r.course.walk - 1 == 0

-- v is the receiver, `near` its kept neighbours
module _ (v : Node) (near : List Node) where
  -- the next link, to w, is in hand
  abbrev pub onward : Record → ℕ → Node → ℕ → Phase → Verdict
  onward r u came w Round = GoesOn w (lengthened r u came v)
  onward r u came w Ahead = GoesOn w (walking Ahead (r.course.walk - 1) r.course)
  onward r u came w Back = GoesOn w (walking Back (r.course.walk - 1) r.course)

  -- the round is closed, or none is left to walk
  abbrev pub done : Record → ℕ → Node → ℕ → Phase → Verdict
  done r u came w Round = closed v near (lengthened r u came v) w (lengthened r u came v).best
  done r u came w Ahead = on_with (reopened v near Ahead) r.course.best
  done r u came w Back = on_with (reopened v near Back) r.course.best

  -- the verdict on a packet that came from u, by what was found and its phase
  abbrev pub upon : Record → ℕ → Arrival → Verdict
  upon r u AtTarget = Ends Delivered r.course
  upon r u Astray = Stale
  upon r u (Next came w) = onward r u came w r.course.phase
  upon r u (Done came w) = done r u came w r.course.phase
