-- What a run of a packet answers, and what is promised of it.
use Rattle.std.specs.Prelude.{ℕ, ◌*◌, ◌≤◌, Bool, cond, ◌&&◌, Some, None, Ok, Err, Option, Result}
use Rattle.floor.specs.Meaning.{Meaning}
use Rattle.floor.specs.Planar.{Blocks}
use Rattle.kept.specs.Kept.{kept_links, kept_neighbours}
use Rattle.face.specs.declared.record.Record.{Record}
use Rattle.face.specs.declared.packet.Packet.{Packet}
use Rattle.face.specs.declared.packet.Packet.TheVariants.{Held, Ended}
use Rattle.face.specs.declared.packet.Refusal.{Refusal}
use Rattle.face.specs.Packet.{send, opening}
use Rattle.face.specs.Hand.{in_hand, may_go, denial}
use Rattle.delivery.specs.Law.{after_sends, serving, EndsRightly}

-- one send on, where the packet is held and may go
abbrev pub gone_on : Blocks → Meaning → Packet → Packet
gone_on b m (Held h) = cond (may_go (kept_neighbours b m h.token.carried.holder) h.token.carried) (in_hand (send b m h.token.carried)) (Held h)
gone_on b m (Ended e) = Ended e

abbrev pub run_if : Blocks → Meaning → ℕ → Bool → Option Record → Result Record ℕ
run_if b m budget both_serve None = Err 43
run_if b m budget both_serve (Some r) = cond both_serve (Ok (after_sends b m budget r)) (Err 44)

-- refused as an opening is; or the record after as many sends as the budget has, or fewer, up to the end
abbrev pub run_answer : Blocks → Meaning → ℕ → ℕ → ℕ → Result Record ℕ
run_answer b m s t budget = run_if b m budget (serving m s && serving m t) (opening b m s t)

-- an answer, its refusal by number
abbrev pub run_told : Result Record Refusal → Result Record ℕ
run_told (Ok r) = Ok r
run_told (Err e) = Err (denial e)

-- a run of at most `budget` sends from s to t that came to r: three sends for each kept link suffice, and then it ends rightly
pub record RunsRightly (b : Blocks) (m : Meaning) (s t budget : ℕ) (r : Record) : Type 0 where
  pub at_most : (r.total ≤ budget) × (r.total ≤ 3 * kept_links b m)
  pub ends : 3 * kept_links b m ≤ budget → EndsRightly m s t r
