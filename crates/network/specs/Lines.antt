-- What a call finds on its line.
use Rattle.std.specs.Prelude.{ℕ, cond, List, Some, None, Ok, Err, Option, Result, nat_lt, slice_index_or}
use Rattle.face.specs.declared.record.Record.{Record}
use Rattle.network.specs.declared.types.Refusal.{Refusal}
use Rattle.network.specs.declared.types.Refusal.TheVariants.{NoLine, LineTaken, LineEmpty}

-- what line l holds
abbrev pub content_on : List (Option Record) → ℕ → Result (Option Record) Refusal
content_on lines l = cond (nat_lt 15 l) (Err NoLine) (Ok (slice_index_or lines l None))

abbrev pub vacant : Result (Option Record) Refusal → Result (Unit {0}) Refusal
vacant (Err e) = Err e
vacant (Ok None) = Ok tt
vacant (Ok (Some r)) = Err LineTaken

-- line l is empty
abbrev pub vacant_on : List (Option Record) → ℕ → Result (Unit {0}) Refusal
vacant_on lines l = vacant (content_on lines l)

abbrev pub occupied : Result (Option Record) Refusal → Result Record Refusal
occupied (Err e) = Err e
occupied (Ok None) = Err LineEmpty
occupied (Ok (Some r)) = Ok r

-- the packet's record on line l
abbrev pub packet_on : List (Option Record) → ℕ → Result Record Refusal
packet_on lines l = occupied (content_on lines l)
