-- THE RUN LAW: what becomes of a packet over an unchanged host.
use Rattle.std.specs.Prelude.{◌≡◌, ℕ, ◌*◌, ◌<◌, true, ◌⊎◌, Some, None}
use Rattle.floor.specs.Numbers.{iterate}
use Rattle.floor.specs.Meaning.{Meaning, Serving, Joined}
pub use Rattle.floor.specs.Meaning.{serving}
use Rattle.floor.specs.Planar.{Blocks, Lawful}
use Rattle.kept.specs.Kept.{Kept, kept_links}
use Rattle.face.specs.declared.record.Link.{Link}
use Rattle.face.specs.declared.record.Record.{Record}
use Rattle.face.specs.declared.record.End.{End}
use Rattle.face.specs.declared.record.End.TheVariants.{UnderWay, Delivered, Unreachable}
use Rattle.face.specs.Packet.{send, opening}

-- the record after n sends
abbrev pub after_sends : Blocks → Meaning → ℕ → Record → Record
after_sends b m n r = iterate n (send b m) r

-- an end that is told: delivered just when a chain of radio links joins source and target
abbrev pub RightEnd : Meaning → ℕ → ℕ → End → Type 0
RightEnd m s t UnderWay = Unit {0}
RightEnd m s t Delivered = Joined m s t
RightEnd m s t Unreachable = ¬ Joined m s t

-- under way, the link in hand is a kept link of the holder
pub record UnderWayAlong (b : Blocks) (m : Meaning) (r : Record) : Type 0 where
  pub l : Link
  pub in_hand : r.hand ≡ Some l
  pub leaves : l.from ≡ r.holder
  pub along : Kept b m l.from l.to

-- has ended: no link in hand, and an end is told
abbrev pub HasEnded : Record → Type 0
HasEnded r = (r.hand ≡ None) × ((r.end ≡ Delivered) ⊎ (r.end ≡ Unreachable))

-- after n sends, none of them made by a packet that had ended, either it has ended, or it goes on along a kept link and n is below 3·K;
-- its total is n, and its end is right
pub record Standing (b : Blocks) (m : Meaning) (s t n : ℕ) (r : Record) : Type 0 where
  pub total_is : r.total ≡ n
  pub goes : HasEnded r ⊎ ((r.end ≡ UnderWay) × UnderWayAlong b m r × (n < 3 * kept_links b m))
  pub right : RightEnd m s t r.end

-- n sends were made, each by a packet under way
abbrev pub Made : Blocks → Meaning → ℕ → Record → Type 0
Made b m n r = (i : ℕ) → i < n → (after_sends b m i r).end ≡ UnderWay

-- EVERY RUN: over every meaning in general position (nodes in service alone), every lawful planariser, every source and target in service
abbrev pub EveryRun : Type 0
EveryRun =
    (b : Blocks) (m : Meaning) → Lawful b → Serving m → (s t : ℕ) → serving m s ≡ true → serving m t ≡ true
    → (r : Record) → opening b m s t ≡ Some r → (n : ℕ) → Made b m n r → Standing b m s t n (after_sends b m n r)

-- ended: delivered, and a chain of radio links joins source and target; or unreachable, and none does
abbrev pub EndsRightly : Meaning → ℕ → ℕ → Record → Type 0
EndsRightly m s t r = ((r.end ≡ Delivered) × Joined m s t) ⊎ ((r.end ≡ Unreachable) × ¬ Joined m s t)
