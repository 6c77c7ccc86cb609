-- What the code's calls promise, in the words of the model.
use Rattle.std.specs.Prelude.{◌≡◌, ℕ, ◌-◌, min, Bool, cond, ◌&&◌, List, [], length, IfOk, Some, None, Ok, Err, Option, Result}
use Rattle.floor.specs.declared.node.Radio.{Radio}
use Rattle.std.specs.List.{list_any}
use Rattle.floor.specs.Meaning.{Meaning, radio}
use Rattle.floor.specs.Planar.{Blocks}
use Rattle.face.specs.declared.record.Record.{Record}
use Rattle.face.specs.Packet.{opening}
use Rattle.delivery.specs.Law.{serving, after_sends}
use Rattle.network.specs.declared.types.HopRecord.{HopRecord}
use Rattle.network.specs.declared.types.Carried.{Carried as CarryAnswer}
use Rattle.network.specs.declared.types.Refusal.{Refusal}
use Rattle.network.specs.declared.types.Refusal.TheVariants.{NoNode, OutOfService, NetworkBusy}
use Rattle.network.specs.Network.{Net, Call, Answer, Denied, Opened, Hopped, Carried, Collected, Switched, On, Carry, refused, moving, trail, stopper, then, answer, HopsNeeded}
use Rattle.network.specs.Lent.{Extended}

-- a network with that host and those lines
abbrev pub net : Meaning → List (Option Record) → Net
net m lines = record { host = m; lines = lines }

-- an answer of the code, as the model has it
abbrev pub told : {A : Type 0} → (A → Answer) → Result A Refusal → Answer
told accepted (Ok x) = accepted x
told accepted (Err e) = refused e

-- the call leaves the network and is answered as the model says
pub record Does (b : Blocks) (before : Net) (c : Call) (left : Net) (said : Answer) : Type 0 where
  pub leaves : left ≡ then b before c
  pub says : said ≡ answer b before c

-- the hops that an answer lists
abbrev pub listed : Answer → List HopRecord
listed (Denied e) = []
listed Opened = []
listed (Hopped h) = []
listed (Carried hops stop) = hops
listed (Collected e n) = []
listed Switched = []

-- the hops that a carry makes, the list having so many free places
abbrev pub carried_hops : Blocks → Net → ℕ → ℕ → ℕ → List HopRecord
carried_hops b n l budget room = listed (answer b n (On l (Carry budget room)))

abbrev pub free_places : List HopRecord → ℕ → ℕ
free_places memory len = length memory - len

-- a carry does what the model says, with a list in such a memory; the number of its hops is the least of the budget, the hops needed
-- and the free places; and the list has its hops and nothing else new
pub record CarryDoes (b : Blocks) (before : Net) (l budget : ℕ) (memory : List HopRecord) (len : ℕ) (left : Net) (r : Result CarryAnswer Refusal) (memory' : List HopRecord) (len' : ℕ) : Type 0 where
  pub does : Does b before (On l (Carry budget (free_places memory len))) left (told (λ c. Carried (carried_hops b before l budget (free_places memory len)) c.stopper) r)
  pub counts : IfOk r (λ c. c.hops ≡ length (carried_hops b before l budget (free_places memory len)))
  pub least : (needed : ℕ) → HopsNeeded b before l needed → IfOk r (λ c. c.hops ≡ min budget (min needed (free_places memory len)))
  pub lists : Extended memory len (carried_hops b before l budget (free_places memory len)) memory' len'

-- what a carry of a packet by itself answers, the list having so many free places
abbrev pub carry_answer : Blocks → Meaning → ℕ → ℕ → Record → CarryAnswer
carry_answer b m budget room r =
    let hops = trail b m (min budget room) r in
    record { hops = length hops; stopper = stopper (after_sends b m (min budget room) r) (length hops) budget }

abbrev pub opened_if : Bool → Option Record → Result Record Refusal
opened_if both_serve None = Err NoNode
opened_if both_serve (Some r) = cond both_serve (Ok r) (Err OutOfService)

-- the record of a new packet, or why it is not opened
abbrev pub newly_opened : Blocks → Meaning → ℕ → ℕ → Result Record Refusal
newly_opened b m s t = opened_if (serving m s && serving m t) (opening b m s t)

abbrev pub switch_if : Bool → Option Radio → Result (Unit {0}) Refusal
switch_if busy None = Err NoNode
switch_if busy (Some p) = cond busy (Err NetworkBusy) (Ok tt)

-- node i may be switched, or why it may not
abbrev pub may_switch : Meaning → List (Option Record) → ℕ → Result (Unit {0}) Refusal
may_switch m lines i = switch_if (list_any moving lines) (radio m i)
