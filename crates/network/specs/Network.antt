-- A network: sixteen lines over a host; its six calls, what each is answered, and the network after it.
use Rattle.std.specs.Prelude.{◌≡◌, ℕ, zero, suc, ◌<◌, min, Bool, true, false, cond, ◌&&◌, List, [], ◌∷◌, ◌++◌, length, replicate, is_some, Some, None, Option, ◌==◌, nat_lt, slice_index_or, slice_set}
use Rattle.floor.specs.declared.node.Radio.{Radio}
use Rattle.std.specs.List.{list_any}
use Rattle.floor.specs.Meaning.{Meaning, radio}
use Rattle.floor.specs.Planar.{Blocks}
use Rattle.host.specs.Questions.{with_mark}
use Rattle.face.specs.declared.record.Link.{Link}
use Rattle.face.specs.declared.record.Record.{Record}
use Rattle.face.specs.declared.record.End.{End}
use Rattle.face.specs.Packet.{send, opening}
use Rattle.delivery.specs.Law.{serving, after_sends}
use Rattle.network.specs.declared.types.HopRecord.{HopRecord}
use Rattle.network.specs.declared.types.Stopper.{Stopper}
use Rattle.network.specs.declared.types.Stopper.TheVariants.{Ended, Budget, Full}
use Rattle.network.specs.declared.types.Refusal.{Refusal}
use Rattle.network.specs.declared.types.Refusal.TheVariants.{NoLine, LineTaken, NoNode, OutOfService, LineEmpty, PacketEnded, PacketUnderWay, NetworkBusy}
use Rattle.network.specs.Refusals.{number_of}

-- a network, as its calls see it
pub record Net : Type 0 where
  pub host : Meaning
  pub lines : List (Option Record)

abbrev pub made : Meaning → Net
made m = record { host = m; lines = replicate 16 None }

pub data LineCall : Type 0 where
  -- source and target
  Open : ℕ → ℕ → LineCall
  Hop : LineCall
  -- the budget, and the free places of the list
  Carry : ℕ → ℕ → LineCall
  Collect : LineCall

pub data Call : Type 0 where
  On : ℕ → LineCall → Call
  Withdraw : ℕ → Call
  Return : ℕ → Call

pub data Answer : Type 0 where
  Denied : ℕ → Answer
  Opened : Answer
  -- sender and receiver
  Hopped : ℕ × ℕ → Answer
  Carried : List HopRecord → Stopper → Answer
  -- end and total
  Collected : End → ℕ → Answer
  Switched : Answer

abbrev pub refused : Refusal → Answer
refused e = Denied (number_of e)

-- ---- what the calls are made of

abbrev pub on_line : Net → ℕ → Option Record
on_line n l = slice_index_or n.lines l None

abbrev pub put : Net → ℕ → Option Record → Net
put n l o = record { host = n.host; lines = slice_set n.lines l o }

-- a packet is under way while it has a link in hand: its end takes that away
abbrev pub moving : Option Record → Bool
moving None = false
moving (Some r) = is_some r.hand

-- the hop along the link in hand
abbrev pub hop_along : Record → Option Link → List HopRecord
hop_along r None = []
hop_along r (Some k) = record { sender = k.from; receiver = k.to; phase = r.course.phase } ∷ []

-- the hops that at most n sends make
abbrev pub trail : Blocks → Meaning → ℕ → Record → List HopRecord
trail b m zero r = []
trail b m (suc n) r = hop_along r r.hand ++ trail b m n (send b m r)

-- what stopped a carry of so many hops that left r: its end, the budget used up, the full list, in this order
abbrev pub stopper : Record → ℕ → ℕ → Stopper
stopper r hops budget = cond (is_some r.hand) (cond (hops == budget) Budget Full) Ended

-- ---- the calls

module _ (b : Blocks) (n : Net) where
  abbrev pub opened_on : ℕ → Bool → Option Record → Net × Answer
  opened_on l both_serve None = (n, refused NoNode)
  opened_on l both_serve (Some r) = cond both_serve (put n l (Some r), Opened) (n, refused OutOfService)

  abbrev pub hopped_on : ℕ → Record → Option Link → Net × Answer
  hopped_on l r None = (n, refused PacketEnded)
  hopped_on l r (Some k) = (put n l (Some (send b n.host r)), Hopped (k.from, k.to))

  -- as many hops as the budget and the list allow, or fewer, up to the end
  abbrev pub carried_on : ℕ → ℕ → ℕ → Record → Net × Answer
  carried_on l budget most r =
      let last = after_sends b n.host most r in
      let hops = trail b n.host most r in
      (put n l (Some last), Carried hops (stopper last (length hops) budget))

  -- a call on line l, which is at most 15 and holds a record or none
  abbrev pub call_on : ℕ → Option Record → LineCall → Net × Answer
  call_on l (Some r) (Open s t) = (n, refused LineTaken)
  call_on l None (Open s t) = opened_on l (serving n.host s && serving n.host t) (opening b n.host s t)
  call_on l None Hop = (n, refused LineEmpty)
  call_on l (Some r) Hop = hopped_on l r r.hand
  call_on l None (Carry budget room) = (n, refused LineEmpty)
  call_on l (Some r) (Carry budget room) = cond (is_some r.hand) (carried_on l budget (min budget room) r) (n, refused PacketEnded)
  call_on l None Collect = (n, refused LineEmpty)
  call_on l (Some r) Collect = cond (is_some r.hand) (n, refused PacketUnderWay) (put n l None, Collected r.end r.total)

  -- sets the mark of node i, a radio of the host or none
  abbrev pub switched : ℕ → Bool → Option Radio → Net × Answer
  switched i mark None = (n, refused NoNode)
  switched i mark (Some p) = cond (list_any moving n.lines) (n, refused NetworkBusy) (record { host = with_mark n.host i mark; lines = n.lines }, Switched)

  abbrev pub called : Call → Net × Answer
  called (On l c) = cond (nat_lt 15 l) (n, refused NoLine) (call_on l (on_line n l) c)
  called (Withdraw i) = switched i false (radio n.host i)
  called (Return i) = switched i true (radio n.host i)

  -- the network after a call, and the answer to it
  abbrev pub then : Call → Net
  then c = (called c).0

  abbrev pub answer : Call → Answer
  answer c = (called c).1

-- the network after some calls, the first call first
abbrev pub after : Blocks → Net → List Call → Net
after b n [] = n
after b n (c ∷ cs) = after b (then b n c) cs

abbrev pub after_hops : Blocks → Net → ℕ → ℕ → Net
after_hops b n l k = after b n (replicate k (On l Hop))

-- the hops that the packet on line l still needs: after so many it has ended, and not before
pub record HopsNeeded (b : Blocks) (n : Net) (l k : ℕ) : Type 0 where
  pub ended : moving (on_line (after_hops b n l k) l) ≡ false
  pub not_before : (i : ℕ) → i < k → moving (on_line (after_hops b n l i) l) ≡ true
