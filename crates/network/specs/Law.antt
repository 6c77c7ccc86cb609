-- THE LAW over every past of every network: each packet ends in time, ends rightly, and goes by the rules.
use Rattle.std.specs.Prelude.{◌≡◌, ℕ, ◌+◌, ◌*◌, ◌≤◌, min, Bool, true, false, cond, not, T, ◌≢◌, ◌⊎◌, List, [], ◌∷◌, ◌++◌, map, length, Some, Option, ◌==◌, nat_le}
use Rattle.plane.specs.declared.Point.{Point}
use Rattle.std.specs.List.{list_any}
use Rattle.floor.specs.Meaning.{Meaning, Mapped, Joined, point_at, neighbours}
use Rattle.floor.specs.Planar.{Blocks, Lawful}
use Rattle.host.specs.Questions.{with_mark}
use Rattle.kept.specs.Kept.{Kept, kept_links}
use Rattle.face.specs.declared.record.Record.{Record}
use Rattle.face.specs.declared.record.End.{End}
use Rattle.face.specs.declared.record.End.TheVariants.{Delivered, Unreachable}
use Rattle.face.specs.Packet.{opening}
use Rattle.delivery.specs.Law.{after_sends}
use Rattle.network.specs.declared.types.HopRecord.{HopRecord}
use Rattle.network.specs.declared.types.Stopper.{Stopper}
use Rattle.network.specs.declared.types.Stopper.TheVariants.{Ended, Budget, Full}
use Rattle.network.specs.declared.types.Refusal.TheVariants.{PacketEnded}
use Rattle.network.specs.Network.{Net, made, Call, On, Withdraw, Return, Open, Hop, Carry, Collect, Answer, Denied, Opened, Hopped, Carried, Collected, Switched, refused, on_line, HopsNeeded, trail, then, answer, after}

-- ---- what a past tells

-- a call, and what it was answered
abbrev pub Event : Type 0
Event = Call × Answer

-- from n on, the network really answers so
abbrev pub Past : Blocks → Net → List Event → Type 0
Past b n [] = Unit {0}
Past b n (e ∷ es) = (answer b n e.0 ≡ e.1) × Past b (then b n e.0) es

-- the network after a past
abbrev pub net_after : Blocks → Net → List Event → Net
net_after b n es = after b n (map (λ (e : Event). e.0) es)

abbrev pub is_on : ℕ → Call → Bool
is_on l (On k c) = k == l
is_on l (Withdraw i) = false
is_on l (Return i) = false

-- the answers told on a line
abbrev pub told_on : ℕ → List Event → List Answer
told_on l [] = []
told_on l (e ∷ es) = let rest = told_on l es in cond (is_on l e.0) (e.1 ∷ rest) rest

abbrev pub send_of : HopRecord → ℕ × ℕ
send_of h = (h.sender, h.receiver)

-- the sends that an answer tells of, each with sender and receiver: a hop's, and those that a carry makes
abbrev pub sent_by : Answer → List (ℕ × ℕ)
sent_by (Denied k) = []
sent_by Opened = []
sent_by (Hopped h) = h ∷ []
sent_by (Carried hs stop) = map send_of hs
sent_by (Collected e n) = []
sent_by Switched = []

abbrev pub all_sent : List Answer → List (ℕ × ℕ)
all_sent [] = []
all_sent (a ∷ rest) = sent_by a ++ all_sent rest

abbrev pub is_collection : Answer → Bool
is_collection (Denied k) = false
is_collection Opened = false
is_collection (Hopped h) = false
is_collection (Carried hs stop) = false
is_collection (Collected e n) = true
is_collection Switched = false

abbrev pub is_switching : Answer → Bool
is_switching (Denied k) = false
is_switching Opened = false
is_switching (Hopped h) = false
is_switching (Carried hs stop) = false
is_switching (Collected e n) = false
is_switching Switched = true

abbrev pub marked_by : Meaning → Call → Meaning
marked_by m (On l c) = m
marked_by m (Withdraw i) = with_mark m i false
marked_by m (Return i) = with_mark m i true

-- the host after a past: the marks at the making, as accepted withdrawals and returns have set them
abbrev pub host_after : Meaning → List Event → Meaning
host_after m [] = m
host_after m (e ∷ es) = host_after (cond (is_switching e.1) (marked_by m e.0) m) es

-- ---- a packet

-- A packet's journey up to a moment, in a network made over m with the planariser b: what was told before its opening, its opening, which
-- was accepted, and what was told since, no collection on its line among it.
pub record Journey (b : Blocks) (m : Meaning) : Type 0 where
  pub earlier : List Event
  pub line : ℕ
  pub source : ℕ
  pub target : ℕ
  pub since : List Event
  pub past : Past b (made m) (earlier ++ (On line (Open source target), Opened) ∷ since)
  pub uncollected : T (not (list_any is_collection (told_on line since)))

module _ {b : Blocks} {m : Meaning} (P : Journey b m) where
  abbrev pub whole_past : List Event
  whole_past = P.earlier ++ (On P.line (Open P.source P.target), Opened) ∷ P.since

  -- the network at this moment
  abbrev pub network_now : Net
  network_now = net_after b (made m) whole_past

  abbrev pub host_now : Meaning
  host_now = host_after m whole_past

  abbrev pub host_at_opening : Meaning
  host_at_opening = host_after m P.earlier

  -- the sends that it can make at most: three for each kept link at its opening
  abbrev pub most_sends : ℕ
  most_sends = 3 * kept_links b host_at_opening

  -- its sends so far
  abbrev pub sends : List (ℕ × ℕ)
  sends = all_sent (told_on P.line P.since)

  abbrev pub record_of : Option Record
  record_of = on_line network_now P.line

  -- a collect would be accepted, and answer so
  abbrev pub EndsAs : End → ℕ → Type 0
  EndsAs e total = answer b network_now (On P.line Collect) ≡ Collected e total

  abbrev pub HasEnded : Type 0
  HasEnded = (e : End) × (total : ℕ) × EndsAs e total

  -- a hop would be accepted, and answer so
  abbrev pub NextSend : ℕ → ℕ → Type 0
  NextSend u v = answer b network_now (On P.line Hop) ≡ Hopped (u, v)

  abbrev pub record_after_hop : Option Record
  record_after_hop = on_line (then b network_now (On P.line Hop)) P.line

  -- a carry of it would be accepted, and answer so
  abbrev pub CarriesAs : ℕ → ℕ → List HopRecord → Stopper → Type 0
  CarriesAs budget room hops stop = answer b network_now (On P.line (Carry budget room)) ≡ Carried hops stop

-- each send leaves the holder, first u, along a kept link
abbrev pub Walk : Blocks → Meaning → ℕ → List (ℕ × ℕ) → Type 0
Walk b m u [] = Unit {0}
Walk b m u (x ∷ xs) = (x.0 ≡ u) × Kept b m u x.1 × Walk b m x.1 xs

-- planarisers answer alike, of three distinct points
abbrev pub Alike : Blocks → Blocks → Type 0
Alike b b' = (x y z : Point) → x ≢ y → x ≢ z → y ≢ z → b x y z ≡ b' x y z

-- a hop made by itself, as a past tells it
abbrev pub lone_hop : ℕ → HopRecord → Event
lone_hop l h = (On l Hop, Hopped (send_of h))

-- what stops a carry first, if the packet needs so many hops more
abbrev pub first_to_stop : ℕ → ℕ → ℕ → Stopper
first_to_stop needed budget room = cond (nat_le needed (min budget room)) Ended (cond (nat_le budget room) Budget Full)

-- ---- the law, of a packet of a network made over m with the planariser b

module _ (b : Blocks) (m : Meaning) (P : Journey b m) where
  -- (i) it ends in time
  pub record Bounded : Type 0 where
    pub at_most : length (sends P) ≤ most_sends P
    pub ended_then : length (sends P) ≡ most_sends P → HasEnded P
    pub total_told : (e : End) (total : ℕ) → EndsAs P e total → total ≡ length (sends P)
    -- it stands still only when it has ended, and then for good
    pub moves : HasEnded P ⊎ ((u : ℕ) × (v : ℕ) × NextSend P u v)
    pub rests : HasEnded P → answer b (network_now P) (On P.line Hop) ≡ refused PacketEnded

  -- (ii) its end is right: delivered exactly when radio links joined its source to its target at its opening, else unreachable
  abbrev pub Right : Type 0
  Right =
      (e : End) (total : ℕ) → EndsAs P e total →
      ((e ≡ Delivered) × Joined (host_at_opening P) P.source P.target)
      ⊎ ((e ≡ Unreachable) × ¬ Joined (host_at_opening P) P.source P.target)

  -- (iii) its record and its sends are those that the rules make, `r` being the record of its opening
  pub record ByTheRules : Type 0 where
    pub r : Record
    pub opening_is : opening b (host_at_opening P) P.source P.target ≡ Some r
    pub record_is : record_of P ≡ Some (after_sends b (host_at_opening P) (length (sends P)) r)
    pub sends_are : sends P ≡ map send_of (trail b (host_at_opening P) (length (sends P)) r)
    pub along_kept_links : Walk b (host_at_opening P) P.source (sends P)

  -- (iii) a carry makes as many hops as the budget, the hops needed and the free places allow; each of them, made by itself, would be
  -- answered alike, and lead to the same network
  pub record CarriesByHops : Type 0 where
    pub needed : ℕ
    pub needed_is : HopsNeeded b (network_now P) P.line needed
    pub needed_at_most : length (sends P) + needed ≤ most_sends P
    pub makes : (budget room : ℕ) (hops : List HopRecord) (stop : Stopper) → CarriesAs P budget room hops stop → length hops ≡ min budget (min needed room)
    pub stops : (budget room : ℕ) (hops : List HopRecord) (stop : Stopper) → CarriesAs P budget room hops stop → stop ≡ first_to_stop needed budget room
    pub told_alike : (budget room : ℕ) (hops : List HopRecord) (stop : Stopper) → CarriesAs P budget room hops stop → Past b (network_now P) (map (lone_hop P.line) hops)
    pub same_after : (budget room : ℕ) (hops : List HopRecord) (stop : Stopper) → CarriesAs P budget room hops stop
        → then b (network_now P) (On P.line (Carry budget room)) ≡ net_after b (network_now P) (map (lone_hop P.line) hops)

  -- (iii) and each send is local. Q is the journey of any packet of any second network, with any host and any past. Planarisers that answer alike, equal
  -- records, and receivers with equal points and equal neighbours, before a send of each: equal records after it
  abbrev pub Local : Type 0
  Local =
      (b' : Blocks) (m' : Meaning) (Q : Journey b' m') (u v u' v' : ℕ) →
      Alike b b' →
      NextSend P u v → NextSend Q u' v' →
      record_of P ≡ record_of Q →
      point_at (host_now P) v ≡ point_at (host_now Q) v' →
      neighbours (host_now P) v ≡ neighbours (host_now Q) v' →
      record_after_hop P ≡ record_after_hop Q

  pub record Delivers : Type 0 where
    pub bounded : Bounded
    pub right : Right
    pub by_the_rules : ByTheRules
    pub carries : CarriesByHops
    pub local : Local

-- of every network over every map, with every lawful planariser: every packet, at every moment of every past
abbrev pub EveryPacketIsDelivered : Type 0
EveryPacketIsDelivered = (m : Meaning) (b : Blocks) → Mapped m → Lawful b → (P : Journey b m) → Delivers b m P
