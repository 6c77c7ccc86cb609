-- What a carry's call leaves and answers, once it is made
use Rattle.std.proofs.Common.{◌≡◌, ℕ, ◌-◌, min, Bool, true, false, cond, ltb, List, length, is_some, Some, None, Ok, Err, Option, Result, sym, refl, ap, ◌∙◌, subst, arith}
use Rattle.floor.specs.Planar.{Blocks}
use Rattle.face.specs.declared.record.Record.{Record}
use Rattle.delivery.specs.Law.{after_sends}
use Rattle.network.specs.declared.types.Carried.{Carried as CarryAnswer}
use Rattle.network.specs.declared.types.HopRecord.{HopRecord}
use Rattle.network.specs.declared.types.Refusal.{Refusal}
use Rattle.network.specs.declared.types.Refusal.TheVariants.{NoLine, PacketEnded}
use Rattle.network.specs.Calls.{listed, carry_answer, CarryDoes}
use Rattle.network.specs.Lent.{Extended}
use Rattle.network.specs.Lines.{occupied, packet_on}
use Rattle.network.specs.Network.{Net, On, Carry, Answer, Carried, refused, on_line, put, trail, stopper, carried_on, called}
use Rattle.network.proofs.Trails.{own_call, needed_ends, trail_length}

-- ---- what is found on a line

abbrev found : Result Record Refusal → Option Record
found (Ok r) = Some r
found (Err e) = None

pub record Held (n : Net) (l : ℕ) (r : Record) : Type 0 where
  pub low : ltb 15 l ≡ false
  pub held : on_line n l ≡ Some r

held_by : (n : Net) (l : ℕ) (r : Record) (x : Bool) (o : Option Record) → ltb 15 l ≡ x → on_line n l ≡ o → found (occupied (cond x (Err NoLine) (Ok o))) ≡ Some r → Held n l r
held_by n l r true o low e h = cc
held_by n l r false None low e h = cc
held_by n l r false (Some q) low e h = record { low = low; held = e ∙ h }

pub packet_held : (n : Net) (l : ℕ) (r : Record) → Ok r ≡ packet_on n.lines l → Held n l r
packet_held n l r h = held_by n l r (ltb 15 l) (on_line n l) refl refl (sym (ap found h))

-- ---- the call

module _ (b : Blocks) (n : Net) (l budget : ℕ) (memory : List HopRecord) (len : ℕ) where
  abbrev room : ℕ
  room = length memory - len

  pub carry_made : (r : Record) → Ok r ≡ packet_on n.lines l → is_some r.hand ≡ true
      → (q : Record) (c : CarryAnswer) (memory' : List HopRecord) (len' : ℕ)
      → q ≡ after_sends b n.host (min budget room) r
      → c ≡ carry_answer b n.host budget room r
      → Extended memory len (trail b n.host (min budget room) r) memory' len'
      → CarryDoes b n l budget memory len (put n l (Some q)) (Ok c) memory' len'
  carry_made r h moves q c memory' len' sent answered grown =
      let H = packet_held n l r h in
      let hops = trail b n.host (min budget room) r in
      let is : called b n (On l (Carry budget room)) ≡ carried_on b n l budget (min budget room) r
      = own_call b l H.low n r (Carry budget room) H.held
      ∙ ap (λ (x : Bool). cond {A = Net × Answer} x (carried_on b n l budget (min budget room) r) (n, refused PacketEnded)) moves in
      let all : listed (called b n (On l (Carry budget room))).1 ≡ hops = ap (λ (a : Net × Answer). listed a.1) is in
      let many : c.hops ≡ length hops = ap (λ (x : CarryAnswer). x.hops) answered in
      record {
        does = record {
          leaves = ap (λ (x : Record). put n l (Some x)) sent ∙ ap (λ (a : Net × Answer). a.0) (sym is);
          says = ap (λ (x : CarryAnswer). Carried (listed (called b n (On l (Carry budget room))).1) x.stopper) answered
              ∙ ap (λ (hs : List HopRecord). Carried hs (stopper (after_sends b n.host (min budget room) r) (length hops) budget)) all
              ∙ ap (λ (a : Net × Answer). a.1) (sym is);
        };
        counts = many ∙ ap length (sym all);
        least = λ needed N. many ∙ trail_length b n.host (min budget room) needed r (needed_ends b l H.low n r H.held needed N) ∙ omega arith;
        lists = subst (λ (hs : List HopRecord). Extended memory len hs memory' len') (sym all) grown;
      }
