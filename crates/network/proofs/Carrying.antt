-- A carry in its middle, and at the packet's end
use Rattle.std.proofs.Common.{◌≡◌, ℕ, zero, suc, ◌+◌, ◌-◌, ◌<◌, ◌≤◌, min, Bool, true, false, cond, eqb, List, [], ◌∷◌, ◌++◌, length, drop, set, is_err, is_some, Some, None, Ok, Err, Option, Result, sym, refl, ap, ◌∙◌, subst, append_assoc, append-nil, add-zero, add-suc, add-one, arith, length-set, ltb-true}
use Rattle.std.proofs.lemmas.List.{length_push, drop-drop, drop-set-lt}
use Rattle.std.proofs.lemmas.Bool.{cond-true, true≢false}
use Rattle.floor.specs.Meaning.{Meaning}
use Rattle.floor.specs.Planar.{Blocks}
use Rattle.face.specs.declared.record.Link.{Link}
use Rattle.face.specs.declared.record.Record.{Record}
use Rattle.face.specs.Packet.{send}
use Rattle.delivery.specs.Law.{after_sends}
use Rattle.network.specs.declared.list.AppendRefusal.{AppendRefusal}
use Rattle.network.specs.declared.list.AppendRefusal.TheVariants.{Full as NoRoom}
use Rattle.network.specs.declared.types.Carried.{Carried}
use Rattle.network.specs.declared.types.HopRecord.{HopRecord}
use Rattle.network.specs.declared.types.Stopper.TheVariants.{Ended, Budget, Full}
use Rattle.network.specs.Calls.{carry_answer}
use Rattle.network.specs.Lent.{items, has_room, appending, length_after, memory_after, items_after, Extended}
use Rattle.network.specs.Network.{hop_along, trail, stopper}
use Rattle.network.proofs.Trails.{send_ended, first_hop, trail_more}

-- ---- past its end a packet makes no hop

module _ (b : Blocks) (m : Meaning) (r : Record) (k : ℕ) (over : (after_sends b m k r).hand ≡ None) where
  settled : (d : ℕ) → after_sends b m (k + d) r ≡ after_sends b m k r
  settled zero = ap (λ (i : ℕ). after_sends b m i r) (add-zero k)
  settled (suc d) = ap (λ (i : ℕ). after_sends b m i r) (add-suc k d) ∙ ap (send b m) (settled d) ∙ send_ended b m (after_sends b m k r) over

  no_more : (d : ℕ) → trail b m (k + d) r ≡ trail b m k r
  no_more zero = ap (λ (i : ℕ). trail b m i r) (add-zero k)
  no_more (suc d) =
      ap (λ (i : ℕ). trail b m i r) (add-suc k d)
      ∙ trail_more b m (k + d) r
      ∙ ap (λ (q : Record). trail b m (k + d) r ++ hop_along q q.hand) (settled d)
      ∙ ap (λ (o : Option Link). trail b m (k + d) r ++ hop_along (after_sends b m k r) o) over
      ∙ append-nil (trail b m (k + d) r)
      ∙ no_more d

-- an append that is not refused had room
room_there : {T : Type 0} (memory : List T) (len : ℕ) (x : Bool) → has_room memory len ≡ x → is_err (appending memory len) ≡ false → x ≡ true
room_there memory len true e h = refl
room_there memory len false e h =
    absurd (true≢false (sym (ap (λ (y : Bool). is_err (cond {A = Result (Unit {0}) AppendRefusal} y (Ok tt) (Err NoRoom))) e) ∙ h))

-- ---- a carry

module _ (b : Blocks) (m : Meaning) (r₀ : Record) (budget : ℕ) (memory₀ : List HopRecord) (len₀ : ℕ) where
  -- after so many hops of a packet with record r₀: its record, and the list's memory and length
  pub record Carrying (hops : ℕ) (r : Record) (memory : List HopRecord) (len : ℕ) : Type 0 where
    pub sent : r ≡ after_sends b m hops r₀
    pub counted : length (trail b m hops r₀) ≡ hops
    pub grown : Extended memory₀ len₀ (trail b m hops r₀) memory len
    pub within : hops ≤ budget
    pub same_room : length memory ≡ length memory₀
    pub fits : len ≤ length memory

  abbrev pub room₀ : ℕ
  room₀ = length memory₀ - len₀

  module _ (hops : ℕ) (r : Record) (memory : List HopRecord) (len : ℕ) (C : Carrying hops r memory len) where
    few : hops ≤ min budget room₀
    few = let e = C.grown.longer in let f = C.counted in let h = C.fits in let k = C.same_room in let w = C.within in omega arith

    -- the packet has ended
    pub record Finished : Type 0 where
      pub packet : r ≡ after_sends b m (min budget room₀) r₀
      pub answer : ◌≡◌ {A = Carried} (record { hops = hops; stopper = Ended }) (carry_answer b m budget room₀ r₀)
      pub list : Extended memory₀ len₀ (trail b m (min budget room₀) r₀) memory len

    pub finished : r.hand ≡ None → Finished
    finished none =
        let most = min budget room₀ in
        let over : (after_sends b m hops r₀).hand ≡ None = ap (λ (q : Record). q.hand) (sym C.sent) ∙ none in
        let sum : hops + (most - hops) ≡ most = let f = few in omega arith in
        let same : after_sends b m most r₀ ≡ after_sends b m hops r₀ = ap (λ (i : ℕ). after_sends b m i r₀) (sym sum) ∙ settled b m r₀ hops over (most - hops) in
        let trailed : trail b m most r₀ ≡ trail b m hops r₀ = ap (λ (i : ℕ). trail b m i r₀) (sym sum) ∙ no_more b m r₀ hops over (most - hops) in
        let count : length (trail b m most r₀) ≡ hops = ap length trailed ∙ C.counted in
        let stop : stopper (after_sends b m most r₀) (length (trail b m most r₀)) budget ≡ Ended
        = ap (λ (o : Option Link). cond (is_some o) (cond (eqb (length (trail b m most r₀)) budget) Budget Full) Ended) (ap (λ (q : Record). q.hand) same ∙ over) in
        record {
          packet = C.sent ∙ sym same;
          answer = sym (λ i. record { hops = count i; stopper = stop i });
          list = subst (λ (hs : List HopRecord). Extended memory₀ len₀ hs memory len) (sym trailed) C.grown;
        }

    -- one hop more
    pub one_more : (k : Link) (r' : Record) (memory' : List HopRecord) (len' : ℕ) → r.hand ≡ Some k → hops < budget
        → is_err (appending memory len) ≡ false
        → len' ≡ length_after memory len
        → memory' ≡ memory_after memory len (first_hop b m r k)
        → items memory' len' ≡ items_after memory len (first_hop b m r k)
        → r' ≡ send b m r
        → Carrying (hops + 1) r' memory' len'
    one_more k r' memory' len' hand left free longer written holds made =
        let room : has_room memory len ≡ true = room_there memory len (has_room memory len) refl free in
        let below : len < length memory = ltb-true len (length memory) room in
        let x = first_hop b m r k in
        let longer' : len' ≡ len + 1 = longer ∙ cond-true (has_room memory len) _ _ room in
        let written' : memory' ≡ set memory len x = written ∙ cond-true (has_room memory len) _ _ room in
        let trailed : trail b m (hops + 1) r₀ ≡ trail b m hops r₀ ++ x ∷ []
        = ap (λ (i : ℕ). trail b m i r₀) (add-one hops) ∙ trail_more b m hops r₀
        ∙ ap (λ (q : Record). trail b m hops r₀ ++ hop_along q q.hand) (sym C.sent)
        ∙ ap (λ (o : Option Link). trail b m hops r₀ ++ hop_along r o) hand in
        let count : length (trail b m (hops + 1) r₀) ≡ hops + 1 = ap length trailed ∙ length_push (trail b m hops r₀) x ∙ ap (λ (i : ℕ). i + 1) C.counted in
        let rest' : drop (len + 1) memory ≡ drop (len + 1) memory₀
        = sym (drop-drop 1 len memory) ∙ ap (drop 1) C.grown.rest ∙ drop-drop 1 len memory₀ in
        record {
          sent = made ∙ ap (send b m) C.sent ∙ ap (λ (i : ℕ). after_sends b m i r₀) (sym (add-one hops));
          counted = count;
          grown = record {
            longer = let e = C.grown.longer in let f = C.counted in omega arith;
            holds = holds ∙ cond-true (has_room memory len) _ _ room ∙ ap (λ (xs : List HopRecord). xs ++ x ∷ []) C.grown.holds
                ∙ append_assoc (items memory₀ len₀) (trail b m hops r₀) (x ∷ []) ∙ ap (λ (xs : List HopRecord). items memory₀ len₀ ++ xs) (sym trailed);
            rest = (λ i. drop (longer' i) (written' i)) ∙ drop-set-lt (len + 1) memory len x (omega arith) ∙ rest' ∙ ap (λ (i : ℕ). drop i memory₀) (sym longer');
          };
          within = omega arith;
          same_room = ap length written' ∙ length-set memory len x ∙ C.same_room;
          fits = let e = ap length written' ∙ length-set memory len x in omega arith;
        }
