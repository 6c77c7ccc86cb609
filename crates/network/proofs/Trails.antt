-- A line's hops: what one makes, what many make, and that a carry is its hops
use Rattle.std.proofs.Common.{◌≡◌, ℕ, zero, suc, ◌<◌, ◌≤◌, min, Bool, true, false, cond, ltb, List, [], ◌∷◌, ◌++◌, map, length, replicate, is_some, Some, None, Option, sym, refl, ap, ◌∙◌, subst, append_assoc, append-nil, arith}
use native.Mathlib.Nat.{zero-min, min-zero, suc-min-suc}
use Rattle.std.proofs.lemmas.List.{set-set}
use Rattle.floor.specs.Meaning.{Meaning}
use Rattle.floor.specs.Planar.{Blocks}
use Rattle.face.specs.declared.record.Link.{Link}
use Rattle.face.specs.declared.record.Record.{Record}
use Rattle.face.specs.Packet.{send, sent_along}
use Rattle.delivery.specs.Law.{after_sends}
use Rattle.network.specs.declared.types.HopRecord.{HopRecord}
use Rattle.network.specs.declared.types.Refusal.TheVariants.{NoLine}
use Rattle.network.specs.Network.{Net, On, LineCall, Hop, Answer, Hopped, refused, on_line, put, moving, hop_along, trail, hopped_on, call_on, called, then, answer, after, after_hops, HopsNeeded}
use Rattle.network.specs.Law.{Event, Past, net_after, lone_hop}
use Rattle.network.proofs.Options.{is_none, some_of, set_same, get_set, iterate_shift}

-- ---- a record by itself

module _ (b : Blocks) (m : Meaning) where
  -- an ended packet stays as it is
  pub send_ended : (r : Record) → r.hand ≡ None → send b m r ≡ r
  send_ended r h = ap (sent_along b m r) h

  pub stays_ended : (n : ℕ) (r : Record) → r.hand ≡ None → after_sends b m n r ≡ r
  stays_ended zero r h = refl
  stays_ended (suc n) r h = ap (send b m) (stays_ended n r h) ∙ send_ended r h

  pub trail_ended : (n : ℕ) (r : Record) → r.hand ≡ None → trail b m n r ≡ []
  trail_ended zero r h = refl
  trail_ended (suc n) r h =
      ap (λ (o : Option Link). hop_along r o ++ trail b m n (send b m r)) h
      ∙ ap (trail b m n) (send_ended r h) ∙ trail_ended n r h

  abbrev pub first_hop : Record → Link → HopRecord
  first_hop r k = record { sender = k.from; receiver = k.to; phase = r.course.phase }

  pub trail_moving : (n : ℕ) (r : Record) (k : Link) → r.hand ≡ Some k → trail b m (suc n) r ≡ first_hop r k ∷ trail b m n (send b m r)
  trail_moving n r k h = ap (λ (o : Option Link). hop_along r o ++ trail b m n (send b m r)) h

  -- one send more
  pub trail_more : (n : ℕ) (r : Record) → trail b m (suc n) r ≡ trail b m n r ++ hop_along (after_sends b m n r) (after_sends b m n r).hand
  trail_more zero r = append-nil (hop_along r r.hand)
  trail_more (suc n) r =
      ap (λ (hs : List HopRecord). hop_along r r.hand ++ hs)
      (trail_more n (send b m r) ∙ ap (λ (q : Record). trail b m n (send b m r) ++ hop_along q q.hand) (iterate_shift n (send b m) r))
      ∙ sym (append_assoc (hop_along r r.hand) (trail b m n (send b m r)) _)

  -- r ends after k sends, and not before
  pub record Ends (r : Record) (k : ℕ) : Type 0 where
    pub ended : is_some (after_sends b m k r).hand ≡ false
    pub not_before : (i : ℕ) → i < k → is_some (after_sends b m i r).hand ≡ true

  pub ends_later : (r : Record) (k : ℕ) → Ends r (suc k) → Ends (send b m r) k
  ends_later r k E = record {
    ended = ap (λ (q : Record). is_some q.hand) (iterate_shift k (send b m) r) ∙ E.ended;
    not_before = λ i h. ap (λ (q : Record). is_some q.hand) (iterate_shift i (send b m) r) ∙ E.not_before (suc i) (omega arith);
  }

  pub ends_sooner : (r : Record) (k : ℕ) → is_some r.hand ≡ true → Ends (send b m r) k → Ends r (suc k)
  ends_sooner r k h E = record {
    ended = ap (λ (q : Record). is_some q.hand) (sym (iterate_shift k (send b m) r)) ∙ E.ended;
    not_before = below;
  }
    where
      below : (i : ℕ) → i < suc k → is_some (after_sends b m i r).hand ≡ true
      below zero lt = h
      below (suc i) lt = ap (λ (q : Record). is_some q.hand) (sym (iterate_shift i (send b m) r)) ∙ E.not_before i (omega arith)

  -- the hops made are the fewer of those allowed and those needed
  pub trail_length : (n k : ℕ) (r : Record) → Ends r k → length (trail b m n r) ≡ min n k
  trail_length zero k r E = sym (zero-min k)
  trail_length (suc n) zero r E = ap length (trail_ended (suc n) r (is_none r.hand E.ended)) ∙ sym (min-zero (suc n))
  trail_length (suc n) (suc k) r E =
      let j = some_of r.hand (E.not_before 0 (omega arith)) in
      ap length (trail_moving n r j.0 j.1) ∙ ap suc (trail_length n k (send b m r) (ends_later r k E)) ∙ sym (suc-min-suc n k)

  -- ended, it stays so
  pub ended_since : (n k : ℕ) (r : Record) → Ends r k → k ≤ n → is_some (after_sends b m n r).hand ≡ false
  ended_since n zero r E h = ap (λ (q : Record). is_some q.hand) (stays_ended n r (is_none r.hand E.ended)) ∙ E.ended
  ended_since zero (suc k) r E h = absurd (omega arith)
  ended_since (suc n) (suc k) r E h =
      ap (λ (q : Record). is_some q.hand) (sym (iterate_shift n (send b m) r)) ∙ ended_since n k (send b m r) (ends_later r k E) (omega arith)

-- ---- on a line

module _ (b : Blocks) (l : ℕ) (low : ltb 15 l ≡ false) where
  -- a call on a line that holds r
  pub own_call : (n : Net) (r : Record) (c : LineCall) → on_line n l ≡ Some r → called b n (On l c) ≡ call_on b n l (Some r) c
  own_call n r c held =
      ap (λ (x : Bool). cond x (n, refused NoLine) (call_on b n l (on_line n l) c)) low
      ∙ ap (λ (o : Option Record). call_on b n l o c) held

  pub held_put : (n : Net) (r q : Record) → on_line n l ≡ Some r → on_line (put n l (Some q)) l ≡ Some q
  held_put n r q held = get_set n.lines l r (Some q) held

  pub put_same : (n : Net) (r : Record) → on_line n l ≡ Some r → put n l (Some r) ≡ n
  put_same n r held = ap (λ (ls : List (Option Record)). let x : Net = record { host = n.host; lines = ls } in x) (set_same n.lines l r held)

  pub put_put : (n : Net) (q r : Record) → put (put n l (Some q)) l (Some r) ≡ put n l (Some r)
  put_put n q r = ap (λ (ls : List (Option Record)). let x : Net = record { host = n.host; lines = ls } in x) (set-set n.lines l (Some q) (Some r))

  -- a hop sends the packet, or finds it ended and leaves it so
  pub hop_called : (n : Net) (r : Record) (k : Link) → on_line n l ≡ Some r → r.hand ≡ Some k → called b n (On l Hop) ≡ (put n l (Some (send b n.host r)), Hopped (k.from, k.to))
  hop_called n r k held hand = own_call n r Hop held ∙ ap (hopped_on b n l r) hand

  hop_then : (n : Net) (r : Record) (o : Option Link) → on_line n l ≡ Some r → r.hand ≡ o → then b n (On l Hop) ≡ put n l (Some (send b n.host r))
  hop_then n r None held hand =
      ap (λ (a : Net × Answer). a.0) (own_call n r Hop held ∙ ap (hopped_on b n l r) hand)
      ∙ sym (put_same n r held) ∙ ap (λ (q : Record). put n l (Some q)) (sym (send_ended b n.host r hand))
  hop_then n r (Some k) held hand = ap (λ (a : Net × Answer). a.0) (hop_called n r k held hand)

  pub after_lone : (n : Net) (r : Record) → on_line n l ≡ Some r → then b n (On l Hop) ≡ put n l (Some (send b n.host r))
  after_lone n r held = hop_then n r r.hand held refl

  -- k hops send it k times
  pub after_many : (k : ℕ) (n : Net) (r : Record) → on_line n l ≡ Some r → after b n (replicate k (On l Hop)) ≡ put n l (Some (after_sends b n.host k r))
  after_many zero n r held = sym (put_same n r held)
  after_many (suc k) n r held =
      let q = send b n.host r in
      ap (λ (x : Net). after b x (replicate k (On l Hop))) (after_lone n r held)
      ∙ after_many k (put n l (Some q)) q (held_put n r q held)
      ∙ put_put n q (after_sends b n.host k q)
      ∙ ap (λ (p : Record). put n l (Some p)) (iterate_shift k (send b n.host) r)

  -- the hops that the packet on the line needs are the sends until its end
  moving_after : (n : Net) (r : Record) → on_line n l ≡ Some r → (i : ℕ) → moving (on_line (after_hops b n l i) l) ≡ is_some (after_sends b n.host i r).hand
  moving_after n r held i =
      ap (λ (x : Net). moving (on_line x l)) (after_many i n r held) ∙ ap moving (held_put n r (after_sends b n.host i r) held)

  pub hops_needed : (n : Net) (r : Record) → on_line n l ≡ Some r → (k : ℕ) → Ends b n.host r k → HopsNeeded b n l k
  hops_needed n r held k E = record {
    ended = moving_after n r held k ∙ E.ended;
    not_before = λ i lt. moving_after n r held i ∙ E.not_before i lt;
  }

  pub needed_ends : (n : Net) (r : Record) → on_line n l ≡ Some r → (k : ℕ) → HopsNeeded b n l k → Ends b n.host r k
  needed_ends n r held k H = record {
    ended = sym (moving_after n r held k) ∙ H.ended;
    not_before = λ i lt. sym (moving_after n r held i) ∙ H.not_before i lt;
  }

  -- ---- the hops that k sends make, each by itself

  abbrev pub lone_hops : List HopRecord → List Event
  lone_hops hs = map (lone_hop l) hs

  pub record AsHops (n : Net) (k : ℕ) (r : Record) : Type 0 where
    pub told : Past b n (lone_hops (trail b n.host k r))
    pub same : net_after b n (lone_hops (trail b n.host k r)) ≡ put n l (Some (after_sends b n.host k r))

  as_none : (n : Net) (k : ℕ) (r : Record) → on_line n l ≡ Some r → r.hand ≡ None → AsHops n k r
  as_none n k r held hand =
      let none : trail b n.host k r ≡ [] = trail_ended b n.host k r hand in
      record {
        told = subst (λ (hs : List HopRecord). Past b n (lone_hops hs)) (sym none) tt;
        same = ap (λ (hs : List HopRecord). net_after b n (lone_hops hs)) none
            ∙ sym (put_same n r held) ∙ ap (λ (q : Record). put n l (Some q)) (sym (stays_ended b n.host k r hand));
      }

  as_more : (n : Net) (k : ℕ) (r : Record) (j : Link) → on_line n l ≡ Some r → r.hand ≡ Some j
      → AsHops (put n l (Some (send b n.host r))) k (send b n.host r) → AsHops n (suc k) r
  as_more n k r j held hand rest =
      let q = send b n.host r in
      let more : trail b n.host (suc k) r ≡ first_hop b n.host r j ∷ trail b n.host k q = trail_moving b n.host k r j hand in
      let step : then b n (On l Hop) ≡ put n l (Some q) = after_lone n r held in
      let first : answer b n (On l Hop) ≡ Hopped (j.from, j.to) = ap (λ (a : Net × Answer). a.1) (hop_called n r j held hand) in
      record {
        told = subst (λ (hs : List HopRecord). Past b n (lone_hops hs)) (sym more)
            (first, subst (λ (x : Net). Past b x (lone_hops (trail b n.host k q))) (sym step) rest.told);
        same = ap (λ (hs : List HopRecord). net_after b n (lone_hops hs)) more
            ∙ ap (λ (x : Net). net_after b x (lone_hops (trail b n.host k q))) step
            ∙ rest.same
            ∙ put_put n q (after_sends b n.host k q)
            ∙ ap (λ (p : Record). put n l (Some p)) (iterate_shift k (send b n.host) r);
      }

  by_hand : (n : Net) (k : ℕ) (r : Record) (o : Option Link) → on_line n l ≡ Some r → r.hand ≡ o
      → AsHops (put n l (Some (send b n.host r))) k (send b n.host r) → AsHops n (suc k) r
  by_hand n k r None held hand rest = as_none n (suc k) r held hand
  by_hand n k r (Some j) held hand rest = as_more n k r j held hand rest

  pub as_hops : (k : ℕ) (n : Net) (r : Record) → on_line n l ≡ Some r → AsHops n k r
  as_hops zero n r held = record { told = tt; same = sym (put_same n r held) }
  as_hops (suc k) n r held =
      let q = send b n.host r in
      by_hand n k r r.hand held refl (as_hops k (put n l (Some q)) q (held_put n r q held))
