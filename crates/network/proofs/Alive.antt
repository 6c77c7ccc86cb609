-- A packet's life on its line: from its opening to its end it runs over one host, and a past only tells how far
use Rattle.std.proofs.Common.{◌≡◌, ℕ, suc, ◌<◌, ◌≤◌, min, Bool, true, false, cond, not, ◌||◌, T, eqb, ltb, ◌⊎◌, List, [], ◌∷◌, ◌++◌, map, length, is_some, Some, None, Option, sym, refl, ap, ◌∙◌, subst, inl, inr, ⊎_elim, append_assoc, append-nil, arith, eqb-true}
use borrow.Author.Tests.{eqb-false}
use Rattle.std.proofs.lemmas.List.{length_push, map_push}
use Rattle.std.proofs.lemmas.Bool.{cond_both, cases_lt}
use Rattle.std.specs.List.{list_any}
use Rattle.floor.specs.Meaning.{Meaning, radio}
use Rattle.floor.specs.Planar.{Blocks}
use Rattle.face.specs.declared.record.Link.{Link}
use Rattle.face.specs.declared.record.Record.{Record}
use Rattle.face.specs.declared.record.End.TheVariants.{UnderWay}
use Rattle.face.specs.Packet.{send}
use Rattle.delivery.specs.Law.{after_sends, Made, Standing}
use Rattle.network.specs.declared.types.HopRecord.{HopRecord}
use Rattle.network.specs.Network.{Net, Call, On, Withdraw, Return, LineCall, Open, Hop, Carry, Collect, Answer, Hopped, on_line, put, moving, hop_along, trail, hopped_on, call_on, called, then, answer}
use Rattle.network.specs.Law.{Event, Past, net_after, is_on, told_on, send_of, sent_by, all_sent, is_collection}
use Rattle.std.proofs.lemmas.Bool.{true≢false}
use Rattle.network.proofs.Options.{some_at}
use Rattle.network.proofs.Calls.{elsewhere, host_stays, switching, with_host}
use Rattle.network.proofs.Trails.{first_hop, trail_more, own_call, held_put, lone_hops, as_hops}

-- one send more was made by a packet under way
pub made_more : (b : Blocks) (h : Meaning) (r : Record) (k : ℕ) → Made b h k r → (after_sends b h k r).end ≡ UnderWay → Made b h (suc k) r
made_more b h r k done e i lt = go (cases_lt i k)
  where
    go : (i < k) ⊎ (k ≤ i) → (after_sends b h i r).end ≡ UnderWay
    go (inl below) = done i below
    go (inr above) = subst (λ (x : ℕ). (after_sends b h x r).end ≡ UnderWay) (let q : k ≡ i = omega arith in q) e

-- b and h: the planariser, and the host at the opening; l: the line; r: the record of the opening
module _ (b : Blocks) (h : Meaning) (l : ℕ) (low : ltb 15 l ≡ false) (s t : ℕ) (r : Record) (stands : (k : ℕ) → Made b h k r → Standing b h s t k (after_sends b h k r)) where
  -- the network n has the packet on its line, and xs are its sends so far
  pub record Alive (n : Net) (xs : List (ℕ × ℕ)) : Type 0 where
    pub k : ℕ
    pub count : length xs ≡ k
    pub held : on_line n l ≡ Some (after_sends b h k r)
    pub done : Made b h k r
    -- under way, it runs over the host of its opening
    pub same : is_some (after_sends b h k r).hand ≡ true → n.host ≡ h
    pub sent : xs ≡ map send_of (trail b h k r)

  -- with a link in hand it is under way
  under_way : (k : ℕ) → Made b h k r → (j : Link) → (after_sends b h k r).hand ≡ Some j → (after_sends b h k r).end ≡ UnderWay
  under_way k done j hand = ⊎_elim (λ x. cc (sym x.0 ∙ hand)) (λ x. x.0) (stands k done).goes

  module _ (n : Net) (xs : List (ℕ × ℕ)) (A : Alive n xs) where
    abbrev now_is : Record
    now_is = after_sends b h A.k r

    alive_none : Alive n (xs ++ [])
    alive_none = subst (Alive n) (sym (append-nil xs)) A

    alive_like : (n' : Net) → on_line n' l ≡ on_line n l → n'.host ≡ n.host → Alive n' (xs ++ [])
    alive_like n' lines host = subst (Alive n') (sym (append-nil xs)) (record {
      k = A.k;
      count = A.count;
      held = lines ∙ A.held;
      done = A.done;
      same = λ t. host ∙ A.same t;
      sent = A.sent;
    })

    -- one send more
    alive_send : (j : Link) → now_is.hand ≡ Some j → Alive (put n l (Some (send b n.host now_is))) (xs ++ (j.from, j.to) ∷ [])
    alive_send j hand =
        let host : n.host ≡ h = A.same (ap is_some hand) in
        let grown : map send_of (trail b h (suc A.k) r) ≡ map send_of (trail b h A.k r) ++ (j.from, j.to) ∷ []
        = ap (map send_of) (trail_more b h A.k r ∙ ap (λ (o : Option Link). trail b h A.k r ++ hop_along now_is o) hand)
        ∙ map_push send_of (trail b h A.k r) (first_hop b h now_is j) in
        record {
          k = suc A.k;
          count = let e = length_push xs (j.from, j.to) in let f = A.count in omega arith;
          held = held_put b l low n now_is _ A.held ∙ ap (λ (m : Meaning). Some (send b m now_is)) host;
          done = made_more b h r A.k A.done (under_way A.k A.done j hand);
          same = λ _. host;
          sent = ap (λ (ys : List (ℕ × ℕ)). ys ++ (j.from, j.to) ∷ []) A.sent ∙ sym grown;
        }

    -- what a call on the line leaves, if it is no collection
    abbrev GoesOn : Net × Answer → Type 0
    GoesOn a = T (not (is_collection a.1)) → Alive a.0 (xs ++ sent_by a.1)

    by_hop : (o : Option Link) → now_is.hand ≡ o → GoesOn (hopped_on b n l now_is o)
    by_hop None hand = λ _. alive_none
    by_hop (Some j) hand = λ _. alive_send j hand

    alive_hop : GoesOn (called b n (On l Hop))
    alive_hop = subst GoesOn (sym (own_call b l low n now_is Hop A.held)) (by_hop now_is.hand refl)

    alive_lone : (x : ℕ × ℕ) → answer b n (On l Hop) ≡ Hopped x → Alive (then b n (On l Hop)) (xs ++ x ∷ [])
    alive_lone x e = subst (λ (a : Answer). T (not (is_collection a)) → Alive (then b n (On l Hop)) (xs ++ sent_by a)) e alive_hop tt

  -- the hops of a carry, one by one
  alive_hops : (hs : List HopRecord) (n : Net) (xs : List (ℕ × ℕ)) → Alive n xs → Past b n (lone_hops b l low hs) → Alive (net_after b n (lone_hops b l low hs)) (xs ++ map send_of hs)
  alive_hops [] n xs A p = alive_none n xs A
  alive_hops (x ∷ hs) n xs A p =
      subst (Alive _) (append_assoc xs (send_of x ∷ []) (map send_of hs))
      (alive_hops hs (then b n (On l Hop)) (xs ++ send_of x ∷ []) (alive_lone n xs A (send_of x) p.0) p.1)

  module _ (n : Net) (xs : List (ℕ × ℕ)) (A : Alive n xs) where
    alive_carry : (most : ℕ) → Alive (put n l (Some (after_sends b n.host most (now_is n xs A)))) (xs ++ map send_of (trail b n.host most (now_is n xs A)))
    alive_carry most =
        let H = as_hops b l low most n (now_is n xs A) A.held in
        subst (λ (x : Net). Alive x (xs ++ map send_of (trail b n.host most (now_is n xs A)))) H.same
        (alive_hops (trail b n.host most (now_is n xs A)) n xs A H.told)

    by_call : (c : LineCall) → GoesOn n xs A (call_on b n l (Some (now_is n xs A)) c)
    by_call (Open u v) = λ _. alive_none n xs A
    by_call Hop = by_hop n xs A (now_is n xs A).hand refl
    by_call (Carry budget room) = cond_both (is_some (now_is n xs A).hand) _ _ (GoesOn n xs A) (λ _ _. alive_carry (min budget room)) (λ _ _. alive_none n xs A)
    by_call Collect = cond_both (is_some (now_is n xs A).hand) _ _ (GoesOn n xs A) (λ _ _. alive_none n xs A) (λ _ never. absurd never)

    own : (c : LineCall) → GoesOn n xs A (called b n (On l c))
    own c = subst (GoesOn n xs A) (sym (own_call b l low n (now_is n xs A) c A.held)) (by_call c)

    -- ---- any call

    abbrev Lives : Call → Type 0
    Lives c = T (not (cond (is_on l c) (is_collection (answer b n c)) false)) → Alive (then b n c) (xs ++ cond (is_on l c) (sent_by (answer b n c)) [])

    on_its_line : (k : ℕ) (c : LineCall) → k ≡ l → T (not (is_collection (answer b n (On k c)))) → Alive (then b n (On k c)) (xs ++ sent_by (answer b n (On k c)))
    on_its_line k c e = subst (λ (x : ℕ). GoesOn n xs A (called b n (On x c))) (sym e) (own c)

    on_a_line : (k : ℕ) (c : LineCall) (x : Bool) → eqb k l ≡ x
        → T (not (cond x (is_collection (answer b n (On k c))) false)) → Alive (then b n (On k c)) (xs ++ cond x (sent_by (answer b n (On k c))) [])
    on_a_line k c true e u = on_its_line k c (eqb-true k l e) u
    on_a_line k c false e u = alive_like n xs A (then b n (On k c)) (elsewhere b n k l c (λ q. eqb-false k l e (sym q))) (host_stays b n k c)

    -- marks are set only while it has ended
    on_a_switch : (m : Meaning) → list_any moving n.lines ≡ false → Alive (with_host b n m) (xs ++ [])
    on_a_switch m none = subst (Alive (with_host b n m)) (sym (append-nil xs)) (record {
      k = A.k;
      count = A.count;
      held = A.held;
      done = A.done;
      same = λ t. absurd (true≢false (sym (some_at moving n.lines l (now_is n xs A) A.held t) ∙ none));
      sent = A.sent;
    })

    alive_call : (c : Call) → Lives c
    alive_call (On k c) = on_a_line k c (eqb k l) refl
    alive_call (Withdraw i) = λ _. switching b n i false (radio n.host i) (λ (a : Net × Answer). Alive a.0 (xs ++ [])) (λ _. alive_none n xs A) (on_a_switch _)
    alive_call (Return i) = λ _. switching b n i true (radio n.host i) (λ (a : Net × Answer). Alive a.0 (xs ++ [])) (λ _. alive_none n xs A) (on_a_switch _)

  -- ---- any past

  neither : (x y : Bool) → T (not (x || y)) → T (not x) × T (not y)
  neither true y u = absurd u
  neither false y u = (tt, u)

  first_uncollected : (x : Bool) (a : Answer) (rest : List Answer) → T (not (list_any is_collection (cond x (a ∷ rest) rest)))
      → T (not (cond x (is_collection a) false)) × T (not (list_any is_collection rest))
  first_uncollected true a rest u = neither (is_collection a) (list_any is_collection rest) u
  first_uncollected false a rest u = (tt, u)

  first_sent : (x : Bool) (a : Answer) (rest : List Answer) → all_sent (cond x (a ∷ rest) rest) ≡ cond x (sent_by a) [] ++ all_sent rest
  first_sent true a rest = refl
  first_sent false a rest = refl

  pub alive_past : (es : List Event) (n : Net) (xs : List (ℕ × ℕ)) → Alive n xs → Past b n es → T (not (list_any is_collection (told_on l es)))
      → Alive (net_after b n es) (xs ++ all_sent (told_on l es))
  alive_past [] n xs A p u = alive_none n xs A
  alive_past (e ∷ es) n xs A p u =
      let x = is_on l e.0 in
      let w = first_uncollected x e.1 (told_on l es) u in
      let one : Alive (then b n e.0) (xs ++ cond x (sent_by e.1) [])
      = subst (λ (a : Answer). T (not (cond x (is_collection a) false)) → Alive (then b n e.0) (xs ++ cond x (sent_by a) [])) p.0 (alive_call n xs A e.0) w.0 in
      subst (Alive (net_after b n (e ∷ es)))
      (append_assoc xs (cond x (sent_by e.1) []) (all_sent (told_on l es)) ∙ ap (λ (ys : List (ℕ × ℕ)). xs ++ ys) (sym (first_sent x e.1 (told_on l es))))
      (alive_past es (then b n e.0) (xs ++ cond x (sent_by e.1) []) one p.1 w.1)
