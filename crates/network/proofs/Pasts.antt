-- THE LAW OVER PASTS, from the run law
use Rattle.std.proofs.Common.{◌≡◌, ℕ, zero, suc, ◌+◌, ◌-◌, ◌*◌, ◌<◌, ◌≤◌, min, Bool, true, false, cond, ◌&&◌, eqb, ltb, leb, ◌⊎◌, List, [], ◌∷◌, ◌++◌, map, length, is_some, Some, None, Option, sym, refl, ap, ◌∙◌, subst, inl, inr, ⊎_elim, arith, ltb-false}
use Rattle.std.proofs.lemmas.List.{get_or-set_same}
use Rattle.std.proofs.lemmas.Bool.{cond_both, cases_lt, and_parts, le-leb, lt-leb}
use Rattle.std.proofs.lemmas.Bool.Decides.{nat_tests as tells}
use Rattle.floor.specs.Meaning.{Meaning, Mapped, Joined}
use Rattle.floor.specs.Planar.{Blocks, Lawful}
use Rattle.kept.specs.Kept.{Kept, kept_links}
use Rattle.face.specs.declared.record.Link.{Link}
use Rattle.face.specs.declared.record.Record.{Record}
use Rattle.face.specs.declared.record.End.{End}
use Rattle.face.specs.declared.record.End.TheVariants.{UnderWay, Delivered, Unreachable}
use Rattle.face.specs.Packet.{opening}
use Rattle.delivery.specs.Law.{serving, after_sends, RightEnd, UnderWayAlong, Made, Standing, EveryRun}
use Rattle.delivery.specs.Law.{HasEnded as Over}
use Rattle.network.specs.declared.types.HopRecord.{HopRecord}
use Rattle.network.specs.declared.types.Stopper.{Stopper}
use Rattle.network.specs.declared.types.Stopper.TheVariants.{Ended, Budget, Full}
use Rattle.network.specs.declared.types.Refusal.TheVariants.{PacketUnderWay}
use Rattle.network.specs.Network.{Net, made, Call, On, Open, Hop, Carry, Collect, Answer, Denied, Opened, Hopped, Carried, Collected, Switched, refused, on_line, put, trail, stopper, opened_on, hopped_on, call_on, then, answer}
use Rattle.network.specs.Law.{Event, Past, net_after, send_of, lone_hop, first_to_stop, Journey, network_now, host_at_opening, most_sends, sends, HasEnded, NextSend, Walk, Bounded, Right, ByTheRules, CarriesByHops, EveryPacketIsDelivered}
use Rattle.network.proofs.Options.{unsome, is_none}
use Rattle.delivery.proofs.Running.{in_service}
use Rattle.network.proofs.Marks.{mapped_after}
use Rattle.network.proofs.Calls.{host_stays, host_told, sixteen}
use Rattle.network.proofs.Trails.{trail_moving, trail_length, ended_since, ends_sooner, own_call, hops_needed, as_hops, Ends as EndsAfter}
use Rattle.network.proofs.Alive.{Alive, made_more, alive_past}
use Rattle.network.proofs.Holders.{sent_holder, opening_holder}
use Rattle.network.proofs.Local.{local}

-- ---- pasts, one after another

past_parts : (b : Blocks) (n : Net) (es fs : List Event) → Past b n (es ++ fs) → Past b n es × Past b (net_after b n es) fs
past_parts b n [] fs p = (tt, p)
past_parts b n (e ∷ es) fs p = let rest = past_parts b (then b n e.0) es fs p.1 in ((p.0, rest.0), rest.1)

net_parts : (b : Blocks) (n : Net) (es fs : List Event) → net_after b n (es ++ fs) ≡ net_after b (net_after b n es) fs
net_parts b n [] fs = refl
net_parts b n (e ∷ es) fs = net_parts b (then b n e.0) es fs

-- ---- what an accepted opening shows

abbrev is_opening : Answer → Bool
is_opening (Denied k) = false
is_opening Opened = true
is_opening (Hopped h) = false
is_opening (Carried hs stop) = false
is_opening (Collected e n) = false
is_opening Switched = false

pub record Opens (b : Blocks) (n : Net) (l s t : ℕ) (after-it : Net) : Type 0 where
  pub low : ltb 15 l ≡ false
  pub r : Record
  pub opening_is : opening b n.host s t ≡ Some r
  pub source_serves : serving n.host s ≡ true
  pub target_serves : serving n.host t ≡ true
  pub is_put : after-it ≡ put n l (Some r)

module _ (b : Blocks) (n : Net) (l s t : ℕ) where
  abbrev Shows : Net × Answer → Type 0
  Shows a = is_opening a.1 ≡ true → Opens b n l s t a.0

  never : {x : Net} → false ≡ true → Opens b n l s t x
  never h = cc

  shows_opened : ltb 15 l ≡ false → (o : Option Record) → opening b n.host s t ≡ o → Shows (opened_on b n l (serving n.host s && serving n.host t) o)
  shows_opened low None e = never
  shows_opened low (Some r) e =
      cond_both (serving n.host s && serving n.host t) _ _ Shows
      (λ both _. record {
        low = low;
        r = r;
        opening_is = e;
        source_serves = (and_parts (serving n.host s) (serving n.host t) both).0;
        target_serves = (and_parts (serving n.host s) (serving n.host t) both).1;
        is_put = refl;
      })
      (λ _. never)

  shows_line : ltb 15 l ≡ false → (o : Option Record) → Shows (call_on b n l o (Open s t))
  shows_line low None = shows_opened low (opening b n.host s t) refl
  shows_line low (Some r) = never

  opening_shows : answer b n (On l (Open s t)) ≡ Opened → Opens b n l s t (then b n (On l (Open s t)))
  opening_shows h = cond_both (ltb 15 l) _ _ Shows (λ _. never) (λ low. shows_line low (on_line n l)) (ap is_opening h)

-- ---- one run: a packet from its opening on, over the host that it was opened over

module _ (b : Blocks) (h : Meaning) (s t : ℕ) (r : Record) (stands : (k : ℕ) → Made b h k r → Standing b h s t k (after_sends b h k r)) where
  abbrev at : ℕ → Record
  at k = after_sends b h k r

  abbrev most : ℕ
  most = 3 * kept_links b h

  fewer : (j k : ℕ) → j ≤ k → Made b h k r → Made b h j r
  fewer j k le done i lt = done i (omega arith)

  not_over : (r' : Record) → Over r' → r'.end ≡ UnderWay → ⊥
  not_over r' o e = ⊎_elim (λ d. cc (sym d ∙ e)) (λ u. cc (sym u ∙ e)) o.1

  -- a send was made: so it was under way, along a kept link, below the bound
  was_going : (k : ℕ) → Made b h (suc k) r → UnderWayAlong b h (at k) × (k < most)
  was_going k done =
      ⊎_elim (λ o. absurd (not_over (at k) o (done k (omega arith)))) (λ x. (x.1, x.2)) (stands k (fewer k (suc k) (omega arith) done)).goes

  at_most : (k : ℕ) → Made b h k r → k ≤ most
  at_most zero done = omega arith
  at_most (suc k) done = (was_going k done).1

  -- its sends walk along kept links
  walks : (d k u : ℕ) → Made b h (k + d) r → (at k).holder ≡ u → Walk b h u (map send_of (trail b h d (at k)))
  walks zero k u done held = tt
  walks (suc d) k u done held =
      let w = (was_going k (fewer (suc k) (k + suc d) (omega arith) done)).0 in
      let from : w.l.from ≡ u = w.leaves ∙ held in
      subst (λ (hs : List HopRecord). Walk b h u (map send_of hs)) (sym (trail_moving b h d (at k) w.l w.in_hand)) (
        from,
        subst (λ (x : ℕ). Kept b h x w.l.to) from w.along,
        walks d (suc k) w.l.to (fewer (suc k + d) (k + suc d) (omega arith) done) (sent_holder b h (at k) w.l w.in_hand),
      )

  -- it ends, in time
  over_now : (k : ℕ) → Over (at k) → EndsAfter b h (at k) 0
  over_now k o = record { ended = ap is_some o.0; not_before = λ i lt. absurd (omega arith) }

  ends : (f k : ℕ) → Made b h k r → k + f ≡ most → (d : ℕ) × (d ≤ f) × EndsAfter b h (at k) d
  ends zero k done e = ⊎_elim (λ o. (0, omega arith, over_now k o)) (λ x. absurd (let y = x.2 in omega arith)) (stands k done).goes
  ends (suc f) k done e =
      ⊎_elim (λ o. (0, omega arith, over_now k o))
      (λ x.
      let later = ends f (suc k) (made_more b h r k done x.0) (omega arith) in
      (suc later.0, (let y = later.1 in omega arith), ends_sooner b h (at k) later.0 (ap is_some x.1.in_hand) later.2))
      (stands k done).goes

-- ---- what the calls answer, at a packet on its line

abbrev told_hops : Answer → Option (List HopRecord × Stopper)
told_hops (Denied k) = None
told_hops Opened = None
told_hops (Hopped h) = None
told_hops (Carried hs stop) = Some (hs, stop)
told_hops (Collected e n) = None
told_hops Switched = None

abbrev told_end : Answer → Option (End × ℕ)
told_end (Denied k) = None
told_end Opened = None
told_end (Hopped h) = None
told_end (Carried hs stop) = None
told_end (Collected e n) = Some (e, n)
told_end Switched = None

module _ (b : Blocks) (l : ℕ) (low : ltb 15 l ≡ false) (n : Net) (q : Record) (held : on_line n l ≡ Some q) where
  collect_is : q.hand ≡ None → answer b n (On l Collect) ≡ Collected q.end q.total
  collect_is none =
      ap (λ (a : Net × Answer). a.1) (own_call b l low n q Collect held)
      ∙ ap (λ (o : Option Link). (cond {A = Net × Answer} (is_some o) (n, refused PacketUnderWay) (put n l None, Collected q.end q.total)).1) none

  hop_is : (o : Option Link) → q.hand ≡ o → answer b n (On l Hop) ≡ (hopped_on b n l q o).1
  hop_is o hand = ap (λ (a : Net × Answer). a.1) (own_call b l low n q Hop held ∙ ap (hopped_on b n l q) hand)

  -- a collect that is accepted tells that it has ended, its end and its total
  abbrev Tells : End → ℕ → Net × Answer → Type 0
  Tells e total a = told_end a.1 ≡ Some (e, total) → (q.hand ≡ None) × (e ≡ q.end) × (total ≡ q.total)

  collect_tells : (e : End) (total : ℕ) → answer b n (On l Collect) ≡ Collected e total → (q.hand ≡ None) × (e ≡ q.end) × (total ≡ q.total)
  collect_tells e total h =
      subst (Tells e total) (sym (own_call b l low n q Collect held))
      (cond_both (is_some q.hand) _ _ (Tells e total)
      (λ _ x. cc)
      (λ none x. let y = unsome _ _ x in (is_none q.hand none, ap (λ (z : End × ℕ). z.0) (sym y), ap (λ (z : End × ℕ). z.1) (sym y))))
      (ap told_end h)

  -- a carry that is accepted
  module _ (budget room : ℕ) where
    abbrev q_last : Record
    q_last = after_sends b n.host (min budget room) q

    abbrev q_hops : List HopRecord
    q_hops = trail b n.host (min budget room) q

    abbrev Carries : List HopRecord → Stopper → Net × Answer → Type 0
    Carries hs stop a = told_hops a.1 ≡ Some (hs, stop) → (hs ≡ q_hops) × (stop ≡ stopper q_last (length q_hops) budget) × (a.0 ≡ put n l (Some q_last))

    carry_tells : (hs : List HopRecord) (stop : Stopper) → answer b n (On l (Carry budget room)) ≡ Carried hs stop
        → (hs ≡ q_hops) × (stop ≡ stopper q_last (length q_hops) budget) × (then b n (On l (Carry budget room)) ≡ put n l (Some q_last))
    carry_tells hs stop h =
        subst (Carries hs stop) (sym (own_call b l low n q (Carry budget room) held))
        (cond_both (is_some q.hand) _ _ (Carries hs stop)
        (λ _ x. let y = unsome _ _ x in (ap (λ (z : List HopRecord × Stopper). z.0) (sym y), ap (λ (z : List HopRecord × Stopper). z.1) (sym y), refl))
        (λ _ x. cc))
        (ap told_hops h)

    -- the number of hops and what stops them, by the hops needed
    module _ (d : ℕ) (E : EndsAfter b n.host q d) where
      hops_made : length q_hops ≡ min (min budget room) d
      hops_made = trail_length b n.host (min budget room) d q E

      stopped_by : stopper q_last (length q_hops) budget ≡ first_to_stop d budget room
      stopped_by = go (cases_lt (min budget room) d)
        where
          spent : (min budget room < d) → eqb (length q_hops) budget ≡ leb budget room
          spent lt = ap (λ (x : ℕ). eqb x budget) hops_made ∙ grind (arith, tells)

          go : (min budget room < d) ⊎ (d ≤ min budget room) → stopper q_last (length q_hops) budget ≡ first_to_stop d budget room
          go (inl lt) =
              ap (λ (x : Bool). cond x (cond (eqb (length q_hops) budget) Budget Full) Ended) (E.not_before (min budget room) lt)
              ∙ ap (λ (x : Bool). cond x Budget Full) (spent lt)
              ∙ ap (λ (x : Bool). cond x Ended (cond (leb budget room) Budget Full)) (sym (lt-leb d (min budget room) lt))
          go (inr le) =
              ap (λ (x : Bool). cond x (cond (eqb (length q_hops) budget) Budget Full) Ended) (ended_since b n.host (min budget room) d q E le)
              ∙ ap (λ (x : Bool). cond x Ended (cond (leb budget room) Budget Full)) (sym (le-leb d (min budget room) le))

-- ---- the clauses of the law, of a packet on its line

module _ (b : Blocks) (m : Meaning) (P : Journey b m) (low : ltb 15 P.line ≡ false) (r : Record) (opening_is : opening b (host_at_opening P) P.source P.target ≡ Some r)
    (stands : (k : ℕ) → Made b (host_at_opening P) k r → Standing b (host_at_opening P) P.source P.target k (after_sends b (host_at_opening P) k r))
    (A : Alive b (host_at_opening P) P.line low P.source P.target r stands (network_now P) (sends P)) where
  -- its record now
  abbrev q : Record
  q = after_sends b (host_at_opening P) A.k r

  standing : Standing b (host_at_opening P) P.source P.target A.k q
  standing = stands A.k A.done

  has_ended : q.hand ≡ None → HasEnded P
  has_ended none = (q.end, q.total, collect_is b P.line low (network_now P) q A.held none)

  moves_on : HasEnded P ⊎ ((u : ℕ) × (v : ℕ) × NextSend P u v)
  moves_on =
      ⊎_elim (λ o. inl (has_ended o.0))
      (λ x. inr (x.1.l.from, x.1.l.to, hop_is b P.line low (network_now P) q A.held (Some x.1.l) x.1.in_hand))
      standing.goes

  pub bounded : Bounded b m P
  bounded = record {
    at_most = let e = A.count in let f = at_most b (host_at_opening P) P.source P.target r stands A.k A.done in omega arith;
    ended_then = λ full. ⊎_elim (λ o. has_ended o.0) (λ x. absurd (let e = A.count in let f = x.2 in omega arith)) standing.goes;
    total_told = λ e total h. (collect_tells b P.line low (network_now P) q A.held e total h).2 ∙ standing.total_is ∙ sym A.count;
    moves = moves_on;
    rests = λ x. hop_is b P.line low (network_now P) q A.held None (collect_tells b P.line low (network_now P) q A.held x.0 x.1 x.2).0;
  }

  right_end : (e : End) → q.hand ≡ None → e ≡ q.end
      → ((e ≡ Delivered) × Joined (host_at_opening P) P.source P.target) ⊎ ((e ≡ Unreachable) × ¬ Joined (host_at_opening P) P.source P.target)
  right_end e none same =
      ⊎_elim
      (λ o. ⊎_elim
      (λ d. inl (same ∙ d, subst (RightEnd (host_at_opening P) P.source P.target) d standing.right))
      (λ u. inr (same ∙ u, subst (RightEnd (host_at_opening P) P.source P.target) u standing.right))
      o.1)
      (λ x. cc (sym none ∙ x.1.in_hand))
      standing.goes

  pub right : Right b m P
  right e total h = let c = collect_tells b P.line low (network_now P) q A.held e total h in right_end e c.0 c.1

  sends_are : sends P ≡ map send_of (trail b (host_at_opening P) (length (sends P)) r)
  sends_are = A.sent ∙ ap (λ (k : ℕ). map send_of (trail b (host_at_opening P) k r)) (sym A.count)

  pub by_the_rules : ByTheRules b m P
  by_the_rules = record {
    r = r;
    opening_is = opening_is;
    record_is = A.held ∙ ap (λ (k : ℕ). Some (after_sends b (host_at_opening P) k r)) (sym A.count);
    sends_are = sends_are;
    along_kept_links = subst (Walk b (host_at_opening P) P.source) (sym A.sent)
        (walks b (host_at_opening P) P.source P.target r stands A.k 0 P.source
        (fewer b (host_at_opening P) P.source P.target r stands (0 + A.k) A.k (omega arith) A.done)
        (opening_holder b (host_at_opening P) P.source P.target r opening_is));
  }

  -- the hops needed, over the host as it is now: while it is under way that is the host of its opening
  needed_now : (d : ℕ) → EndsAfter b (host_at_opening P) q d → EndsAfter b (network_now P).host q d
  needed_now zero E = record { ended = E.ended; not_before = λ i lt. absurd (omega arith) }
  needed_now (suc d) E = subst (λ (h : Meaning). EndsAfter b h q (suc d)) (sym (A.same (E.not_before 0 (omega arith)))) E

  pub carries : CarriesByHops b m P
  carries =
      let most = most_sends P in
      let few : A.k ≤ most = at_most b (host_at_opening P) P.source P.target r stands A.k A.done in
      let found = ends b (host_at_opening P) P.source P.target r stands (most - A.k) A.k A.done (omega arith) in
      let d = found.0 in
      let E : EndsAfter b (network_now P).host q d = needed_now d found.2 in
      let tells = carry_tells b P.line low (network_now P) q A.held in
      record {
        needed = d;
        needed_is = hops_needed b P.line low (network_now P) q A.held d E;
        needed_at_most = let e = A.count in let f = found.1 in omega arith;
        makes = λ budget room hops stop c. ap length (tells budget room hops stop c).0 ∙ hops_made b P.line low (network_now P) q A.held budget room d E ∙ omega arith;
        stops = λ budget room hops stop c. (tells budget room hops stop c).1 ∙ stopped_by b P.line low (network_now P) q A.held budget room d E;
        told_alike = λ budget room hops stop c. subst (λ (hs : List HopRecord). Past b (network_now P) (map (lone_hop P.line) hs)) (sym (tells budget room hops stop c).0)
            (as_hops b P.line low (min budget room) (network_now P) q A.held).told;
        same_after = λ budget room hops stop c. (tells budget room hops stop c).2
            ∙ sym (as_hops b P.line low (min budget room) (network_now P) q A.held).same
            ∙ ap (λ (hs : List HopRecord). net_after b (network_now P) (map (lone_hop P.line) hs)) (sym (tells budget room hops stop c).0);
      }

-- ---- a packet of a past

module _ (every_run : EveryRun) (b : Blocks) (m : Meaning) (M : Mapped m) (law : Lawful b) (P : Journey b m) where
  abbrev n₀ : Net
  n₀ = net_after b (made m) P.earlier

  abbrev opens_it : Call
  opens_it = On P.line (Open P.source P.target)

  abbrev h₀ : Meaning
  h₀ = host_at_opening P

  parts : Past b (made m) P.earlier × Past b n₀ ((opens_it, Opened) ∷ P.since)
  parts = past_parts b (made m) P.earlier ((opens_it, Opened) ∷ P.since) P.past

  host₀ : n₀.host ≡ h₀
  host₀ = host_told b (made m) P.earlier parts.0

  opens : Opens b n₀ P.line P.source P.target (then b n₀ opens_it)
  opens = opening_shows b n₀ P.line P.source P.target parts.1.0

  r₀ : Record
  unfolding opens
  r₀ = opens.r

  opening_is : opening b h₀ P.source P.target ≡ Some r₀
  unfolding r₀
  opening_is = subst (λ (h : Meaning). opening b h P.source P.target ≡ Some opens.r) host₀ opens.opening_is

  stands : (k : ℕ) → Made b h₀ k r₀ → Standing b h₀ P.source P.target k (after_sends b h₀ k r₀)
  stands =
      every_run b h₀ law (in_service h₀ (mapped_after m P.earlier M)) P.source P.target
      (subst (λ (h : Meaning). serving h P.source ≡ true) host₀ opens.source_serves)
      (subst (λ (h : Meaning). serving h P.target ≡ true) host₀ opens.target_serves)
      r₀ opening_is

  alive_first : Alive b h₀ P.line opens.low P.source P.target r₀ stands (then b n₀ opens_it) []
  unfolding r₀
  alive_first = record {
    k = 0;
    count = refl;
    held = ap (λ (x : Net). on_line x P.line) opens.is_put
        ∙ get_or-set_same n₀.lines P.line (Some opens.r) None (let e = sixteen b m P.earlier in let f = ltb-false 15 P.line opens.low in omega arith);
    done = λ i lt. absurd (omega arith);
    same = λ _. host_stays b n₀ P.line (Open P.source P.target) ∙ host₀;
    sent = refl;
  }

  alive : Alive b h₀ P.line opens.low P.source P.target r₀ stands (network_now P) (sends P)
  alive =
      subst (λ (x : Net). Alive b h₀ P.line opens.low P.source P.target r₀ stands x (sends P))
      (sym (net_parts b (made m) P.earlier ((opens_it, Opened) ∷ P.since)))
      (alive_past b h₀ P.line opens.low P.source P.target r₀ stands P.since (then b n₀ opens_it) [] alive_first parts.1.1 P.uncollected)

pub law_of_pasts : EveryRun → EveryPacketIsDelivered
law_of_pasts every_run m b M law P =
    let low = (opens every_run b m M law P).low in
    let r = r₀ every_run b m M law P in
    let is = opening_is every_run b m M law P in
    let st = stands every_run b m M law P in
    let A = alive every_run b m M law P in
    record {
      bounded = bounded b m P low r is st A;
      right = right b m P low r is st A;
      by_the_rules = by_the_rules b m P low r is st A;
      carries = carries b m P low r is st A;
      local = local b m M P;
    }
