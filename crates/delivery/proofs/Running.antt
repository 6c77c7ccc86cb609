-- A packet in the hand, sent on and on: it is never refused, and after so many sends it carries the record of the rules
use Rattle.std.proofs.Common.{◌≡◌, ℕ, zero, suc, ◌+◌, ◌*◌, ◌<◌, ◌≤◌, Bool, true, false, cond, ◌&&◌, T, eqb, ltb, ◌⊎◌, Some, None, Ok, Err, Option, Result, sym, refl, ap, ◌∙◌, subst, inl, inr, arith}
use native.Mathlib.Decide.{dec_le}
use Rattle.std.proofs.lemmas.Bool.Decides.{nat_tests}
use Rattle.floor.specs.Meaning.{Meaning, Mapped, Serving, is_among, radio, place_of, serving_place, serving_at}
use Rattle.floor.specs.Planar.{Blocks, Lawful}
use Rattle.kept.specs.Kept.{kept_links, kept_neighbours}
use Rattle.face.specs.declared.record.Link.{Link}
use Rattle.face.specs.declared.record.Record.{Record}
use Rattle.face.specs.declared.record.End.{End}
use Rattle.face.specs.declared.record.End.TheVariants.{UnderWay, Delivered, Unreachable}
use Rattle.face.specs.Packet.{send, sent_along, opening}
use Rattle.floor.specs.declared.node.Radio.{Radio}
use Rattle.face.specs.declared.packet.Ended.{Ended}
use Rattle.face.specs.declared.packet.Packet.{Packet}
use Rattle.face.specs.declared.packet.Packet.TheVariants.{Ended as AtEnd}
use Rattle.face.specs.declared.packet.Refusal.{Refusal}
use Rattle.face.specs.Hand.{in_hand, in_hand_with, may_go, may_go_along, open_told, open_answer, opened_if, carried_by, denial}
use Rattle.delivery.specs.Law.{EveryRun, Standing, Made, HasEnded, UnderWayAlong, RightEnd, EndsRightly, after_sends, serving}
use Rattle.delivery.specs.Run.{gone_on, RunsRightly, run_if, run_answer, run_told}
use Rattle.plane.specs.declared.Point.{Point}
use Rattle.delivery.proofs.Few.{few_links}
use Rattle.delivery.proofs.Geometry.{ground}
use Rattle.delivery.proofs.RunLaw.{every_run}

clash {ℓ} : {X : Type ℓ} → true ≡ false → X
clash e = absurd (subst (λ (b : Bool). cond b (Unit {0}) ⊥) e tt)

not_under : UnderWay ≡ Delivered → ⊥
not_under e = cc

not_under' : UnderWay ≡ Unreachable → ⊥
not_under' e = cc

-- an ended packet stays as it is
still : (b : Blocks) (m : Meaning) (r : Record) → r.hand ≡ None → send b m r ≡ r
still b m r e = ap (sent_along b m r) e

yes_is : (x : Bool) → T x → x ≡ true
yes_is true t = refl
yes_is false t = absurd t

made_more : (b : Blocks) (m : Meaning) (r : Record) (n : ℕ) → Made b m n r → (after_sends b m n r).end ≡ UnderWay → Made b m (suc n) r
made_more b m r n h e i l = go (dec_le (suc i) n)
  where
    go : Dec (suc i ≤ n) → (after_sends b m i r).end ≡ UnderWay
    go (yes k) = h i k
    go (no k) = let same : n ≡ i = omega arith in subst (λ (j : ℕ). (after_sends b m j r).end ≡ UnderWay) same e

module _ (every : EveryRun) (b : Blocks) (m : Meaning) (l : Lawful b) (g : Serving m) (s t : ℕ) (hs : serving m s ≡ true) (ht : serving m t ≡ true)
    (r : Record) (o : opening b m s t ≡ Some r) where
  -- after n sends, those after the end altering nothing: j of them were made
  pub record After (n : ℕ) : Type 0 where
    pub j : ℕ
    pub few : j ≤ n
    pub same : after_sends b m n r ≡ after_sends b m j r
    pub stands : Standing b m s t j (after_sends b m j r)
    pub so_far : Made b m j r
    pub ended_or_all : HasEnded (after_sends b m j r) ⊎ (j ≡ n)

  none_before : Made b m 0 r
  none_before i h = absurd (omega arith)

  pub after : (n : ℕ) → After n
  after zero = record { j = 0; few = omega arith; same = refl; stands = every b m l g s t hs ht r o 0 none_before; so_far = none_before; ended_or_all = inr refl }
  after (suc n) = go (after n)
    where
      go : After n → After (suc n)
      go a = on a.ended_or_all
        where
          on : HasEnded (after_sends b m a.j r) ⊎ (a.j ≡ n) → After (suc n)
          on (inl e) = record { j = a.j; few = omega arith; same = ap (send b m) a.same ∙ still b m (after_sends b m a.j r) e.0; stands = a.stands; so_far = a.so_far; ended_or_all = inl e }
          on (inr e) = further a.stands.goes
            where
              further : HasEnded (after_sends b m a.j r) ⊎ (((after_sends b m a.j r).end ≡ UnderWay) × UnderWayAlong b m (after_sends b m a.j r) × (a.j < 3 * kept_links b m)) → After (suc n)
              further (inl f) = record { j = a.j; few = omega arith; same = ap (send b m) a.same ∙ still b m (after_sends b m a.j r) f.0; stands = a.stands; so_far = a.so_far; ended_or_all = inl f }
              further (inr (u, k, q)) =
                  let more : Made b m (suc a.j) r = made_more b m r a.j a.so_far u in
                  record { j = suc a.j; few = omega arith; same = ap (send b m) a.same; stands = every b m l g s t hs ht r o (suc a.j) more; so_far = more; ended_or_all = inr (ap suc e) }

  -- the last send was made by a packet under way, so there were at most three for each kept link
  last_was : (j : ℕ) → Made b m j r → j ≤ 3 * kept_links b m
  last_was zero h = omega arith
  last_was (suc j) h = go (every b m l g s t hs ht r o j (λ i k. h i (omega arith))).goes
    where
      go : HasEnded (after_sends b m j r) ⊎ (((after_sends b m j r).end ≡ UnderWay) × UnderWayAlong b m (after_sends b m j r) × (j < 3 * kept_links b m)) → suc j ≤ 3 * kept_links b m
      go (inl (e, inl d)) = absurd (not_under (sym (h j (omega arith)) ∙ d))
      go (inl (e, inr d)) = absurd (not_under' (sym (h j (omega arith)) ∙ d))
      go (inr (u, k, q)) = omega arith

  -- how the record stands after n sends: at its end, or going on along a kept link
  pub open_or_shut : (n : ℕ) → ((after_sends b m n r).hand ≡ None) ⊎ (((after_sends b m n r).total < 65535) × UnderWayAlong b m (after_sends b m n r))
  open_or_shut n = subst (λ (x : Record). (x.hand ≡ None) ⊎ ((x.total < 65535) × UnderWayAlong b m x)) (sym (after n).same) (go (after n).stands.goes)
    where
      x : Record
      x = after_sends b m (after n).j r

      go : HasEnded x ⊎ ((x.end ≡ UnderWay) × UnderWayAlong b m x × ((after n).j < 3 * kept_links b m)) → (x.hand ≡ None) ⊎ ((x.total < 65535) × UnderWayAlong b m x)
      go (inl e) = inl e.0
      go (inr (u, k, q)) = inr (omega (arith, (after n).stands.total_is, few_links b m g.few), k)

  -- so a packet that is held may go
  pub goes : (x : Record) (k : Link) → x.hand ≡ Some k → (x.hand ≡ None) ⊎ ((x.total < 65535) × UnderWayAlong b m x) → may_go (kept_neighbours b m x.holder) x ≡ true
  goes x k e (inl n) = cc
  goes x k e (inr (h, w)) = ap (may_go_along (kept_neighbours b m x.holder) x) w.in_hand
      ∙ all_three (eqb w.l.from x.holder) (ltb x.total 65535) (is_among (kept_neighbours b m x.holder) w.l.to)
      (let f = w.leaves in grind (arith, nat_tests)) (grind (arith, nat_tests))
      (subst (λ (i : ℕ). is_among (kept_neighbours b m i) w.l.to ≡ true) w.leaves (yes_is (is_among (kept_neighbours b m w.l.from) w.l.to) w.along))
    where
      all_three : (p q o : Bool) → p ≡ true → q ≡ true → o ≡ true → (p && q && o) ≡ true
      all_three true true true a c d = refl
      all_three true true false a c d = clash (sym d)
      all_three true false o a c d = clash (sym c)
      all_three false q o a c d = clash (sym a)

  -- a held packet goes on as the rules say, an ended one stays
  pub on_as_ruled : (n : ℕ) → gone_on b m (in_hand (after_sends b m n r)) ≡ in_hand (after_sends b m (n + 1) r)
  on_as_ruled n = let more : suc n ≡ n + 1 = omega arith in go (after_sends b m n r) (after_sends b m n r).hand refl (open_or_shut n) ∙ ap (λ (k : ℕ). in_hand (after_sends b m k r)) more
    where
      go : (x : Record) (h : Option Link) → x.hand ≡ h → (x.hand ≡ None) ⊎ ((x.total < 65535) × UnderWayAlong b m x) → gone_on b m (in_hand_with x h) ≡ in_hand (send b m x)
      go x None e w = sym (ap in_hand (still b m x e) ∙ ap (in_hand_with x) e)
      go x (Some k) e w = ap (λ (t : Bool). cond t (in_hand (send b m x)) (in_hand_with x (Some k))) (goes x k e w)

  -- what a run of so many sends promises
  pub runs_rightly : (n : ℕ) → RunsRightly b m s t n (after_sends b m n r)
  runs_rightly n = subst (RunsRightly b m s t n) (sym (after n).same) (record { at_most = (omega (arith, (after n).stands.total_is, (after n).few), most (after n).stands.goes); ends = λ h. ends h (after n).stands.goes (after n).ended_or_all })
    where
      x : Record
      x = after_sends b m (after n).j r

      most : HasEnded x ⊎ ((x.end ≡ UnderWay) × UnderWayAlong b m x × ((after n).j < 3 * kept_links b m)) → x.total ≤ 3 * kept_links b m
      most (inl e) = omega (arith, (after n).stands.total_is, last_was (after n).j (after n).so_far)
      most (inr (u, k, q)) = omega (arith, (after n).stands.total_is)

      right : (e : End) → x.end ≡ e → RightEnd m s t e → HasEnded x → EndsRightly m s t x
      right UnderWay e q (h, inl d) = absurd (not_under (sym e ∙ d))
      right UnderWay e q (h, inr d) = absurd (not_under' (sym e ∙ d))
      right Delivered e q h = inl (e, q)
      right Unreachable e q h = inr (e, q)

      ends : 3 * kept_links b m ≤ n → HasEnded x ⊎ ((x.end ≡ UnderWay) × UnderWayAlong b m x × ((after n).j < 3 * kept_links b m)) → HasEnded x ⊎ ((after n).j ≡ n) → EndsRightly m s t x
      ends h (inl e) o = right x.end refl (after n).stands.right e
      ends h (inr u) (inl e) = right x.end refl (after n).stands.right e
      ends h (inr (u, k, q)) (inr e) = absurd (omega arith)

-- ---- the call

-- the law, geometry and all
pub every : EveryRun
every = every_run ground

pub ok_not_err : (d : Record) (e : Refusal) → Ok d ≡ Err e → ⊥
ok_not_err d e k = cc

-- nodes of a map, those in service among them
serving_point : (o : Option Radio) (p : Point) → serving_place o ≡ Some p → place_of o ≡ Some p
serving_point None p e = cc
serving_point (Some r) p e = go r.serving e
  where
    go : (t : Bool) → cond t (Some r.point) None ≡ Some p → Some r.point ≡ Some p
    go true k = k
    go false k = cc

pub in_service : (m : Meaning) → Mapped m → Serving m
in_service m h =
    let at = λ (i : ℕ) (p : Point) (e : serving_at m i ≡ Some p). serving_point (radio m i) p e in
    record {
      few = h.few;
      general = record {
        in_range = λ i p e. h.general.in_range i p (at i p e);
        apart = λ i j p q n e f. h.general.apart i j p q n (at i p e) (at j q f);
        bent = λ i j k p q r n o u e f d. h.general.bent i j k p q r n o u (at i p e) (at j q f) (at k r d);
      };
    }

module _ (b : Blocks) (m : Meaning) (s t n : ℕ) where
  abbrev both : Bool
  both = serving m s && serving m t

  pub run_refused : (why : Refusal) → open_told (Err why) ≡ open_answer b m s t → run_told (Err why) ≡ run_answer b m s t n
  run_refused why e = go (opening b m s t) both e
    where
      go : (o : Option Record) (x : Bool) → Err (denial why) ≡ opened_if x o → Err (denial why) ≡ run_if b m n x o
      go None x e = let d : denial why ≡ 43 = cc in ap Err d
      go (Some r) true e = cc
      go (Some r) false e = let d : denial why ≡ 44 = cc in ap Err d

  -- a packet that was opened
  pub record Opened (p : Packet) : Type 0 where
    pub r : Record
    pub is : opening b m s t ≡ Some r
    pub source_serves : serving m s ≡ true
    pub target_serves : serving m t ≡ true
    pub packet_is : p ≡ in_hand r

  pub opened : (p : Packet) → open_told (Ok p) ≡ open_answer b m s t → Opened p
  opened p e = go (opening b m s t) refl (serving m s) (serving m t) refl refl e
    where
      go : (o : Option Record) → opening b m s t ≡ o → (x y : Bool) → serving m s ≡ x → serving m t ≡ y → Ok p ≡ opened_if (x && y) o → Opened p
      go None i x y hx hy e = cc
      go (Some r) i true true hx hy e = let d : p ≡ in_hand r = cc in record { r = r; is = i; source_serves = hx; target_serves = hy; packet_is = d }
      go (Some r) i true false hx hy e = cc
      go (Some r) i false y hx hy e = cc

  -- it was opened, and has made so many sends
  pub record Sent (i : ℕ) (p : Packet) : Type 0 where
    pub r : Record
    pub is : opening b m s t ≡ Some r
    pub source_serves : serving m s ≡ true
    pub target_serves : serving m t ≡ true
    pub packet_is : p ≡ in_hand (after_sends b m i r)

  pub sent_none : (p : Packet) → open_told (Ok p) ≡ open_answer b m s t → Sent 0 p
  sent_none p e = let o = opened p e in record { r = o.r; is = o.is; source_serves = o.source_serves; target_serves = o.target_serves; packet_is = o.packet_is }

  carried_is : (x : Record) → carried_by (in_hand x) ≡ x
  carried_is x = go x.hand
    where
      go : (h : Option Link) → carried_by (in_hand_with x h) ≡ x
      go None = refl
      go (Some k) = refl

  module _ (l : Lawful b) (g : Serving m) where
    pub sent_more : (i : ℕ) (p q : Packet) → Sent i p → q ≡ gone_on b m p → Sent (i + 1) q
    sent_more i p q w e = record {
      r = w.r;
      is = w.is;
      source_serves = w.source_serves;
      target_serves = w.target_serves;
      packet_is = e ∙ ap (gone_on b m) w.packet_is ∙ on_as_ruled every b m l g s t w.source_serves w.target_serves w.r w.is i;
    }

    -- an ended packet stays as it is
    pub sent_rest : (i : ℕ) (e : Ended) → Sent i (AtEnd e) → (k : ℕ) → Sent (k + i) (AtEnd e)
    sent_rest i e w zero = subst (λ (j : ℕ). Sent j (AtEnd e)) (omega arith) w
    sent_rest i e w (suc k) = subst (λ (j : ℕ). Sent j (AtEnd e)) (omega arith) (sent_more (k + i) (AtEnd e) (AtEnd e) (sent_rest i e w k) refl)

    pub run_done : (p : Packet) (d : Record) → Sent n p → d ≡ carried_by p → run_told (Ok d) ≡ run_answer b m s t n
    run_done p d w e = ap Ok (e ∙ ap carried_by w.packet_is ∙ carried_is (after_sends b m n w.r))
        ∙ sym ((λ i. run_if b m n (w.source_serves i && w.target_serves i) (w.is i)))

    pub run_right : (p : Packet) (d x : Record) → Sent n p → d ≡ carried_by p → ◌≡◌ {A = Result Record Refusal} (Ok d) (Ok x) → RunsRightly b m s t n x
    run_right p d x w e k =
        let same : d ≡ x = cc in
        subst (RunsRightly b m s t n) (sym (sym same ∙ e ∙ ap carried_by w.packet_is ∙ carried_is (after_sends b m n w.r)))
        (runs_rightly every b m l g s t w.source_serves w.target_serves w.r w.is n)
