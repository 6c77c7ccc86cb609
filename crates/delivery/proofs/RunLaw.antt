-- THE RUN LAW: over an unchanged host every packet ends in time, and ends rightly, and no link is used more than four times
use Rattle.std.proofs.Common.{◌≡◌, ℕ, zero, suc, ◌≤◌, Bool, true, false, ◌&&◌, ◌||◌, T, eqb, ◌⊎◌, List, [], ◌∷◌, length, Some, sym, refl, ap, ◌∙◌, subst, ap₂, inl, inr, arith, eqb-true}
use mathlib.Core.Bool.{and_comm, or_comm}
use native.Mathlib.Decide.{ℕ_discrete}
use Rattle.floor.specs.Meaning.{Meaning, Serving, Joined, here}
use Rattle.floor.specs.Planar.{Blocks, Lawful}
use Rattle.face.specs.declared.record.Record.{Record}
use Rattle.face.specs.declared.record.End.{End}
use Rattle.face.specs.declared.record.End.TheVariants.{UnderWay, Delivered, Unreachable}
use Rattle.face.specs.Packet.{link_of, opening}
use Rattle.orbit.proofs.Count.{count}
use Rattle.orbit.proofs.Darts.{Dart}
use Rattle.delivery.specs.Law.{serving, after_sends, Standing, Made, EveryRun}
use Rattle.delivery.proofs.Ground.{twin, Ground}
use Rattle.delivery.proofs.Few.{few_links}
use Rattle.delivery.proofs.Entry.{dart_keeps}
use Rattle.delivery.proofs.Trail.{AtMostFour}
use Rattle.delivery.proofs.States.{Stands, below, seldom_so_far, in_hand}
use Rattle.delivery.proofs.NextSend.{dart_of, next_send}
use Rattle.delivery.proofs.FirstRecord.{opened_is, opened_home, opens_rightly}

-- ---- words

-- the darts of the first n sends, the latest first
abbrev pub hops : Blocks → Meaning → ℕ → Record → List Dart
hops b m zero r = []
hops b m (suc n) r = dart_of (after_sends b m n r).hand ∷ hops b m n r

-- a dart of the link between u and v
abbrev pub over_link : ℕ → ℕ → Dart → Bool
over_link u v x = (eqb x.0 u && eqb x.1 v) || (eqb x.0 v && eqb x.1 u)

-- what EveryRun asks, with a bound on the sends over one link in the place of the standing
abbrev pub EveryLink : Type 0
EveryLink =
    (b : Blocks) (m : Meaning) → Lawful b → Serving m → (s t : ℕ) → serving m s ≡ true → serving m t ≡ true
    → (r : Record) → opening b m s t ≡ Some r → (n : ℕ) → Made b m n r → (u v : ℕ) → count (over_link u v) (hops b m n r) ≤ 4

-- what geometry gives
abbrev pub EveryGround : Type 0
EveryGround = (b : Blocks) (m : Meaning) → Lawful b → Serving m → (s t : ℕ) → serving m s ≡ true → serving m t ≡ true → ¬ (s ≡ t) → Ground b m s t

-- ---- proofs

over_either : (u v : ℕ) (x : Dart) → over_link u v x ≡ true → (x ≡ (u, v)) ⊎ (x ≡ (v, u))
over_either u v x = go (eqb x.0 u) refl (eqb x.1 v) refl (eqb x.0 v) refl (eqb x.1 u) refl
  where
    same : (y z : ℕ) → eqb x.0 y ≡ true → eqb x.1 z ≡ true → x ≡ (y, z)
    same y z p q i = (eqb-true x.0 y p i, eqb-true x.1 z q i)

    go : (a : Bool) → eqb x.0 u ≡ a → (c : Bool) → eqb x.1 v ≡ c → (d : Bool) → eqb x.0 v ≡ d → (e : Bool) → eqb x.1 u ≡ e
        → (a && c) || (d && e) ≡ true → (x ≡ (u, v)) ⊎ (x ≡ (v, u))
    go true p true q d f e h y = inl (same u v p q)
    go true p false q true f true h y = inr (same v u f h)
    go true p false q true f false h y = absurd (subst T (sym y) tt)
    go true p false q false f e h y = absurd (subst T (sym y) tt)
    go false p c q true f true h y = inr (same v u f h)
    go false p c q true f false h y = absurd (subst T (sym y) tt)
    go false p c q false f e h y = absurd (subst T (sym y) tt)

over_twin : (u v : ℕ) (x : Dart) → over_link u v (twin x) ≡ over_link u v x
over_twin u v x =
    or_comm (eqb x.1 u && eqb x.0 v) (eqb x.1 v && eqb x.0 u)
    ∙ ap₂ ◌||◌ (and_comm (eqb x.1 v) (eqb x.0 u)) (and_comm (eqb x.1 u) (eqb x.0 v))

not_under_way : (e : End) → (e ≡ Delivered) ⊎ (e ≡ Unreachable) → ¬ (e ≡ UnderWay)
not_under_way e (inl p) q = cc
not_under_way e (inr p) q = cc

module _ {b : Blocks} {m : Meaning} {s t : ℕ} (g : Ground b m s t) where
  standing : (n : ℕ) (trail : List Dart) (r : Record) → Stands g n trail r → Standing b m s t n r
  standing n trail r (inl l) =
      let (x, c, i, e) = in_hand g n trail l in
      subst (Standing b m s t n) (sym e) (record {
        total_is = refl;
        goes = inr (refl, record { l = link_of x.0 x.1; in_hand = refl; leaves = refl; along = subst T (sym (dart_keeps g.rotation x i)) tt }, below g n trail l);
        right = tt;
      })
  standing n trail r (inr e) = record { total_is = e.total_is; goes = inl e.has_ended; right = e.right }

  seldom : (n : ℕ) (trail : List Dart) (r : Record) → Stands g n trail r → AtMostFour g trail
  seldom n trail r (inl l) = seldom_so_far g n trail l
  seldom n trail r (inr e) = e.seldom

  -- by induction on the sends
  stands_after : ¬ (s ≡ t) → length m.nodes ≤ 64 → (r : Record) → opening b m s t ≡ Some r → (n : ℕ) → Made b m n r → Stands g n (hops b m n r) (after_sends b m n r)
  stands_after apart few r begun zero made = subst (Stands g 0 []) (sym (opened_is b m s t r begun)) (opens_rightly b m s t g apart)
  stands_after apart few r begun (suc n) made = go (stands_after apart few r begun n (λ i l. made i (omega arith)))
    where
      go : Stands g n (hops b m n r) (after_sends b m n r) → Stands g (suc n) (hops b m (suc n) r) (after_sends b m (suc n) r)
      go (inl l) = next_send g (few_links b m few) n (hops b m n r) (after_sends b m n r) l
      go (inr e) = absurd (not_under_way (after_sends b m n r).end e.has_ended.1 (made n (omega arith)))

module _ (b : Blocks) (m : Meaning) (s t : ℕ) where
  module _ (apart : ¬ (s ≡ t)) (g : Ground b m s t) (few : length m.nodes ≤ 64) (r : Record) (begun : opening b m s t ≡ Some r) (n : ℕ) (made : Made b m n r) where
    pub run_law : Standing b m s t n (after_sends b m n r)
    run_law = standing g n (hops b m n r) (after_sends b m n r) (stands_after g apart few r begun n made)

    pub link_law : (u v : ℕ) → count (over_link u v) (hops b m n r) ≤ 4
    link_law u v = seldom g n (hops b m n r) (after_sends b m n r) (stands_after g apart few r begun n made) (over_link u v) (u, v) (v, u) (over_either u v) (over_twin u v)

  -- a packet to its own source is delivered at once, and makes no send
  module _ (same : s ≡ t) (r : Record) (begun : opening b m s t ≡ Some r) where
    none_made : (n : ℕ) → Made b m (suc n) r → ⊥
    none_made n made =
        not_under_way r.end (inl (ap (λ (q : Record). q.end) (opened_is b m s t r begun ∙ opened_home b m s t same))) (made 0 (omega arith))

    home_law : (n : ℕ) → Made b m n r → Standing b m s t n (after_sends b m n r)
    home_law zero made = subst (Standing b m s t 0) (sym (opened_is b m s t r begun ∙ opened_home b m s t same))
        (record { total_is = refl; goes = inl (refl, inl refl); right = subst (Joined m s) same (here s) })
    home_law (suc n) made = absurd (none_made n made)

    home_link : (n : ℕ) → Made b m n r → (u v : ℕ) → count (over_link u v) (hops b m n r) ≤ 4
    home_link zero made u v = omega arith
    home_link (suc n) made u v = absurd (none_made n made)

-- EVERY RUN, and every link, from the ground that geometry gives
pub every_run : EveryGround → EveryRun
every_run ground b m lawful position s t sv tv r begun n made = go (ℕ_discrete s t)
  where
    go : Dec (s ≡ t) → Standing b m s t n (after_sends b m n r)
    go (yes same) = home_law b m s t same r begun n made
    go (no apart) = run_law b m s t apart (ground b m lawful position s t sv tv apart) position.few r begun n made

pub every_link : EveryGround → EveryLink
every_link ground b m lawful position s t sv tv r begun n made = go (ℕ_discrete s t)
  where
    go : Dec (s ≡ t) → (u v : ℕ) → count (over_link u v) (hops b m n r) ≤ 4
    go (yes same) = home_link b m s t same r begun n made
    go (no apart) = link_law b m s t apart (ground b m lawful position s t sv tv apart) position.few r begun n made
