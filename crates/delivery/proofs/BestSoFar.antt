-- The best of a round so far: the first dart of greatest place of those beyond the entry, marked once its twin was walked too
use Rattle.std.proofs.Common.{◌≡◌, ℕ, suc, ◌+◌, ◌-◌, ◌<◌, Bool, true, false, cond, ◌⊎◌, Some, None, Option, sym, refl, ap, ◌∙◌, subst, inl, inr, true≢false, arith}
use native.Mathlib.Decide.{dec_le}
use Rattle.order.specs.declared.Place.{Place}
use Rattle.order.specs.Places.{nearer}
use Rattle.face.specs.declared.record.Best.{Best}
use Rattle.face.specs.declared.record.Course.{Course}
use Rattle.face.specs.declared.record.Phase.TheVariants.{Round}
use Rattle.face.specs.Packet.{link_of, better, best_after}
use Rattle.orbit.specs.Walks.{In, steps}
use Rattle.orbit.proofs.Walking.{steps_inside, steps_add}
use Rattle.orbit.proofs.Orbit.{Turning, size, face_round, steps_injective}
use Rattle.orbit.proofs.Darts.{Dart}
use Rattle.delivery.proofs.Ground.{or_source, nearer_than, twin}

-- the course of a round that began with d, after i sends
abbrev pub round_course : Dart → Place → ℕ → Option Best → Course
round_course d place i best = record { phase = Round; first = Some (link_of d.0 d.1); sends = i; entry = place; best = best; walk = 0 }

-- what holds of those before i and of i holds of those up to i
pub earlier_or_last : {P : ℕ → Type 0} (i : ℕ) → ((j : ℕ) → j < i → P j) → P i → (j : ℕ) → j < suc i → P j
earlier_or_last {P} i h l j m = elim (dec_le (suc j) i) [ yes n ↦ h j n | no n ↦ subst P (same j n m) l ]
  where
    same : (j : ℕ) → ¬ (j < i) → j < suc i → i ≡ j
    same j n m = omega arith

-- two places of one round are different darts
pub steps_differ : {A : Type 0} (p : Turning A) (d : A) (k i : ℕ) → In d p.all → k < i → i < size p d → ¬ (steps p.next i d ≡ steps p.next k d)
steps_differ {A} p d k i in_all l m e =
    (face_round p d in_all).first (i - k) (omega arith) (omega arith)
    (sym (steps_injective p k d (steps p.next (i - k) d) in_all (steps_inside p.next p.all p.closed (i - k) d in_all)
    (sym e ∙ ap (λ (n : ℕ). steps p.next n d) whole ∙ steps_add p.next (i - k) k d)))
  where
    whole : i ≡ i - k + k
    whole = omega arith

module _ (p : Turning Dart) (spot : Dart → Option Place) where
  open p use {all, next}

  abbrev beyond : Dart → Dart → Bool
  beyond x y = nearer_than (or_source (spot x)) (spot y)

  -- of the first i darts from d, number k is the best
  pub record BestAt (e d : Dart) (i k : ℕ) (place : Place) (mark : Bool) : Type 0 where
    pub early : k < i
    pub there : spot (steps next k d) ≡ Some place
    pub far : beyond e (steps next k d) ≡ true
    pub top : (j : ℕ) → j < i → beyond e (steps next j d) ≡ true → beyond (steps next k d) (steps next j d) ≡ false
    pub marks : mark ≡ true → (j : ℕ) × (j < i) × (steps next j d ≡ twin (steps next k d))
    pub bare : mark ≡ false → (j : ℕ) → j < i → ¬ (steps next j d ≡ twin (steps next k d))

  abbrev pub best_of : Dart → ℕ → Place → Bool → Best
  best_of d k place mark = record { link = link_of (steps next k d).0 (steps next k d).1; index = k; place = place; marked = mark }

  pub data BestIs (e d : Dart) (i : ℕ) : Option Best → Type 0 where
    nothing : ((j : ℕ) → j < i → beyond e (steps next j d) ≡ false) → BestIs e d i None
    something : (k : ℕ) (place : Place) (mark : Bool) → BestAt e d i k place mark → BestIs e d i (Some (best_of d k place mark))

  pub best_none : (e d : Dart) → BestIs e d 0 None
  best_none e d = nothing (λ j l. absurd (omega arith))

  module _ (trans : (x y z : Dart) → beyond x y ≡ true → beyond y z ≡ true → beyond x z ≡ true)
      (never : (x : Dart) → beyond x x ≡ false)
      (twin_spot : (x : Dart) → spot (twin x) ≡ spot x)
      (no_loop : (x : Dart) → In x all → ¬ (x ≡ twin x))
      (same_link : (x y : Dart) (q r : Place) → In x all → In y all → spot x ≡ Some q → spot y ≡ Some r → nearer q r ≡ false → nearer r q ≡ false → (x ≡ y) ⊎ (x ≡ twin y)) where
    seen_beyond : (e x y : Dart) → x ≡ twin y → beyond e x ≡ beyond e y
    seen_beyond e x y h = ap (λ (z : Dart). beyond e z) h ∙ ap (nearer_than (or_source (spot e))) (twin_spot y)

    nearer_places : (x y : Dart) (q r : Place) → spot x ≡ Some q → spot y ≡ Some r → beyond x y ≡ nearer r q
    nearer_places x y q r f g = ap (λ (o : Option Place). nearer_than (or_source o) (spot y)) f ∙ ap (nearer_than q) g

    -- x = steps i d is not beyond the entry: nothing changes
    unchanged : (e d : Dart) (i : ℕ) (best : Option Best) → beyond e (steps next i d) ≡ false → BestIs e d i best → BestIs e d (suc i) best
    unchanged e d i None h (nothing n) = nothing (earlier_or_last i n h)
    unchanged e d i (Some b) h (something k place mark a) = something k place mark (record {
      early = omega (arith, a.early);
      there = a.there;
      far = a.far;
      top = earlier_or_last i a.top (λ t. absurd (true≢false (sym t ∙ h)));
      marks = λ t. let (j, l, f) = a.marks t in (j, omega arith, f);
      bare = λ t. earlier_or_last i (a.bare t) (λ f. true≢false (sym a.far ∙ sym (seen_beyond e (steps next i d) (steps next k d) f) ∙ h));
    })

    module _ (e d : Dart) (i : ℕ) (in_all : In d all) (q : Place) (at : spot (steps next i d) ≡ Some q) (over : beyond e (steps next i d) ≡ true) where
      loopless : ¬ (steps next i d ≡ twin (steps next i d))
      loopless = no_loop (steps next i d) (steps_inside next all p.closed i d in_all)

      -- the first one beyond the entry
      first_best : ((j : ℕ) → j < i → beyond e (steps next j d) ≡ false) → BestAt e d (suc i) i q false
      first_best none = record {
        early = omega arith;
        there = at;
        far = over;
        top = earlier_or_last i (λ j l t. absurd (true≢false (sym t ∙ none j l))) (λ t. never (steps next i d));
        marks = λ t. absurd (true≢false (sym t));
        bare = λ t. earlier_or_last i (λ j l f. true≢false (sym over ∙ sym (seen_beyond e (steps next j d) (steps next i d) f) ∙ none j l)) loopless;
      }

      module _ (k : ℕ) (place : Place) (mark : Bool) (a : BestAt e d i k place mark) where
        -- beyond the best so far
        new_best : nearer q place ≡ true → BestAt e d (suc i) i q false
        new_best h = record {
          early = omega arith;
          there = at;
          far = over;
          top = earlier_or_last i (λ j l t. off j l t (beyond (steps next i d) (steps next j d)) refl) (λ t. never (steps next i d));
          marks = λ t. absurd (true≢false (sym t));
          bare = λ t. earlier_or_last i (λ j l f. true≢false (sym passed ∙ sym (seen_beyond (steps next k d) (steps next j d) (steps next i d) f) ∙ a.top j l (seen_beyond e (steps next j d) (steps next i d) f ∙ over))) loopless;
        }
          where
            passed : beyond (steps next k d) (steps next i d) ≡ true
            passed = nearer_places (steps next k d) (steps next i d) place q a.there at ∙ h

            off : (j : ℕ) → j < i → beyond e (steps next j d) ≡ true → (t : Bool) → beyond (steps next i d) (steps next j d) ≡ t → beyond (steps next i d) (steps next j d) ≡ false
            off j l t false f = f
            off j l t true f = absurd (true≢false (sym (trans (steps next k d) (steps next i d) (steps next j d) passed f) ∙ a.top j l t))

        -- short of the best so far
        old_best : nearer q place ≡ false → nearer place q ≡ true → BestAt e d (suc i) k place mark
        old_best h n = record {
          early = omega (arith, a.early);
          there = a.there;
          far = a.far;
          top = earlier_or_last i a.top (λ t. nearer_places (steps next k d) (steps next i d) place q a.there at ∙ h);
          marks = λ t. let (j, l, f) = a.marks t in (j, omega arith, f);
          bare = λ t. earlier_or_last i (a.bare t) (λ f. true≢false (sym n ∙ sym (nearer_places (steps next i d) (steps next k d) q place at a.there) ∙ same f));
        }
          where
            same : steps next i d ≡ twin (steps next k d) → beyond (steps next i d) (steps next k d) ≡ false
            same f = ap (λ (o : Option Place). nearer_than (or_source o) (spot (steps next k d))) (ap spot f ∙ twin_spot (steps next k d)) ∙ never (steps next k d)

        -- at the place of the best so far: its twin
        both_ways : i < size p d → nearer q place ≡ false → nearer place q ≡ false → BestAt e d (suc i) k place true
        both_ways l h n = record {
          early = omega (arith, a.early);
          there = a.there;
          far = a.far;
          top = earlier_or_last i a.top (λ t. nearer_places (steps next k d) (steps next i d) place q a.there at ∙ h);
          marks = λ t. (i, omega arith, twins);
          bare = λ t. absurd (true≢false t);
        }
          where
            inside : (j : ℕ) → In (steps next j d) all
            inside j = steps_inside next all p.closed j d in_all

            twins : steps next i d ≡ twin (steps next k d)
            twins = elim (same_link (steps next i d) (steps next k d) q place (inside i) (inside k) at a.there h n)
                [ inl f ↦ absurd (steps_differ p d k i in_all a.early l f) | inr f ↦ f ]

    -- ONE SEND MORE of the round: the best of i + 1 darts
    pub grow : (e d : Dart) (i : ℕ) (best : Option Best) → In d all → i < size p d → BestIs e d i best
        → BestIs e d (suc i) (best_after (round_course d (or_source (spot e)) i best) (link_of (steps next i d).0 (steps next i d).1) (spot (steps next i d)))
    grow e d i best in_all l is = crossed (spot (steps next i d)) refl
      where
        x : Dart
        x = steps next i d

        entry : Place
        entry = or_source (spot e)

        course : Option Best → Course
        course o = round_course d entry i o

        placed : (q : Place) → spot x ≡ Some q → nearer q entry ≡ true → (o : Option Best) → BestIs e d i o → BestIs e d (suc i) (better (link_of x.0 x.1) i q o)
        placed q at h None (nothing none) = something i q false (first_best e d i in_all q at (ap (nearer_than entry) at ∙ h) none)
        placed q at h (Some b) (something k place mark a) = one (nearer q place) refl (nearer place q) refl
          where
            over : beyond e x ≡ true
            over = ap (nearer_than entry) at ∙ h

            one : (t : Bool) → nearer q place ≡ t → (u : Bool) → nearer place q ≡ u
                → BestIs e d (suc i) (cond t (Some (best_of d i q false)) (cond u (Some (best_of d k place mark)) (Some (best_of d k place true))))
            one true f u g = something i q false (new_best e d i in_all q at over k place mark a f)
            one false f true g = something k place mark (old_best e d i in_all q at over k place mark a f g)
            one false f false g = something k place true (both_ways e d i in_all q at over k place mark a l f g)

        tested : (q : Place) → spot x ≡ Some q → (t : Bool) → nearer q entry ≡ t → BestIs e d (suc i) (cond t (better (link_of x.0 x.1) i q best) best)
        tested q at true h = placed q at h best is
        tested q at false h = unchanged e d i best (ap (nearer_than entry) at ∙ h) is

        crossed : (o : Option Place) → spot x ≡ o → BestIs e d (suc i) (best_after (course best) (link_of x.0 x.1) o)
        crossed None at = unchanged e d i best (ap (nearer_than entry) at) is
        crossed (Some q) at = tested q at (nearer q entry) refl
