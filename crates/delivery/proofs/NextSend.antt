-- ONE SEND from a record under way leads to a record under way, or ends the packet rightly
use Rattle.std.proofs.Common.{◌≡◌, ℕ, suc, ◌+◌, ◌-◌, ◌<◌, ◌≤◌, true, false, List, [], ◌∷◌, Some, None, Option, sym, refl, ap, ◌∙◌, subst, subst₂, inl, inr, arith}
use native.Mathlib.Decide.{ℕ_discrete}
use Rattle.order.specs.declared.Place.{Place}
use Rattle.floor.specs.Meaning.{Meaning, Joined}
use Rattle.floor.specs.Planar.{Blocks}
use Rattle.kept.specs.Kept.{kept_links}
use Rattle.face.specs.declared.record.Link.{Link}
use Rattle.face.specs.declared.record.Best.{Best}
use Rattle.face.specs.declared.record.Course.{Course}
use Rattle.face.specs.declared.record.Record.{Record}
use Rattle.face.specs.declared.record.Phase.TheVariants.{Ahead, Back}
use Rattle.face.specs.Packet.{send}
use Rattle.orbit.specs.Walks.{In}
use Rattle.orbit.proofs.Walking.{steps_next}
use Rattle.orbit.proofs.Orbit.{size_bound, face_round, face_closed}
use Rattle.orbit.proofs.Darts.{Dart}
use Rattle.delivery.proofs.Ground.{keeps, twin, spot, Ground}
use Rattle.delivery.proofs.BestSoFar.{BestIs, grow, earlier_or_last}
use Rattle.delivery.proofs.Sends.{going, walked_at, closed_at, judged, goes_on, ends, sent_home, judged_ahead, judged_back, best_then, judged_round, judged_closing}
use Rattle.delivery.proofs.Entry.{dart_keeps, twin_in, no_loop, reaches, reaches_on}
use Rattle.delivery.proofs.Trail.{F, at_step, around, front, twice, start_there, step_there, Tells, AtMostFour, tells_round, tells_ahead, tells_back, at_most_four, front_light, rest_light}
use Rattle.delivery.proofs.States.{entry_place, best_at, round_at, course_behind, InRound, InAhead, InBack, Legit, rounding, ahead, back, Ended, Stands, below}
use Rattle.delivery.proofs.Closing.{Outcome, on, over, rename, settle_ahead, settle_back, came_from, closing}

-- the dart that a link is
abbrev pub dart_of : Option Link → Dart
dart_of None = (0, 0)
dart_of (Some l) = (l.from, l.to)

module _ {b : Blocks} {m : Meaning} {s t : ℕ} (g : Ground b m s t) where
  open g use {rotation}

  module _ (x : Dart) (x_in : In x (F g).all) (c : Course) (n : ℕ) (small : n < 65535) (trail : List Dart) where
    kept : keeps b m x.0 x.1 ≡ true
    kept = dart_keeps rotation x x_in

    told : Outcome g (suc n) (x ∷ trail) x.1 (judged rotation s t x c n) → Stands g (suc n) (x ∷ trail) (send b m (going m s t x c n))
    told (on w c' e l) = inl (subst (Legit g (suc n) (x ∷ trail)) (sym (goes_on rotation s t x kept n small c w c' e)) l)
    told (over e c' f h q four) =
        inr (subst (Ended g (suc n) (x ∷ trail)) (sym (ends rotation s t x kept n small c e c' f)) (record { has_ended = (refl, h); right = q; total_is = refl; seldom = four }))

    -- at t, or not
    arriving : Joined m s x.1 → AtMostFour g (x ∷ trail)
        → ((¬ (x.1 ≡ t)) → Outcome g (suc n) (x ∷ trail) x.1 (judged rotation s t x c n)) → Stands g (suc n) (x ∷ trail) (send b m (going m s t x c n))
    arriving reached four other = go (ℕ_discrete x.1 t)
      where
        go : Dec (x.1 ≡ t) → Stands g (suc n) (x ∷ trail) (send b m (going m s t x c n))
        go (yes q) = inr (subst (Ended g (suc n) (x ∷ trail)) (sym (sent_home rotation s t x kept n small c q))
            (record { has_ended = (refl, inl refl); right = subst (Joined m s) q reached; total_is = refl; seldom = four }))
        go (no q) = told (other q)

  module _ (few : kept_links b m ≤ 4096) (n : ℕ) (small : n < 65535) (trail : List Dart) where
    send_round : (d e : Dart) (i : ℕ) (best : Option Best) → InRound g n trail d e i best
        → Stands g (suc n) (at_step g i d ∷ trail) (send b m (going m s t (at_step g i d) (round_at g d e i best) n))
    send_round d e i best u =
        arriving (at_step g i d) x_in (round_at g d e i best) n small trail (reaches_on rotation s i d start u.reached)
        (at_most_four g u.history (at_step g i d ∷ trail) (suc i) u.early [] (λ q. omega arith) tells) turn
      where
        start : In d (F g).all
        start = start_there g u.history

        x_in : In (at_step g i d) (F g).all
        x_in = step_there g u.history i

        few_sends : i < 65535
        few_sends = omega (arith, u.early, size_bound (F g) d start, twice g)

        tells : Tells g (at_step g i d ∷ trail) (front g (suc i) d) [] u.history
        tells = tells_round g u.history trail i u.tells

        turn : (¬ ((at_step g i d).1 ≡ t)) → Outcome g (suc n) (at_step g i d ∷ trail) (at_step g i d).1 (judged rotation s t (at_step g i d) (round_at g d e i best) n)
        turn other = go (ℕ_discrete (suc i) (around g d))
          where
            k : keeps b m (at_step g i d).0 (at_step g i d).1 ≡ true
            k = dart_keeps rotation (at_step g i d) x_in

            then : Option Best
            then = best_then rotation s t (at_step g i d) k n small other d (entry_place g e) i few_sends best

            is_then : BestIs (F g) (spot m s t) e d (suc i) then
            is_then = grow (F g) (spot m s t) g.beyond_trans g.beyond_never g.twin_spot (no_loop rotation) g.same_link e d i best start u.early u.best_is

            missed : (j : ℕ) → j < suc i → ¬ ((at_step g j d).1 ≡ t)
            missed = earlier_or_last i u.missed other

            go : Dec (suc i ≡ around g d) → Outcome g (suc n) (at_step g i d ∷ trail) (at_step g i d).1 (judged rotation s t (at_step g i d) (round_at g d e i best) n)
            go (no more) =
                on (rotation.after (at_step g i d).1 (at_step g i d).0) (round_at g d e (suc i) then)
                (judged_round rotation s t (at_step g i d) k n small other d (entry_place g e) i few_sends best
                (λ q. (face_round (F g) d start).first (suc i) (omega arith) (omega (arith, u.early)) (steps_next (F g).next i d ∙ q)))
                (subst (λ (y : Dart). Legit g (suc n) (at_step g i d ∷ trail) (going m s t y (round_at g d e (suc i) then) (suc n))) (steps_next (F g).next i d)
                (rounding d e (suc i) then (record {
                  history = u.history;
                  at = u.at;
                  reached = u.reached;
                  early = omega (arith, u.early);
                  best_is = is_then;
                  missed = missed;
                  sum = omega (arith, u.sum);
                  tells = tells;
                })))
            go (yes all) =
                rename g (judged_closing rotation s t (at_step g i d) k n small other d (entry_place g e) i few_sends best closes)
                (subst₂ (λ (l : ℕ) (y : Dart). Outcome g (suc n) (at_step g i d ∷ trail) y.0 (closed_at b m y.0 (round_at g d e l then) y.1 then)) (sym all) (sym closes)
                (closing g d e u.history u.at u.reached (λ j q. missed j (omega arith)) (suc n) (at_step g i d ∷ trail) (omega (arith, u.sum))
                (subst (λ (l : ℕ). Tells g (at_step g i d ∷ trail) (front g l d) [] u.history) all tells) then (subst (λ (l : ℕ). BestIs (F g) (spot m s t) e d l then) all is_then)))
              where
                closes : (F g).next (at_step g i d) ≡ d
                closes = sym (steps_next (F g).next i d) ∙ ap (λ (j : ℕ). at_step g j d) all ∙ face_closed (F g) d start

    send_ahead : (d e : Dart) (k : ℕ) (place : Place) (j w : ℕ) → InAhead g n trail d e k place j w
        → Stands g (suc n) (at_step g j d ∷ trail) (send b m (going m s t (at_step g j d) (course_behind g Ahead d e k place w) n))
    send_ahead d e k place j w u =
        arriving (at_step g j d) x_in (course_behind g Ahead d e k place w) n small trail
        (reaches_on rotation s j d (start_there g u.rounded.history) u.rounded.reached)
        (at_most_four g u.rounded.history (at_step g j d ∷ trail) (around g d) (omega arith) (front g (suc j) d) (front_light g d (suc j) (omega arith)) tells)
        (λ other. rename g (judged_ahead rotation s t (at_step g j d) (dart_keeps rotation (at_step g j d) x_in) n small other d (entry_place g e) (around g d) (best_at g d k place false) w)
        (subst (λ (y : Dart). Outcome g (suc n) (at_step g j d ∷ trail) y.0 (walked_at b m y.0 (course_behind g Ahead d e k place (w - 1)) y.1)) (steps_next (F g).next j d)
        (settle_ahead g d e k place u.rounded (suc n) (at_step g j d ∷ trail) (suc j) (w - 1) (omega (arith, u.left, u.some)) u.short (omega (arith, u.sum)) tells)))
      where
        x_in : In (at_step g j d) (F g).all
        x_in = step_there g u.rounded.history j

        tells : Tells g (at_step g j d ∷ trail) (front g (around g d) d) (front g (suc j) d) u.rounded.history
        tells = tells_ahead g u.rounded.history trail (front g (around g d) d) j u.tells

    send_back : (d e : Dart) (k : ℕ) (place : Place) (j w : ℕ) → InBack g n trail d e k place j w
        → Stands g (suc n) (twin (at_step g (k + w) d) ∷ trail) (send b m (going m s t (twin (at_step g (k + w) d)) (course_behind g Back d e k place w) n))
    send_back d e k place j w u =
        arriving x x_in (course_behind g Back d e k place w) n small trail
        (reaches rotation s (k + w) d (start_there g history) u.rounded.reached)
        (at_most_four g history (x ∷ trail) (around g d) (omega arith) (front g (suc j) (at_step g (k + w) d)) (rest_light g d (k + w) (suc j) (omega (arith, u.left))) tells)
        (λ other. rename g (judged_back rotation s t x (dart_keeps rotation x x_in) n small other d (entry_place g e) (around g d) (best_at g d k place false) w)
        (subst₂ (λ (v y : ℕ). Outcome g (suc n) (x ∷ trail) v (walked_at b m v (course_behind g Back d e k place (w - 1)) y))
        (ap (λ (z : Dart). z.0) turned) (came_from g (at_step g (k + (w - 1)) d) (at_step g (k + w) d) (step_there g history (k + (w - 1))) turned)
        (settle_back g d e k place u.rounded (suc n) (x ∷ trail) (suc j) (w - 1) (omega (arith, u.left, u.some)) (omega (arith, u.short, u.some)) (omega (arith, u.sum))
        (subst (λ (i : ℕ). Tells g (x ∷ trail) (front g (around g d) d) (front g (suc j) (at_step g i d)) history) (sym one) tells))))
      where
        open u.rounded use {history}

        x : Dart
        x = twin (at_step g (k + w) d)

        x_in : In x (F g).all
        x_in = twin_in rotation (at_step g (k + w) d) (step_there g history (k + w))

        one : suc (k + (w - 1)) ≡ k + w
        one = omega (arith, u.some)

        turned : (F g).next (at_step g (k + (w - 1)) d) ≡ at_step g (k + w) d
        turned = sym (steps_next (F g).next (k + (w - 1)) d) ∙ ap (λ (i : ℕ). at_step g i d) one

        tells : Tells g (x ∷ trail) (front g (around g d) d) (front g (suc j) (at_step g (k + w) d)) history
        tells = tells_back g history trail (front g (around g d) d) j (at_step g (k + w) d)
            (subst (λ (y : Dart). Tells g trail (front g (around g d) d) (front g j y) history) (steps_next (F g).next (k + w) d) u.tells)

  pub next_send : kept_links b m ≤ 4096 → (n : ℕ) (trail : List Dart) (r : Record) → Legit g n trail r → Stands g (suc n) (dart_of r.hand ∷ trail) (send b m r)
  next_send few n trail r l = go r l (omega (arith, below g n trail l))
    where
      go : (r : Record) → Legit g n trail r → n < 65535 → Stands g (suc n) (dart_of r.hand ∷ trail) (send b m r)
      go r (rounding d e i best u) small = send_round few n small trail d e i best u
      go r (ahead d e k place j w u) small = send_ahead few n small trail d e k place j w u
      go r (back d e k place j w u) small = send_back few n small trail d e k place j w u
