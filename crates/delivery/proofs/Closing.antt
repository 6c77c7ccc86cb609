-- What becomes of a packet whose round is closed: it ends unreachable, or walks to the best, or opens the next round there
use Rattle.std.proofs.Common.{◌≡◌, ℕ, zero, suc, ◌+◌, ◌-◌, ◌*◌, ◌<◌, ◌≤◌, Bool, true, false, ◌⊎◌, List, [], length, Some, None, Option, sym, refl, ap, ◌∙◌, subst, subst₂, inr, true≢false, arith}
use native.Mathlib.Decide.{dec_le}
use Rattle.order.specs.declared.Place.{Place}
use Rattle.floor.specs.Meaning.{Meaning, Joined}
use Rattle.floor.specs.Planar.{Blocks}
use Rattle.face.specs.declared.record.Best.{Best}
use Rattle.face.specs.declared.record.Course.{Course}
use Rattle.face.specs.declared.record.Phase.TheVariants.{Ahead, Back}
use Rattle.face.specs.declared.record.End.{End}
use Rattle.face.specs.declared.record.End.TheVariants.{Delivered, Unreachable}
use Rattle.face.specs.Packet.{Verdict, GoesOn, Ends}
use Rattle.orbit.specs.Walks.{In}
use Rattle.orbit.proofs.Walking.{steps_next}
use Rattle.orbit.proofs.Orbit.{face, face_round, face_closed, face_start, face_next}
use Rattle.orbit.proofs.Count.{count, Retraced}
use Rattle.orbit.proofs.Darts.{Dart}
use Rattle.delivery.specs.Law.{RightEnd}
use Rattle.delivery.proofs.Ground.{twin, spot, or_source, beyond, Ground}
use Rattle.orbit.proofs.Past.{later, sends_later}
use Rattle.delivery.proofs.BestSoFar.{round_course, BestAt, BestIs, nothing, something, best_none}
use Rattle.delivery.proofs.Sends.{going, walked_at, closed_at, walks_on, opens_ahead, opens_back, closed_ahead, closed_back}
use Rattle.delivery.proofs.Entry.{dart_keeps, twin_in, reaches, reaches_on, Beyond, Misses, AtEntry, Foremost, twin_to, twin_from, has_crossing, twin_out, next_entry}
use Rattle.delivery.proofs.Trail.{F, at_step, around, front, History, spent, entry_there, start_there, step_there, on_entry, number_of, way_ahead, way_back, retraced_ahead, retraced_back, length_ahead, length_back, Tells, AtMostFour, tells_later, ahead_again, back_again, at_most_four}
use Rattle.delivery.proofs.States.{entry_place, best_at, round_at, Rounded, course_behind, Legit, rounding, ahead, back}

module _ {b : Blocks} {m : Meaning} {s t : ℕ} (g : Ground b m s t) where
  open g use {rotation}

  -- what a verdict at v makes of the packet, its send counted
  pub data Outcome (n : ℕ) (trail : List Dart) (v : ℕ) (o : Verdict) : Type 0 where
    on : (w : ℕ) (c : Course) → o ≡ GoesOn w c → Legit g n trail (going m s t (v, w) c n) → Outcome n trail v o
    over : (e : End) (c : Course) → o ≡ Ends e c → ((e ≡ Delivered) ⊎ (e ≡ Unreachable)) → RightEnd m s t e → AtMostFour g trail → Outcome n trail v o

  pub rename : {n : ℕ} {trail : List Dart} {v : ℕ} {o p : Verdict} → o ≡ p → Outcome n trail v p → Outcome n trail v o
  rename e (on w c f l) = on w c (e ∙ f) l
  rename e (over x c f h q four) = over x c (e ∙ f) h q four

  module _ (d e : Dart) (k : ℕ) (place : Place) (r : Rounded g d e k place) (n : ℕ) (trail : List Dart) where
    open r use {history, reached, index}

    -- a new round opens with the dart c, behind the walk w
    opens_round : (c : Dart) → In c (face (F g) (twin (at_step g k d))) → Joined m s c.0
        → (again w : List Dart) → ((q : Dart → Bool) → ((x : Dart) → q (twin x) ≡ q x) → count q w ≡ count q again) → Retraced twin (record { darts = face (F g) d; walked = w })
        → n ≡ spent g history + around g d + length w → Tells g trail (front g (around g d) d) again history
        → Legit g n trail (going m s t c (round_course c place 0 None) n)
    opens_round c on_face reached again w same retraced total tells =
        subst (λ (p : Place). Legit g n trail (going m s t c (round_course c p 0 None) n)) (ap or_source (g.twin_spot (at_step g k d) ∙ r.there))
        (rounding c (twin (at_step g k d)) 0 None (record {
          history = h;
          at = r.at;
          reached = reached;
          early = (face_round (F g) c (start_there g h)).some;
          best_is = best_none (F g) (spot m s t) (twin (at_step g k d)) c;
          missed = λ j l. absurd (omega arith);
          sum = omega (arith, sends_later (F g) (Beyond g) g.beyond_trans twin c (twin (at_step g k d)) history r.follows on_face w retraced);
          tells = tells_later g history trail c (twin (at_step g k d)) again w same r.follows on_face retraced tells;
        }))
      where
        h : History g c (twin (at_step g k d))
        h = later history r.follows on_face w retraced

    on_twin : In (twin (at_step g k d)) (face (F g) (twin (at_step g k d)))
    on_twin = face_start (F g) (twin (at_step g k d)) r.follows.there

    -- a walk ahead, at the start of dart j
    pub settle_ahead : (j w : ℕ) → j + w ≡ k → 2 * k < around g d → n ≡ spent g history + around g d + j → Tells g trail (front g (around g d) d) (front g j d) history
        → Outcome n trail (at_step g j d).0 (walked_at b m (at_step g j d).0 (course_behind g Ahead d e k place w) (at_step g j d).1)
    settle_ahead j zero left short total tells =
        subst (λ (i : ℕ). Outcome n trail (at_step g i d).0 (walked_at b m (at_step g i d).0 (course_behind g Ahead d e k place 0) (at_step g i d).1)) (same left)
        (on (rotation.after (at_step g k d).0 (at_step g k d).1) (round_course ((F g).next (twin (at_step g k d))) place 0 None)
        (opens_ahead rotation (at_step g k d).0 d (entry_place g e) (around g d) (best_at g d k place false) (at_step g k d).1
        (dart_keeps rotation (at_step g k d) (step_there g history k)))
        (opens_round ((F g).next (twin (at_step g k d))) (face_next (F g) (twin (at_step g k d)) (twin (at_step g k d)) r.follows.there on_twin)
        (reaches rotation s k d (start_there g history) reached) (front g j d) (way_ahead g d k)
        (λ q both. ap (count q) (ahead_again g d k (omega arith) ∙ ap (λ (i : ℕ). front g i d) (same left)))
        (retraced_ahead g d k index short) (omega (arith, length_ahead g d k index)) tells))
      where
        same : j + 0 ≡ k → k ≡ j
        same h = omega arith
    settle_ahead j (suc w) left short total tells =
        on (at_step g j d).1 (course_behind g Ahead d e k place (suc w))
        (walks_on rotation (at_step g j d).0 d (entry_place g e) (around g d) (best_at g d k place false) Ahead (suc w) (at_step g j d).1 (omega arith))
        (ahead d e k place j (suc w) (record { rounded = r; left = left; some = omega arith; short = short; sum = total; tells = tells }))

    -- a walk back, at the end of dart k + w
    pub settle_back : (j w : ℕ) → suc (k + w) + j ≡ around g d → 2 * (j + w) < around g d → n ≡ spent g history + around g d + j
        → Tells g trail (front g (around g d) d) (front g j (at_step g (suc (k + w)) d)) history
        → Outcome n trail (at_step g (k + w) d).1 (walked_at b m (at_step g (k + w) d).1 (course_behind g Back d e k place w) (at_step g (k + w) d).0)
    settle_back j zero left short total tells =
        subst (λ (i : ℕ). Outcome n trail (at_step g i d).1 (walked_at b m (at_step g i d).1 (course_behind g Back d e k place 0) (at_step g i d).0)) same
        (on (at_step g k d).0 (round_course (twin (at_step g k d)) place 0 None)
        (opens_back rotation (at_step g k d).1 d (entry_place g e) (around g d) (best_at g d k place false) (at_step g k d).0
        (dart_keeps rotation (twin (at_step g k d)) r.follows.there))
        (opens_round (twin (at_step g k d)) on_twin
        (reaches_on rotation s k d (start_there g history) reached) (front g j (at_step g (suc (k + 0)) d)) (way_back g d k)
        (λ q both. back_again g d k j (omega arith) q both ∙ ap (λ (i : ℕ). count q (front g j (at_step g (suc i) d))) same)
        (retraced_back g d k index (omega arith)) (omega (arith, length_back g d k index)) tells))
      where
        same : k ≡ k + 0
        same = omega arith
    settle_back j (suc w) left short total tells =
        on (at_step g (k + suc w) d).0 (course_behind g Back d e k place (suc w))
        (walks_on rotation (at_step g (k + suc w) d).1 d (entry_place g e) (around g d) (best_at g d k place false) Back (suc w) (at_step g (k + suc w) d).0 (omega arith))
        (back d e k place j (suc w) (record { rounded = r; left = left; some = omega arith; short = short; sum = total; tells = tells }))

  -- the dart before, found by turning back
  pub came_from : (y d : Dart) → In y (F g).all → (F g).next y ≡ d → y.0 ≡ rotation.before d.0 d.1
  came_from y d i e =
      sym (rotation.undone y.1 y.0 (rotation.symmetric y.1 y.0 ∙ dart_keeps rotation y i)) ∙ ap (λ (x : Dart). rotation.before x.0 x.1) e

  -- a whole round from d, on the face of e, did not come to t
  module _ (d e : Dart) (h : History g d e) (at : AtEntry g e) (reached : Joined m s d.0) (missed : (j : ℕ) → j < around g d → ¬ ((at_step g j d).1 ≡ t)) where
    misses : Misses g e
    misses x i q = let (j, l, f) = number_of g h x i in missed j l (ap (λ (y : Dart). y.1) f ∙ q)

    module _ (k : ℕ) (place : Place) (mark : Bool) (a : BestAt (F g) (spot m s t) e d (around g d) k place mark) where
      foremost : Foremost g e (at_step g k d)
      foremost = record {
        on_face = on_entry g h k a.early;
        far = a.far;
        top = λ y i q. let (j, l, f) = number_of g h y i in
            subst (λ (x : Dart). beyond m s t (at_step g k d) x ≡ false) f (a.top j l (subst (λ (x : Dart). beyond m s t e x ≡ true) (sym f) q));
      }

      to_best : Joined m s (at_step g k d).0
      to_best = reaches rotation s k d (start_there g h) reached

      past_best : Joined m s (at_step g k d).1
      past_best = reaches_on rotation s k d (start_there g h) reached

      -- a best that was walked both ways: t is out of reach
      both_ways : mark ≡ true → ¬ Joined m s t
      both_ways u joined =
          let (j, l, f) = a.marks u in
          twin_out g e (entry_there g h) joined misses (at_step g k d) foremost to_best past_best (subst (λ (x : Dart). In x (face (F g) e)) f (on_entry g h j l))

      rounded : mark ≡ false → Rounded g d e k place
      rounded u = record {
        history = h;
        reached = reached;
        index = a.early;
        there = a.there;
        follows = record {
          there = twin_in rotation (at_step g k d) (step_there g h k);
          grows = twin_to g e (at_step g k d) ∙ a.far;
          leaves = λ i. let (j, l, f) = number_of g h (twin (at_step g k d)) i in a.bare u j l f;
          best = λ x i p q. true≢false (sym q ∙ twin_from g (at_step g k d) x ∙ foremost.top x i p);
        };
        at = next_entry g e (entry_there g h) misses (at_step g k d) foremost to_best past_best;
      }

    -- with no best, t is out of reach
    no_crossing : ((j : ℕ) → j < around g d → beyond m s t e (at_step g j d) ≡ false) → ¬ Joined m s t
    no_crossing none joined =
        let (x, i, p) = has_crossing g e (entry_there g h) joined misses at in
        let (j, l, f) = number_of g h x i in
        true≢false (sym p ∙ ap (beyond m s t e) (sym f) ∙ none j l)

    -- STEP 3, at the start of d
    pub closing : (n : ℕ) (trail : List Dart) → n ≡ spent g h + around g d → Tells g trail (front g (around g d) d) [] h → (o : Option Best) → BestIs (F g) (spot m s t) e d (around g d) o
        → Outcome n trail d.0 (closed_at b m d.0 (round_at g d e (around g d) o) d.1 o)
    unfolding rounded
    closing n trail total tells None (nothing none) =
        over Unreachable (round_at g d e (around g d) None) refl (inr refl) (no_crossing none)
        (at_most_four g h trail (around g d) (omega arith) [] (λ q. omega arith) tells)
    closing n trail total tells (Some best) (something k place true a) =
        over Unreachable (round_at g d e (around g d) (Some (best_at g d k place true))) refl (inr refl) (both_ways k place true a refl)
        (at_most_four g h trail (around g d) (omega arith) [] (λ q. omega arith) tells)
    closing n trail total tells (Some best) (something k place false a) = shorter (dec_le k (around g d - 1 - k))
      where
        start : n ≡ spent g h + around g d + 0
        start = omega arith

        whole : k < around g d → suc (k + (around g d - 1 - k)) ≡ around g d
        whole l = omega arith

        full : k < around g d → suc (k + (around g d - 1 - k)) + 0 ≡ around g d
        full l = omega arith

        before_d : (F g).next (at_step g (k + (around g d - 1 - k)) d) ≡ d
        before_d = sym (steps_next (F g).next (k + (around g d - 1 - k)) d) ∙ ap (λ (i : ℕ). at_step g i d) (whole a.early) ∙ face_closed (F g) d (start_there g h)

        shorter : Dec (k ≤ around g d - 1 - k)
            → Outcome n trail d.0 (closed_at b m d.0 (round_at g d e (around g d) (Some (best_at g d k place false))) d.1 (Some (best_at g d k place false)))
        shorter (yes short) =
            rename (closed_ahead rotation d.0 d (entry_place g e) (around g d) (best_at g d k place false) d.1 refl short)
            (settle_ahead d e k place (rounded k place false a refl) n trail 0 k (omega arith) (omega (arith, a.early)) start tells)
        shorter (no long) =
            rename (closed_back rotation d.0 d (entry_place g e) (around g d) (best_at g d k place false) d.1 refl (omega arith) (dart_keeps rotation d (start_there g h)))
            (subst₂ (λ (v u : ℕ). Outcome n trail v (walked_at b m v (course_behind g Back d e k place (around g d - 1 - k)) u))
            (ap (λ (x : Dart). x.0) before_d) (came_from (at_step g (k + (around g d - 1 - k)) d) d (step_there g h (k + (around g d - 1 - k))) before_d)
            (settle_back d e k place (rounded k place false a refl) n trail 0 (around g d - 1 - k) (full a.early) (omega (arith, a.early)) start tells))
