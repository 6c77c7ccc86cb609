-- The records that a packet can have after n sends: in a round, in a walk ahead, in a walk back, or ended
use Rattle.std.proofs.Common.{◌≡◌, ℕ, suc, ◌+◌, ◌*◌, ◌<◌, Bool, false, ◌⊎◌, List, [], Some, Option, refl, arith}
use Rattle.order.specs.declared.Place.{Place}
use Rattle.floor.specs.Meaning.{Meaning, Joined}
use Rattle.floor.specs.Planar.{Blocks}
use Rattle.kept.specs.Kept.{kept_links}
use Rattle.face.specs.declared.record.Best.{Best}
use Rattle.face.specs.declared.record.Course.{Course}
use Rattle.face.specs.declared.record.Record.{Record}
use Rattle.face.specs.declared.record.Phase.{Phase}
use Rattle.face.specs.declared.record.Phase.TheVariants.{Ahead, Back}
use Rattle.orbit.specs.Walks.{In}
use Rattle.orbit.proofs.Rounds.{Follows}
use Rattle.orbit.proofs.Darts.{Dart}
use Rattle.delivery.specs.Law.{HasEnded, RightEnd}
use Rattle.delivery.proofs.Ground.{twin, spot, or_source, Ground}
use Rattle.delivery.proofs.BestSoFar.{round_course, best_of, BestIs}
use Rattle.delivery.proofs.Sends.{going, walk_course}
use Rattle.delivery.proofs.Entry.{twin_in, Beyond, AtEntry}
use Rattle.delivery.proofs.Trail.{F, at_step, around, front, History, spent, step_there, way_ahead, way_back, retraced_ahead, retraced_back, length_ahead, length_back, round_below, walk_below, Tells, AtMostFour, at_most_four, front_light, rest_light}

module _ {b : Blocks} {m : Meaning} {s t : ℕ} (g : Ground b m s t) where
  abbrev pub entry_place : Dart → Place
  entry_place e = or_source (spot m s t e)

  -- the best, and the course of a round
  abbrev pub best_at : Dart → ℕ → Place → Bool → Best
  best_at d k place mark = best_of (F g) (spot m s t) d k place mark

  abbrev pub round_at : Dart → Dart → ℕ → Option Best → Course
  round_at d e i best = round_course d (entry_place e) i best

  -- a closed round from d, on the face of e, whose best, number k, was walked one way only
  pub record Rounded (d e : Dart) (k : ℕ) (place : Place) : Type 0 where
    pub history : History g d e
    pub reached : Joined m s d.0
    pub index : k < around g d
    pub there : spot m s t (at_step g k d) ≡ Some place
    pub follows : Follows (F g) (Beyond g) e (twin (at_step g k d))
    pub at : AtEntry g (twin (at_step g k d))

  -- the course of the walk behind it, with w sends to walk
  abbrev pub course_behind : Phase → Dart → Dart → ℕ → Place → ℕ → Course
  course_behind phase d e k place w = walk_course phase d (entry_place e) (around g d) (best_at d k place false) w

  -- n sends were made, along the darts of the trail, the latest first
  module _ (n : ℕ) (trail : List Dart) where
    -- i darts of a round from d, on the face of e, were sent, and it is not closed
    pub record InRound (d e : Dart) (i : ℕ) (best : Option Best) : Type 0 where
      pub history : History g d e
      pub at : AtEntry g e
      pub reached : Joined m s d.0
      pub early : i < around g d
      pub best_is : BestIs (F g) (spot m s t) e d i best
      pub missed : (j : ℕ) → j < i → ¬ ((at_step g j d).1 ≡ t)
      pub sum : n ≡ spent g history + i
      pub tells : Tells g trail (front g i d) [] history

    -- j darts of the closed round were sent again, and w are left
    pub record InAhead (d e : Dart) (k : ℕ) (place : Place) (j w : ℕ) : Type 0 where
      pub rounded : Rounded d e k place
      pub left : j + w ≡ k
      pub some : 0 < w
      pub short : 2 * k < around g d
      pub sum : n ≡ spent g rounded.history + around g d + j
      pub tells : Tells g trail (front g (around g d) d) (front g j d) rounded.history

    -- the twins of the last j darts of the closed round were sent, and w are left
    pub record InBack (d e : Dart) (k : ℕ) (place : Place) (j w : ℕ) : Type 0 where
      pub rounded : Rounded d e k place
      pub left : suc (k + w) + j ≡ around g d
      pub some : 0 < w
      pub short : 2 * (j + w) < around g d
      pub sum : n ≡ spent g rounded.history + around g d + j
      pub tells : Tells g trail (front g (around g d) d) (front g j (at_step g (suc (k + w)) d)) rounded.history

    pub data Legit : Record → Type 0 where
      rounding : (d e : Dart) (i : ℕ) (best : Option Best) → InRound d e i best → Legit (going m s t (at_step g i d) (round_at d e i best) n)
      ahead : (d e : Dart) (k : ℕ) (place : Place) (j w : ℕ) → InAhead d e k place j w → Legit (going m s t (at_step g j d) (course_behind Ahead d e k place w) n)
      back : (d e : Dart) (k : ℕ) (place : Place) (j w : ℕ) → InBack d e k place j w → Legit (going m s t (twin (at_step g (k + w) d)) (course_behind Back d e k place w) n)

    pub record Ended (r : Record) : Type 0 where
      pub has_ended : HasEnded r
      pub right : RightEnd m s t r.end
      pub total_is : r.total ≡ n
      pub seldom : AtMostFour g trail

    -- under way, or ended rightly
    abbrev pub Stands : Record → Type 0
    Stands r = Legit r ⊎ Ended r

    -- ---- under way: below 3·K, no link more than four times, and along a dart of the kept graph
    pub below : {r : Record} → Legit r → n < 3 * kept_links b m
    below (rounding d e i best u) = omega (arith, u.sum, round_below g u.history i u.early)
    below (ahead d e k place j w u) =
        omega (arith, u.sum, walk_below g u.rounded.history (way_ahead g d k) j (retraced_ahead g d k u.rounded.index u.short) (omega (arith, length_ahead g d k u.rounded.index)))
    below (back d e k place j w u) =
        omega (arith, u.sum, walk_below g u.rounded.history (way_back g d k) j (retraced_back g d k u.rounded.index (omega arith)) (omega (arith, length_back g d k u.rounded.index)))

    pub seldom_so_far : {r : Record} → Legit r → AtMostFour g trail
    seldom_so_far (rounding d e i best u) = at_most_four g u.history trail i (omega (arith, u.early)) [] (λ q. omega arith) u.tells
    seldom_so_far (ahead d e k place j w u) =
        at_most_four g u.rounded.history trail (around g d) (omega arith) (front g j d) (front_light g d j (omega arith)) u.tells
    seldom_so_far (back d e k place j w u) =
        at_most_four g u.rounded.history trail (around g d) (omega arith) (front g j (at_step g (suc (k + w)) d)) (rest_light g d (suc (k + w)) j u.left) u.tells

    pub in_hand : {r : Record} → Legit r → (x : Dart) × (c : Course) × In x (F g).all × (r ≡ going m s t x c n)
    in_hand (rounding d e i best u) = (at_step g i d, round_at d e i best, step_there g u.history i, refl)
    in_hand (ahead d e k place j w u) = (at_step g j d, course_behind Ahead d e k place w, step_there g u.rounded.history j, refl)
    in_hand (back d e k place j w u) =
        (twin (at_step g (k + w) d), course_behind Back d e k place w, twin_in g.rotation (at_step g (k + w) d) (step_there g u.rounded.history (k + w)), refl)
