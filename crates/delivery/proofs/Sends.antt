-- What a send makes of a packet under way, case by case, over a kept graph with a rotation
use Rattle.std.proofs.Common.{◌≡◌, ℕ, suc, ◌+◌, ◌-◌, ◌<◌, ◌≤◌, Bool, true, false, cond, ◌&&◌, eqb, leb, List, Some, None, Option, sym, refl, ap, ◌∙◌, ap₂, arith, lt-ltb, eq-eqb, ne_eqb, eqb-true, le-leb}
use borrow.Author.Tests.{lt-leb}
use Rattle.plane.specs.Plane.{way}
use Rattle.order.specs.declared.Place.{Place}
use Rattle.order.specs.declared.Sense.TheVariants.{Clockwise, Counter}
use Rattle.order.specs.declared.Start.TheVariants.{FullTurn}
use Rattle.floor.specs.declared.node.Node.{Node}
use Rattle.floor.specs.Meaning.{Meaning, neighbours}
use Rattle.floor.specs.Planar.{Blocks}
use Rattle.kept.specs.Kept.{first_round}
use Rattle.face.specs.declared.record.Best.{Best}
use Rattle.face.specs.declared.record.Course.{Course}
use Rattle.face.specs.declared.record.Record.{Record}
use Rattle.face.specs.declared.record.Phase.{Phase}
use Rattle.face.specs.declared.record.Phase.TheVariants.{Ahead, Back}
use Rattle.face.specs.declared.record.End.{End}
use Rattle.face.specs.declared.record.End.TheVariants.{UnderWay, Delivered, Unreachable}
use Rattle.face.specs.Crossing.{crossing}
use Rattle.face.specs.Packet.{link_of, more, best_after, counted, is_link, Verdict, GoesOn, Ends, on_with, turning, opens, reopened, walked, closed, arrived, verdict, under, received, send}
use Rattle.orbit.proofs.Darts.{Dart}
use Rattle.delivery.proofs.Ground.{nd, pt, near, keeps, spot, Rotation}
use Rattle.delivery.proofs.BestSoFar.{round_course}

-- ---- records under way and ended

abbrev pub going : Meaning → ℕ → ℕ → Dart → Course → ℕ → Record
going m s t x c n = record { source = nd m s; target = nd m t; holder = x.0; hand = Some (link_of x.0 x.1); course = c; total = n; end = UnderWay }

abbrev pub gone : Meaning → ℕ → ℕ → ℕ → End → Course → ℕ → Record
gone m s t v e c n = record { source = nd m s; target = nd m t; holder = v; hand = None; course = c; total = n; end = e }

-- behind a round of n links from d, with j sends to walk
abbrev pub walk_course : Phase → Dart → Place → ℕ → Best → ℕ → Course
walk_course phase d place n best j = record { phase = phase; first = Some (link_of d.0 d.1); sends = n; entry = place; best = Some best; walk = j }

-- at v, with its kept neighbours
abbrev pub walked_at : Blocks → Meaning → ℕ → Course → ℕ → Verdict
walked_at b m v c w = walked (nd m v) (near b m v) c w

abbrev pub closed_at : Blocks → Meaning → ℕ → Course → ℕ → Option Best → Verdict
closed_at b m v c w best = closed (nd m v) (near b m v) c w best

pub more_is : (n : ℕ) → n < 65535 → more n ≡ suc n
more_is n h = ap (λ (t : Bool). cond t (n + 1) n) (lt-ltb n 65535 h) ∙ omega arith

-- the first link is recognised
pub first_again : (x d : Dart) → x ≡ d → is_link (Some (link_of d.0 d.1)) x.0 x.1 ≡ true
first_again x d e = ap₂ ◌&&◌ (eq-eqb d.0 x.0 (ap (λ (y : Dart). y.0) (sym e))) (eq-eqb d.1 x.1 (ap (λ (y : Dart). y.1) (sym e)))

pub not_first : (x d : Dart) → ¬ (x ≡ d) → is_link (Some (link_of d.0 d.1)) x.0 x.1 ≡ false
not_first x d n = go (eqb d.0 x.0) refl (eqb d.1 x.1) refl
  where
    go : (a : Bool) → eqb d.0 x.0 ≡ a → (c : Bool) → eqb d.1 x.1 ≡ c → eqb d.0 x.0 && eqb d.1 x.1 ≡ false
    go false e c f = ap (λ (u : Bool). u && eqb d.1 x.1) e
    go true e false f = ap₂ ◌&&◌ e f
    go true e true f = absurd (n (λ i. (sym (eqb-true d.0 x.0 e) i, sym (eqb-true d.1 x.1 f) i)))

module _ {b : Blocks} {m : Meaning} (R : Rotation b m) where
  open R use {after, before}

  -- at v, from its kept neighbour u
  pub turn_after : (v u : ℕ) → keeps b m v u ≡ true → (go : Node → Node → Verdict) → turning (nd m v) (near b m v) Clockwise u go ≡ go (nd m u) (nd m (after v u))
  turn_after v u k go =
      ap (on_with (λ (un : Node). on_with (go un) (first_round Clockwise FullTurn (pt m v) (way (pt m v) un.point) (near b m v)))) (R.known_is v u k)
      ∙ ap (on_with (go (nd m u))) (R.first_after v u k)

  pub turn_before : (v u : ℕ) → keeps b m v u ≡ true → (go : Node → Node → Verdict) → turning (nd m v) (near b m v) Counter u go ≡ go (nd m u) (nd m (before v u))
  turn_before v u k go =
      ap (on_with (λ (un : Node). on_with (go un) (first_round Counter FullTurn (pt m v) (way (pt m v) un.point) (near b m v)))) (R.known_is v u k)
      ∙ ap (on_with (go (nd m u))) (R.first_before v u k)

  -- at v, behind a round of l links from d, with j sends to walk: on, or into a new round
  module _ (v : ℕ) (d : Dart) (place : Place) (l : ℕ) (best : Best) where
    pub walks_on : (phase : Phase) (j w : ℕ) → 0 < j → walked_at b m v (walk_course phase d place l best j) w ≡ GoesOn w (walk_course phase d place l best j)
    walks_on phase j w h =
        ap (λ (u : Bool). cond u (reopened (nd m v) (near b m v) phase best) (GoesOn w (walk_course phase d place l best j))) (ne_eqb j 0 (λ e. omega arith))

    pub opens_ahead : (w : ℕ) → keeps b m v best.link.to ≡ true
        → walked_at b m v (walk_course Ahead d place l best 0) w ≡ GoesOn (after v best.link.to) (round_course (v, after v best.link.to) best.place 0 None)
    opens_ahead w k = turn_after v best.link.to k (λ _ x. opens (nd m v) (near b m v) best x)

    pub opens_back : (w : ℕ) → keeps b m v best.link.from ≡ true
        → walked_at b m v (walk_course Back d place l best 0) w ≡ GoesOn best.link.from (round_course (v, best.link.from) best.place 0 None)
    opens_back w k = ap (on_with (opens (nd m v) (near b m v) best)) (R.known_is v best.link.from k)

    -- a closed round whose first link goes to w, and whose best is not marked
    module _ (w : ℕ) (bare : best.marked ≡ false) where
      closes : (u : Bool) → leb best.index (l - 1 - best.index) ≡ u
          → closed_at b m v (round_course d place l (Some best)) w (Some best)
          ≡ cond u (walked_at b m v (walk_course Ahead d place l best best.index) w)
          (turning (nd m v) (near b m v) Counter w λ _ x. walked_at b m v (walk_course Back d place l best (l - 1 - best.index)) x.number)
      closes u e =
          ap₂ (λ (y z : Bool). cond y (Ends Unreachable (round_course d place l (Some best)))
          (cond z (walked_at b m v (walk_course Ahead d place l best best.index) w)
          (turning (nd m v) (near b m v) Counter w λ _ x. walked_at b m v (walk_course Back d place l best (l - 1 - best.index)) x.number))) bare e

      pub closed_ahead : best.index ≤ l - 1 - best.index
          → closed_at b m v (round_course d place l (Some best)) w (Some best) ≡ walked_at b m v (walk_course Ahead d place l best best.index) w
      closed_ahead h = closes true (le-leb best.index (l - 1 - best.index) h)

      pub closed_back : l - 1 - best.index < best.index → keeps b m v w ≡ true
          → closed_at b m v (round_course d place l (Some best)) w (Some best) ≡ walked_at b m v (walk_course Back d place l best (l - 1 - best.index)) (before v w)
      closed_back h k =
          closes false (lt-leb best.index (l - 1 - best.index) h)
          ∙ turn_before v w k (λ _ x. walked_at b m v (walk_course Back d place l best (l - 1 - best.index)) x.number)

  module _ (s t : ℕ) where
    -- the verdict on a packet that comes along x
    abbrev pub judged : Dart → Course → ℕ → Verdict
    judged x c n = verdict (nd m x.1) (near b m x.1) (going m s t x c n) x.0

    pub sent : (x : Dart) → keeps b m x.0 x.1 ≡ true → (c : Course) (n : ℕ) → send b m (going m s t x c n) ≡ under (going m s t x c n) x.1 (judged x c n)
    sent x k c n = ap (λ (o : Option Node). received b (going m s t x c n) (link_of x.0 x.1) o (neighbours m x.1)) (R.is_node x.0 x.1 k)

    module _ (x : Dart) (k : keeps b m x.0 x.1 ≡ true) (n : ℕ) (small : n < 65535) where
      abbrev under_it : Course → Verdict → Record
      under_it c w = under (going m s t x c n) x.1 w

      pub goes_on : (c : Course) (w : ℕ) (c' : Course) → judged x c n ≡ GoesOn w c' → send b m (going m s t x c n) ≡ going m s t (x.1, w) c' (suc n)
      goes_on c w c' e = sent x k c n ∙ ap (under_it c) e ∙ ap (going m s t (x.1, w) c') (more_is n small)

      pub ends : (c : Course) (e : End) (c' : Course) → judged x c n ≡ Ends e c' → send b m (going m s t x c n) ≡ gone m s t x.1 e c' (suc n)
      ends c e c' h = sent x k c n ∙ ap (under_it c) h ∙ ap (gone m s t x.1 e c') (more_is n small)

      -- step 1
      pub sent_home : (c : Course) → x.1 ≡ t → send b m (going m s t x c n) ≡ gone m s t x.1 Delivered c (suc n)
      sent_home c e = ends c Delivered c (ap (λ (u : Bool). cond u (Ends Delivered c) (arrived (nd m x.1) (near b m x.1) (going m s t x c n) x.0 c c.phase)) (eq-eqb x.1 t e))

      module _ (other : ¬ (x.1 ≡ t)) where
        abbrev here : Node
        here = nd m x.1

        abbrev nears : List Node
        nears = near b m x.1

        back : keeps b m x.1 x.0 ≡ true
        back = R.symmetric x.1 x.0 ∙ k

        arrives : (c : Course) → judged x c n ≡ arrived here nears (going m s t x c n) x.0 c c.phase
        arrives c = ap (λ (u : Bool). cond u (Ends Delivered c) (arrived here nears (going m s t x c n) x.0 c c.phase)) (ne_eqb x.1 t other)

        -- step 4
        pub judged_ahead : (d : Dart) (place : Place) (l : ℕ) (best : Best) (j : ℕ)
            → judged x (walk_course Ahead d place l best j) n ≡ walked_at b m x.1 (walk_course Ahead d place l best (j - 1)) (after x.1 x.0)
        judged_ahead d place l best j =
            arrives (walk_course Ahead d place l best j)
            ∙ turn_after x.1 x.0 back (λ _ w. walked_at b m x.1 (walk_course Ahead d place l best (j - 1)) w.number)

        pub judged_back : (d : Dart) (place : Place) (l : ℕ) (best : Best) (j : ℕ)
            → judged x (walk_course Back d place l best j) n ≡ walked_at b m x.1 (walk_course Back d place l best (j - 1)) (before x.1 x.0)
        judged_back d place l best j =
            arrives (walk_course Back d place l best j)
            ∙ turn_before x.1 x.0 back (λ _ w. walked_at b m x.1 (walk_course Back d place l best (j - 1)) w.number)

        -- steps 2 and 3
        module _ (d : Dart) (place : Place) (i : ℕ) (few : i < 65535) (best : Option Best) where
          -- the best, with the dart x counted
          abbrev pub best_then : Option Best
          best_then = best_after (round_course d place i best) (link_of x.0 x.1) (spot m s t x)

          turned : Course → Bool → Verdict
          turned c u = cond u (closed_at b m x.1 c (after x.1 x.0) c.best) (GoesOn (after x.1 x.0) c)

          judged_turned : (u : Bool) → is_link (Some (link_of d.0 d.1)) x.1 (after x.1 x.0) ≡ u
              → judged x (round_course d place i best) n ≡ turned (round_course d place (suc i) best_then) u
          unfolding turned
          judged_turned u e =
              arrives (round_course d place i best)
              ∙ turn_after x.1 x.0 back (λ un w.
              let c' = counted (round_course d place i best) (link_of x.0 x.1) (crossing (nd m s) (nd m t) un here) in
              cond (is_link (Some (link_of d.0 d.1)) x.1 w.number) (closed_at b m x.1 c' w.number c'.best) (GoesOn w.number c'))
              ∙ ap₂ turned (ap (λ (h : ℕ). round_course d place h best_then) (more_is i few)) e

          pub judged_round : ¬ ((x.1, after x.1 x.0) ≡ d) → judged x (round_course d place i best) n ≡ GoesOn (after x.1 x.0) (round_course d place (suc i) best_then)
          unfolding turned
          judged_round no_end = judged_turned false (not_first (x.1, after x.1 x.0) d no_end)

          pub judged_closing : (x.1, after x.1 x.0) ≡ d → judged x (round_course d place i best) n ≡ closed_at b m x.1 (round_course d place (suc i) best_then) (after x.1 x.0) best_then
          unfolding turned
          judged_closing e = judged_turned true (first_again (x.1, after x.1 x.0) d e)
