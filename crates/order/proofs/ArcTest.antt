-- Which of two is sooner round a point is which is inside the arc up to the other
use Rattle.std.proofs.Common.{◌≡◌, Bool, true, false, cond, not, ◌&&◌, ◌≢◌, ◌⊎◌, List, ℤ, pos, neg_ℤ, ◌<ℤ◌, Some, sym, refl, ap, ◌∙◌, subst, inl, inr, arith}
use borrow.Author.Differences.{ints, false_is_lt}
use Rattle.plane.specs.declared.Point.{Point}
use Rattle.plane.specs.Plane.{Vector, way, cross, dot, turn, positive}
use Rattle.plane.proofs.Vectors.{position}
use Rattle.plane.proofs.Sites.{Site, node, L, most, inside}
use Rattle.plane.proofs.Determinants.{det_turn}
use Rattle.plane.proofs.General.{Off}
use Rattle.plane.proofs.Arcs.{insideᶜ, mirror, not_first, not_last, full_turn}
use Rattle.order.specs.declared.Sense.{Sense}
use Rattle.order.specs.declared.Sense.TheVariants.{Clockwise, Counter}
use Rattle.order.specs.declared.Start.{Start}
use Rattle.order.specs.declared.Start.TheVariants.{NoTurn, FullTurn}
use Rattle.order.specs.Directions.{on_from, sector, sooner, start_sector}
use Rattle.order.specs.Foremost.{In, First, foremost}
use Rattle.order.specs.Arcs.{opposite, soon, inside_arc, first_from, Round, ArcLaws}
use Rattle.order.proofs.Firsts.{Lawful, lawful_by, foremost_first, foremost_only, first_in}
use Rattle.order.specs.Ranks.{ranked}
use Rattle.order.specs.Turning.{is_positive}
use Rattle.order.proofs.Sooner.{on_back, lawful, level, same?, apart, points_sooner}

-- ---- by the signs of three products
-- one way or the other, where the two are not along one line
other_way : (z w : ℤ) → w ≡ neg_ℤ z → z ≢ pos 0 → positive w ≡ not (positive z)
other_way z w e n = go (positive z) refl (positive w) refl
  where
    go : (s : Bool) → positive z ≡ s → (t : Bool) → positive w ≡ t → t ≡ not s
    go true h true k = absurd (omega (arith, ints))
    go true h false k = refl
    go false h true k = refl
    go false h false k = absurd (n (omega (arith, ints)))

turned : (sense : Sense) (d e : Vector) → on_from sense d e ≢ pos 0 → soon sense e d ≡ not (soon sense d e)
turned sense d e n = other_way (on_from sense d e) (on_from sense e d) (on_back sense d e) n

none : (z w : ℤ) → w ≡ neg_ℤ z → z ≡ w → positive z ≡ false
none z w e f = sym (false_is_lt (pos 0) z (omega (arith, ints)))

-- no direction is on from itself
not_on : (sense : Sense) (d : Vector) → soon sense d d ≡ false
not_on sense d = none (on_from sense d d) (on_from sense d d) (on_back sense d d) refl

module _ (sense : Sense) (counts : Start) (s : Vector) where
  half : (d : Vector) → on_from sense s d ≢ pos 0 → sector sense counts s d ≡ cond (soon sense s d) 1 3
  half d n = ap (λ b. cond (soon sense s d) 1 (cond b 3 (cond (positive (dot s d)) (start_sector counts) 2))) (turned sense s d n) ∙ go (soon sense s d)
    where
      go : (a : Bool) → cond a 1 (cond (not a) 3 (cond (positive (dot s d)) (start_sector counts) 2)) ≡ cond a 1 3
      go true = refl
      go false = refl

  start : pos 0 <ℤ dot s s → sector sense counts s s ≡ start_sector counts
  start far = (λ i. cond (not_on sense s i) 1 (cond (not_on sense s i) 3 (cond (is_positive (dot s s) far i) (start_sector counts) 2)))

  pub by_signs : (d e : Vector) → on_from sense s d ≢ pos 0 → on_from sense s e ≢ pos 0 → sooner sense counts s d e ≡ most (soon sense s d) (soon sense d e) (not (soon sense s e))
  by_signs d e n m = (λ i. ranked (half d n i) (half e m i) (soon sense d e)) ∙ go (soon sense s d) (soon sense s e) (soon sense d e)
    where
      go : (a b t : Bool) → ranked (cond a 1 3) (cond b 1 3) t ≡ most a t (not b)
      go true true true = refl
      go true true false = refl
      go true false true = refl
      go true false false = refl
      go false true true = refl
      go false true false = refl
      go false false true = refl
      go false false false = refl

module _ (sense : Sense) (s d : Vector) (far : pos 0 <ℤ dot s s) (n : on_from sense s d ≢ pos 0) where
  pub last : sooner sense FullTurn s d s ≡ true
  last = (λ i. ranked (half sense FullTurn s d n i) (start sense FullTurn s far i) (soon sense d s)) ∙ go (soon sense s d) (soon sense d s)
    where
      go : (a t : Bool) → ranked (cond a 1 3) 4 t ≡ true
      go true t = refl
      go false t = refl

  pub not_before_last : sooner sense FullTurn s s d ≡ false
  not_before_last = (λ i. ranked (start sense FullTurn s far i) (half sense FullTurn s d n i) (soon sense s d)) ∙ go (soon sense s d) (soon sense s d)
    where
      go : (a t : Bool) → ranked 4 (cond a 1 3) t ≡ false
      go true t = refl
      go false t = refl

  pub first : sooner sense NoTurn s s d ≡ true
  first = (λ i. ranked (start sense NoTurn s far i) (half sense NoTurn s d n i) (soon sense s d)) ∙ go (soon sense s d) (soon sense s d)
    where
      go : (a t : Bool) → ranked 0 (cond a 1 3) t ≡ true
      go true t = refl
      go false t = refl

  pub none_before_first : sooner sense NoTurn s d s ≡ false
  none_before_first = (λ i. ranked (half sense NoTurn s d n i) (start sense NoTurn s far i) (soon sense d s)) ∙ go (soon sense s d) (soon sense d s)
    where
      go : (a t : Bool) → ranked (cond a 1 3) 0 t ≡ false
      go true t = refl
      go false t = refl

-- ---- seen from a point v
-- off v's line through u in the words of turns, for either sense
off_turn : (sense : Sense) (v u x : Point) → turn v u x ≢ pos 0 → on_from sense (way v u) (way v x) ≢ pos 0
off_turn Clockwise v u x n e = n (flip (turn v u x) (turn v x u) (on_back Clockwise (way v u) (way v x)) e)
  where
    flip : (z w : ℤ) → z ≡ neg_ℤ w → w ≡ pos 0 → z ≡ pos 0
    flip z w e f = omega (arith, ints)
off_turn Counter v u x n e = n e

abbrev pub site : Point → Site
site p = node (position p)

-- strictly inside the arc, by the sense
abbrev pub arc : Sense → Site → Site → Site → Site → Bool
arc Clockwise = inside
arc Counter = insideᶜ

left_is : (v x y : Point) → L (site v) (site x) (site y) ≡ positive (turn v x y)
unfolding L
left_is v x y = ap positive (det_turn (position v) (position x) (position y))

pub off_site : (v u x : Point) → Off (site v) (site u) (site x) → turn v u x ≢ pos 0
off_site v u x n e = n (det_turn (position v) (position u) (position x) ∙ e)

pub site_off : (v u x : Point) → turn v u x ≢ pos 0 → Off (site v) (site u) (site x)
site_off v u x n e = n (sym (det_turn (position v) (position u) (position x)) ∙ e)

arc_signs : (sense : Sense) (v u x w : Point) → arc sense (site v) (site u) (site x) (site w)
    ≡ most (soon sense (way v u) (way v x)) (soon sense (way v x) (way v w)) (not (soon sense (way v u) (way v w)))
arc_signs Clockwise v u x w = λ i. most (left_is v x u i) (left_is v w x i) (not (left_is v w u i))
arc_signs Counter v u x w = λ i. most (left_is v u x i) (left_is v x w i) (not (left_is v u w i))

arc_back : (sense : Sense) (v u x w : Site) → arc (opposite sense) v w x u ≡ arc sense v u x w
arc_back Clockwise v u x w = mirror v u x w
arc_back Counter v u x w = sym (mirror v w x u)

arc_first : (sense : Sense) (v u w : Site) → arc sense v u u w ≡ false
arc_first Clockwise v u w = not_first v u w
arc_first Counter v u w = mirror v w u u ∙ not_last v w u

arc_full : (sense : Sense) (v u x : Site) → Off v u x → arc sense v u x u ≡ true
arc_full Clockwise v u x n = full_turn v u x n
arc_full Counter v u x n = mirror v u x u ∙ full_turn v u x n

-- two different points, neither on the line through v and the start
pub arc_between : (sense : Sense) (counts : Start) (v u x w : Point) → Off (site v) (site u) (site x) → Off (site v) (site u) (site w)
    → sooner sense counts (way v u) (way v x) (way v w) ≡ arc sense (site v) (site u) (site x) (site w)
arc_between sense counts v u x w nx nw =
    by_signs sense counts (way v u) (way v x) (way v w) (off_turn sense v u x (off_site v u x nx)) (off_turn sense v u w (off_site v u w nw)) ∙ sym (arc_signs sense v u x w)

-- THE ARC TEST: the start counted as a full turn; x and w may be the start or one another
pub arc_test : (sense : Sense) (v u x w : Point) → u ≢ v → (x ≢ u → Off (site v) (site u) (site x)) → (w ≢ u → Off (site v) (site u) (site w))
    → sooner sense FullTurn (way v u) (way v x) (way v w) ≡ arc sense (site v) (site u) (site x) (site w)
arc_test sense v u x w away nx nw = go (same? u x) (same? u w)
  where
    far : pos 0 <ℤ dot (way v u) (way v u)
    far = apart v u away

    Test : Point → Point → Type 0
    Test x w = sooner sense FullTurn (way v u) (way v x) (way v w) ≡ arc sense (site v) (site u) (site x) (site w)

    go : (x ≡ u) ⊎ (x ≢ u) → (w ≡ u) ⊎ (w ≢ u) → Test x w
    go (inl e) (inl f) = subst (λ (y : Point). Test y w) (sym e) (subst (λ (y : Point). Test u y) (sym f)
        ((lawful sense FullTurn (way v u) far).irreflexive (way v u) ∙ sym (arc_first sense (site v) (site u) (site u))))
    go (inl e) (inr m) = subst (λ (y : Point). Test y w) (sym e)
        (not_before_last sense (way v u) (way v w) far (off_turn sense v u w (off_site v u w (nw m))) ∙ sym (arc_first sense (site v) (site u) (site w)))
    go (inr n) (inl f) = subst (λ (y : Point). Test x y) (sym f)
        (last sense (way v u) (way v x) far (off_turn sense v u x (off_site v u x (nx n))) ∙ sym (arc_full sense (site v) (site u) (site x) (nx n)))
    go (inr n) (inr m) = arc_between sense FullTurn v u x w (nx n) (nw m)

-- the start counted as no turn: it is foremost
pub start_foremost : (sense : Sense) (v u w : Point) → u ≢ v → Off (site v) (site u) (site w) → sooner sense NoTurn (way v u) (way v u) (way v w) ≡ true
start_foremost sense v u w away n = first sense (way v u) (way v w) (apart v u away) (off_turn sense v u w (off_site v u w n))

pub none_before_start : (sense : Sense) (v u x : Point) → u ≢ v → (x ≢ u → Off (site v) (site u) (site x)) → sooner sense NoTurn (way v u) (way v x) (way v u) ≡ false
none_before_start sense v u x away n = go (same? u x)
  where
    far : pos 0 <ℤ dot (way v u) (way v u)
    far = apart v u away

    go : (x ≡ u) ⊎ (x ≢ u) → sooner sense NoTurn (way v u) (way v x) (way v u) ≡ false
    go (inl e) = subst (λ (y : Point). sooner sense NoTurn (way v u) (way v y) (way v u) ≡ false) (sym e) ((lawful sense NoTurn (way v u) far).irreflexive (way v u))
    go (inr m) = none_before_first sense (way v u) (way v x) far (off_turn sense v u x (off_site v u x (n m)))

-- ---- the two senses undo each other
-- the order round v from u
pub round_lawful : (sense : Sense) (counts : Start) (v u : Point) → u ≢ v → Lawful (λ (x y : Point). sooner sense counts (way v u) (way v x) (way v y)) (λ _. Unit {0})
round_lawful sense counts v u away = lawful_by (λ (x : Point). way v x) (lawful sense counts (way v u) (apart v u away))

pub undo : (sense : Sense) (v : Point) (xs : List Point) → Round v xs → (u w : Point) → In u xs
    → foremost (first_from sense v u) xs ≡ Some w → foremost (first_from (opposite sense) v w) xs ≡ Some u
undo sense v xs r u w iu e =
    foremost_only (first_from (opposite sense) v w) (λ _. Unit {0}) (round_lawful (opposite sense) FullTurn v w (r.away w iw)) xs u (λ y i. tt) iu none_sooner sole
  where
    chosen : First (first_from sense v u) xs w
    chosen = foremost_first (first_from sense v u) (λ _. Unit {0}) (round_lawful sense FullTurn v u (r.away u iu)) xs w (λ y i. tt) e

    iw : In w xs
    iw = first_in chosen

    off : (x y : Point) → In x xs → In y xs → y ≢ x → Off (site v) (site x) (site y)
    off x y i j n = site_off v x y (r.fanned x y i j (λ e. n (sym e)))

    none_sooner : (y : Point) → In y xs → first_from (opposite sense) v w y u ≡ false
    none_sooner y i = arc_test (opposite sense) v w y u (r.away w iw) (off w y iw i) (off w u iw iu) ∙ arc_back sense (site v) (site u) (site y) (site w)
        ∙ sym (arc_test sense v u y w (r.away u iu) (off u y iu i) (off u w iu iw)) ∙ chosen.none_before y i

    sole : (y : Point) → In y xs → first_from (opposite sense) v w y u ≡ false → first_from (opposite sense) v w u y ≡ false → y ≡ u
    sole y i h k = go (same? u y)
      where
        go : (y ≡ u) ⊎ (y ≢ u) → y ≡ u
        go (inl p) = p
        go (inr n) = absurd (off_turn (opposite sense) v y u (r.fanned y u i iu n) (level (opposite sense) FullTurn (way v w) (way v y) (way v u) h k))

-- ---- all of it
pub arc_laws : ArcLaws
arc_laws =
    record {
      compared = points_sooner;
      arcs = arcs;
      start_last = λ sense v u x away n. (last sense (way v u) (way v x) (apart v u away) (off_turn sense v u x n), not_before_last sense (way v u) (way v x) (apart v u away) (off_turn sense v u x n));
      start_first = λ sense v u x away n. (first sense (way v u) (way v x) (apart v u away) (off_turn sense v u x n), none_before_first sense (way v u) (way v x) (apart v u away) (off_turn sense v u x n));
      either_end = either_end;
      undo = undo;
    }
  where
    table : (a t b : Bool) → most a t (not b) ≡ cond b (a && t) (not (not t && not a))
    table true true true = refl
    table true true false = refl
    table true false true = refl
    table true false false = refl
    table false true true = refl
    table false true false = refl
    table false false true = refl
    table false false false = refl

    arcs : (sense : Sense) (counts : Start) (v u x y : Point) → turn v u x ≢ pos 0 → turn v x y ≢ pos 0 → turn v u y ≢ pos 0
        → sooner sense counts (way v u) (way v x) (way v y) ≡ inside_arc sense (way v u) (way v x) (way v y)
    arcs sense counts v u x y ux xy uy =
        by_signs sense counts (way v u) (way v x) (way v y) (off_turn sense v u x ux) (off_turn sense v u y uy)
        ∙ table (soon sense (way v u) (way v x)) (soon sense (way v x) (way v y)) (soon sense (way v u) (way v y))
        ∙ (λ i. cond (soon sense (way v u) (way v y)) (soon sense (way v u) (way v x) && soon sense (way v x) (way v y))
        (not (sym (turned sense (way v x) (way v y) (off_turn sense v x y xy)) i && sym (turned sense (way v u) (way v x) (off_turn sense v u x ux)) i)))

    swap : (a b : Bool) → (a && b) ≡ (b && a)
    swap true true = refl
    swap true false = refl
    swap false true = refl
    swap false false = refl

    either_end : (sense : Sense) (p d q : Vector) → inside_arc (opposite sense) q d p ≡ inside_arc sense p d q
    either_end Clockwise p d q = λ i. cond (positive (cross q p)) (swap (positive (cross q d)) (positive (cross d p)) i) (not (swap (positive (cross p d)) (positive (cross d q)) i))
    either_end Counter p d q = λ i. cond (positive (cross p q)) (swap (positive (cross d q)) (positive (cross p d)) i) (not (swap (positive (cross d p)) (positive (cross q d)) i))
