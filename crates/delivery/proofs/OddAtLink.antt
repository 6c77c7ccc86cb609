-- Progress at a crossing link: a face with the dart from its left end to its right end crosses oddly often nearer to t
use Rattle.std.proofs.Common.{◌≡◌, ℕ, Bool, true, false, not, ◌&&◌, eqb, ℤ, pos, ◌+ℤ◌, ◌-ℤ◌, neg_ℤ, ◌<ℤ◌, Some, Option, sym, refl, ap, ◌∙◌, subst, true≢false, arith, eq-eqb, eqb-true}
use native.Mathlib.Decide.{ℕ_discrete}
use borrow.Author.Differences.{ints}
use borrow.Author.Tests.{apart_eqb}
use Rattle.plane.specs.Plane.{turn}
use Rattle.plane.proofs.Vectors.{Vector, position}
use Rattle.plane.proofs.Vectors as vectors
use Rattle.plane.proofs.Ring.{ring, add, sub, lit}
use Rattle.plane.proofs.Identities.{turnᵉ, A, B, C, D, env}
use Rattle.plane.proofs.Sites.{Site, far, place, L, xor, up, Sa, crossing}
use Rattle.plane.proofs.Sites as sites
use Rattle.plane.proofs.Signs.{St, weak, st_cycle, st_swap, levels, mixed3}
use Rattle.plane.proofs.SignTable.{and_first, and_second}
use Rattle.plane.proofs.General.{Off}
use Rattle.plane.proofs.Strip.{left_sign, prq}
use Rattle.plane.proofs.Discs.{turn_sign}
use Rattle.plane.proofs.Nearer.{size_pos, size_neg}
use Rattle.plane.proofs.Between.{Between}
use Rattle.plane.proofs.Direction.{clear_of, clear_s, clear_t}
use Rattle.plane.proofs.EntryDarts.{meeting, entry_law}
use Rattle.order.specs.declared.Place.{Place}
use Rattle.floor.specs.Meaning.{Meaning, Serving, Joined}
use Rattle.floor.specs.Planar.{Blocks, Lawful}
use Rattle.kept.specs.Laws.{strictly_cross}
use Rattle.kept.proofs.Near.{both, pair}
use Rattle.kept.proofs.Crossing.{cross_off, cross_sites, cross_back, size_back}
use Rattle.orbit.specs.Walks.{In, ◌⊕◌, parity}
use Rattle.orbit.proofs.Parity.{parity_one}
use Rattle.orbit.proofs.Orbit.{face, face_apart, face_inside}
use Rattle.orbit.proofs.FaceParity.{face_law_between}
use Rattle.orbit.proofs.Progress.{progress_at_link}
use Rattle.orbit.proofs.Darts.{Dart}
use Rattle.delivery.specs.Law.{serving}
use Rattle.delivery.proofs.Ground.{pt, keeps, beyond, nearer_than, or_source, spot, twin}
use Rattle.delivery.proofs.Nodes.{S, keeps_on, keeps_to, keeps_apart, back, no_crossing}
use Rattle.delivery.proofs.Spots.{Four, spot_some}
use Rattle.delivery.proofs.Floors.{Up, spot_of, same_node, same_is, heading, floor, clear, on_side, t_low}
use Rattle.delivery.proofs.Winding.{F, in_all, hits, turned, head, tail, W, joined_winds, link_winds, corner, xor_is, regroup}
use Rattle.delivery.proofs.Counting.{counted}
use Rattle.delivery.proofs.OddAtSource.{none_from}

-- ---- the place where a link with its lower end a and its higher end c crosses s t
around : (a b c d : Vector) → (vectors.turn a b d -ℤ vectors.turn a b c) +ℤ (vectors.turn c d b -ℤ vectors.turn c d a) ≡ pos 0
around a b c d = ring (env a b c d) (add (sub (turnᵉ A B D) (turnᵉ A B C)) (sub (turnᵉ C D B) (turnᵉ C D A))) (lit (pos 0)) tt

-- y above z, of opposite signs
signs : (p q : Bool) (w x y z : ℤ) → (z -ℤ y) +ℤ (x -ℤ w) ≡ pos 0 → pos 0 <ℤ neg_ℤ w → pos 0 <ℤ x → St p y → St q z → xor p q ≡ true → (pos 0 <ℤ y) × (pos 0 <ℤ neg_ℤ z)
signs true true w x y z e hw hx sy sz h = absurd (true≢false (sym h))
signs true false w x y z e hw hx sy sz h = (sy.is, sz.is)
signs false true w x y z e hw hx sy sz h = absurd (bad w x y z e hw hx sy.is sz.is)
  where
    bad : (w x y z : ℤ) → (z -ℤ y) +ℤ (x -ℤ w) ≡ pos 0 → pos 0 <ℤ neg_ℤ w → pos 0 <ℤ x → pos 0 <ℤ neg_ℤ y → pos 0 <ℤ z → ⊥
    bad w x y z e hw hx hy hz = omega (arith, ints)
signs false false w x y z e hw hx sy sz h = absurd (true≢false (sym h))

module _ (b : Blocks) (m : Meaning) (l : Lawful b) (g : Serving m) (s t : ℕ) (es : serving m s ≡ true) (et : serving m t ≡ true) (st : ¬ (s ≡ t)) where
  -- a dart that goes from the left of the way to its right
  abbrev pub leads : Dart → Bool
  leads x = L (S m s) (S m t) (S m x.0)

  -- ---- a kept link c a that crosses at p, c left of the way and a right of it
  module _ (a c : ℕ) (k : keeps b m a c ≡ true) (p : Place) (at : spot m s t (c, a) ≡ Some p) (left : L (S m s) (S m t) (S m c) ≡ true) where
    four : Four s t c a
    four = (spot_some m s t (c, a) p at).0

    over : strictly_cross (pt m s) (pt m t) (pt m c) (pt m a) ≡ true
    over = (spot_some m s t (c, a) p at).1

    -- the same, from a to c
    over' : strictly_cross (pt m s) (pt m t) (pt m a) (pt m c) ≡ true
    over' = sym (cross_back (pt m s) (pt m t) (pt m c) (pt m a)) ∙ over

    sides : crossing (S m s) (S m t) (S m a) (S m c) ≡ true
    sides = cross_sites (pt m s) (pt m t) (pt m a) (pt m c) over'

    off_right : Off (S m s) (S m t) (S m a)
    off_right = (cross_off (pt m s) (pt m t) (pt m a) (pt m c) over').0

    off_left : Off (S m s) (S m t) (S m c)
    off_left = (cross_off (pt m s) (pt m t) (pt m a) (pt m c) over').1

    off_s : Off (S m a) (S m c) (S m s)
    off_s = (cross_off (pt m s) (pt m t) (pt m a) (pt m c) over').2

    off_t : Off (S m a) (S m c) (S m t)
    off_t = (cross_off (pt m s) (pt m t) (pt m a) (pt m c) over').3

    pub right : L (S m s) (S m t) (S m a) ≡ false
    right = go (L (S m s) (S m t) (S m a)) (L (S m s) (S m t) (S m c)) left (and_first _ _ sides)
      where
        go : (x y : Bool) → y ≡ true → xor x y ≡ true → x ≡ false
        go true true e h = sym h
        go true false e h = absurd (true≢false (sym e))
        go false y e h = refl

    turn_left : St true (turn (pt m s) (pt m t) (pt m c))
    turn_left = subst (λ (x : Bool). St x (turn (pt m s) (pt m t) (pt m c))) left (turn_sign (position (pt m s)) (position (pt m t)) (position (pt m c)) off_left)

    turn_right : St false (turn (pt m s) (pt m t) (pt m a))
    turn_right = subst (λ (x : Bool). St x (turn (pt m s) (pt m t) (pt m a))) right (turn_sign (position (pt m s)) (position (pt m t)) (position (pt m a)) off_right)

    ec : serving m c ≡ true
    ec = keeps_to b m l g a c k

    ea : serving m a ≡ true
    ea = keeps_on b m l g a c k

    ac : ¬ (a ≡ c)
    ac = keeps_apart b m l g a c k

    one : pos 0 <ℤ pos 1
    one = record { lt = tt }

    -- c is above a
    above : up (far (heading m s t)) (S m a) (S m c) ≡ true
    above = prq (S m a) (S m c) (far (heading m s t)) (left_sign (S m a) (S m c) (far (heading m s t)) ahead) ∙ order (L (S m s) (S m t) (S m a)) (L (S m s) (S m t) (S m c)) (L (S m a) (S m c) (far (heading m s t))) right left mixed
      where
        ahead : Off (S m a) (S m c) (far (heading m s t))
        ahead = clear b m l g s t es et st a c ea ec ac

        mixed : mixed3 (L (S m s) (S m t) (S m a)) (not (L (S m s) (S m t) (S m c))) (not (L (S m a) (S m c) (far (heading m s t)))) ≡ true
        mixed = levels (S m a) (S m t) (S m c) (far (heading m s t)) one one one refl
            (st_cycle (far (heading m s t)) (S m a) (S m t) (st_cycle (S m t) (far (heading m s t)) (S m a) (on_side b m l g s t es et st a ea four.sv four.tv).by_t))
            (weak (st_cycle (far (heading m s t)) (S m t) (S m c) (st_swap (S m t) (far (heading m s t)) (S m c) (on_side b m l g s t es et st c ec four.su four.tu).by_t)))
            (weak (left_sign (S m a) (S m c) (far (heading m s t)) ahead))

        order : (x y z : Bool) → x ≡ false → y ≡ true → mixed3 x (not y) (not z) ≡ true → not z ≡ true
        order true y z e f h = absurd (true≢false e)
        order false true z e f h = h
        order false false z e f h = absurd (true≢false (sym f))

    -- ---- the entry is a point of the link
    positives : (pos 0 <ℤ turn (pt m a) (pt m c) (pt m s)) × (pos 0 <ℤ neg_ℤ (turn (pt m a) (pt m c) (pt m t)))
    positives = signs (L (S m a) (S m c) (S m s)) (L (S m a) (S m c) (S m t)) (turn (pt m s) (pt m t) (pt m a)) (turn (pt m s) (pt m t) (pt m c)) (turn (pt m a) (pt m c) (pt m s)) (turn (pt m a) (pt m c) (pt m t))
        (around (position (pt m a)) (position (pt m c)) (position (pt m s)) (position (pt m t))) turn_right.is turn_left.is
        (turn_sign (position (pt m a)) (position (pt m c)) (position (pt m s)) off_s) (turn_sign (position (pt m a)) (position (pt m c)) (position (pt m t)) off_t) (and_second _ _ sides)

    above_is : turn (pt m a) (pt m c) (pt m s) ≡ pos p.above
    above_is =
        sym (size_pos (turn (pt m a) (pt m c) (pt m s)) positives.0) ∙ ap pos (sym (size_back (pt m a) (pt m c) (pt m s)))
        ∙ ap (λ (q : Place). pos q.above) (sym (spot_some m s t (c, a) p at).2)

    below_is : neg_ℤ (turn (pt m a) (pt m c) (pt m t)) ≡ pos p.below
    below_is =
        sym (size_neg (turn (pt m a) (pt m c) (pt m t)) positives.1) ∙ ap pos (sym (size_back (pt m a) (pt m c) (pt m t)))
        ∙ ap (λ (q : Place). pos q.below) (sym (spot_some m s t (c, a) p at).2)

    abbrev X : Site
    X = place (pos p.above) (pos p.below) (position (pt m s)) (position (pt m t))

    between : Between (S m a) (S m c) X
    between = subst (λ (z : ℤ). Between (S m a) (S m c) (place (pos p.above) z (position (pt m s)) (position (pt m t)))) below_is
        (subst (λ (z : ℤ). Between (S m a) (S m c) (place z (neg_ℤ (turn (pt m a) (pt m c) (pt m t))) (position (pt m s)) (position (pt m t)))) above_is
        (meeting (position (pt m a)) (position (pt m c)) (position (pt m s)) (position (pt m t)) turn_left turn_right))

    some_above : pos 0 <ℤ pos p.above
    some_above = subst (λ (z : ℤ). pos 0 <ℤ z) above_is positives.0

    some_below : pos 0 <ℤ pos p.below
    some_below = subst (λ (z : ℤ). pos 0 <ℤ z) below_is positives.1

    weight : pos 0 <ℤ X.h
    weight = sum (pos p.below) (pos p.above) some_below some_above
      where
        sum : (y z : ℤ) → pos 0 <ℤ y → pos 0 <ℤ z → pos 0 <ℤ (y +ℤ z)
        sum y z h k = omega (arith, ints)

    clear_X : (i : Up m) → Off X (S m i.0) (far (heading m s t))
    clear_X i = go (ℕ_discrete s i.0) (ℕ_discrete t i.0)
      where
        go : Dec (s ≡ i.0) → Dec (t ≡ i.0) → Off X (S m i.0) (far (heading m s t))
        go (yes e) d = subst (λ (n : ℕ). Off X (S m n) (far (heading m s t))) e (clear_s (pos p.above) (pos p.below) (heading m s t) (position (pt m s)) (position (pt m t)) some_above (t_low b m l g s t es et st))
        go (no n) (yes e) = subst (λ (n : ℕ). Off X (S m n) (far (heading m s t))) e (clear_t (pos p.above) (pos p.below) (heading m s t) (position (pt m s)) (position (pt m t)) some_below (t_low b m l g s t es et st))
        go (no n) (no k) = clear_of (pos p.above) (pos p.below) (heading m s t) (position (pt m s)) (position (pt m t)) (position (pt m i.0)) some_above some_below (on_side b m l g s t es et st i.0 i.1 n k)

    -- ---- the darts, and the sum over a face
    abbrev strip : ℕ → Bool
    strip n = sites.In (far (heading m s t)) (S m a) X (S m n)

    abbrev is_a : ℕ → Bool
    is_a n = eqb n a

    abbrev is_c : ℕ → Bool
    is_c n = eqb n c

    abbrev from_a : ℕ → Bool
    from_a n = Sa (far (heading m s t)) (S m a) (S m c) (S m n)

    dart : (x : Dart) → In x (F b m l g).all
        → (strip x.0 ⊕ strip x.1) ⊕ (hits b m l g s t es et st (S m a) x ⊕ hits b m l g s t es et st X x) ≡ (is_a x.0 && from_a x.1) ⊕ (is_a x.1 && from_a x.0)
    dart x i =
        let kx = in_all b m l g x i in
        let U : Up m = (x.0, keeps_on b m l g x.0 x.1 kx) in
        let V : Up m = (x.1, keeps_to b m l g x.0 x.1 kx) in
        let AA : Up m = (a, ea) in
        let CC : Up m = (c, ec) in
        regroup (strip x.0) (strip x.1) (hits b m l g s t es et st (S m a) x) (hits b m l g s t es et st X x)
        ∙ entry_law (spot_of m) (heading m s t) (floor b m l g s t es et st) AA CC (λ e. ac (ap (λ (j : Up m). j.0) e)) above X weight between clear_X U V
        (λ e. keeps_apart b m l g x.0 x.1 kx (ap (λ (j : Up m). j.0) e))
        (λ au av cu cv. no_crossing b m l g a c x.0 x.1 k kx (λ e. au (same_node m AA U e)) (λ e. av (same_node m AA V e)) (λ e. cu (same_node m CC U e)) (λ e. cv (same_node m CC V e)))
        ∙ (λ j. xor (same_is m U AA j && from_a x.1) (same_is m V AA j && from_a x.0))
        ∙ xor_is (is_a x.0 && from_a x.1) (is_a x.1 && from_a x.0)

    sum_at_link : (d : Dart) → In d (F b m l g).all
        → parity (hits b m l g s t es et st X) (face (F b m l g) d) ≡ W b m l g s t es et st d a ⊕ parity (λ x. is_a x.1 && is_c x.0) (face (F b m l g) d)
    sum_at_link d i =
        face_law_between (F b m l g) (tail b m l g s t es et st) (head b m l g s t es et st) (λ x j. refl) is_a is_c strip from_a (hits b m l g s t es et st (S m a)) (hits b m l g s t es et st X) (turned b m l g s t es et st)
        dart (corner b m l g s t es et st a c k above) d i

    pub odd : Joined m s t → Joined m s c → (d : Dart) → In d (F b m l g).all → In (c, a) (face (F b m l g) d) → ((x : Dart) → In x (face (F b m l g) d) → ¬ (x.1 ≡ t))
        → parity (λ x. nearer_than p (spot m s t x)) (face (F b m l g) d) ≡ true
    odd jt jc d i j no-t =
        progress_at_link (tail b m l g s t es et st) (head b m l g s t es et st) (face (F b m l g) d) (turned b m l g s t es et st)
        (λ x. nearer_than p (spot m s t x)) (hits b m l g s t es et st X) (hits b m l g s t es et st (S m t)) (λ n. eqb n t)
        (λ x h. counted b m l g s t es et st p (spot_some m s t (c, a) p at).4 x (face_inside (F b m l g) d i x h) (none_from b m l g t d i no-t x h) (no-t x h))
        (λ x h. apart_eqb x.1 t (no-t x h)) is_a is_c (hits b m l g s t es et st (S m a)) (sum_at_link d i)
        (link_winds b m l g s t es et st a c k d i ∙ sym (joined_winds b m l g s t es et st s c jc d i) ∙ joined_winds b m l g s t es et st s t jt d i)
        ∙ parity_one (λ x. is_a x.1 && is_c x.0) (c, a) (face (F b m l g) d) (pair (eq-eqb a a refl) (eq-eqb c c refl)) only (face_apart (F b m l g) d i) j
      where
        only : (x : Dart) → In x (face (F b m l g) d) → (is_a x.1 && is_c x.0) ≡ true → x ≡ (c, a)
        only x h e = let (f, f') = both e in let q : x.1 ≡ a = eqb-true x.1 a f in let q' : x.0 ≡ c = eqb-true x.0 c f' in (λ n. (q' n, q n))

  pub odd_at_link : Joined m s t → (d e : Dart) (p : Place) → In d (F b m l g).all → In e (face (F b m l g) d) → spot m s t e ≡ Some p → leads e ≡ true
      → Joined m s e.0
      → ((x : Dart) → In x (face (F b m l g) d) → ¬ (x.1 ≡ t))
      → parity (beyond m s t e) (face (F b m l g) d) ≡ true
  odd_at_link jt d e p i j at left jc no-t =
      ap (λ (q : Option Place). parity (λ x. nearer_than (or_source q) (spot m s t x)) (face (F b m l g) d)) at
      ∙ odd e.1 e.0 (back b m l g e.0 e.1 (in_all b m l g e (face_inside (F b m l g) d i e j))) p at left jt jc d i j no-t

  pub twin_leads : (x : Dart) (p : Place) → In x (F b m l g).all → spot m s t x ≡ Some p → leads (twin x) ≡ not (leads x)
  twin_leads x p i at = go (leads x) (leads (twin x)) (and_first _ _ (cross_sites (pt m s) (pt m t) (pt m x.0) (pt m x.1) (spot_some m s t x p at).1))
    where
      go : (y z : Bool) → xor y z ≡ true → z ≡ not y
      go true true h = h' h
        where
          h' : false ≡ true → true ≡ false
          h' e = sym e
      go true false h = refl
      go false true h = refl
      go false false h = h
