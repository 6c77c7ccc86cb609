-- Progress at the source: of the darts of the first face, an odd number cross the way to t
use Rattle.std.proofs.Common.{◌≡◌, ℕ, true, ◌&&◌, eqb, Some, Option, sym, ap, ◌∙◌, ap₂, arith, eq-eqb, eqb-true}
use native.Mathlib.Decide.{ℕ_discrete}
use borrow.Author.Tests.{apart_eqb}
use Rattle.plane.specs.Plane.{way}
use Rattle.plane.proofs.Vectors.{position}
use Rattle.plane.proofs.Sites.{Site, far, inside}
use Rattle.plane.proofs.Arcs.{one_corner}
use Rattle.plane.proofs.Crossings.{place_s}
use Rattle.order.specs.declared.Place.{Place}
use Rattle.order.specs.declared.Sense.TheVariants.{Clockwise}
use Rattle.order.specs.declared.Start.TheVariants.{NoTurn}
use Rattle.floor.specs.Meaning.{Meaning, Serving, Joined}
use Rattle.floor.specs.Planar.{Blocks, Lawful}
use Rattle.kept.specs.Kept.{first_round}
use Rattle.kept.proofs.Near.{both, pair}
use Rattle.face.specs.Packet.{source_place}
use Rattle.orbit.specs.Walks.{In, ◌⊕◌, parity}
use Rattle.orbit.proofs.Parity.{parity_one}
use Rattle.orbit.proofs.Orbit.{face, face_apart, face_inside, face_start}
use Rattle.orbit.proofs.Progress.{progress_at_node}
use Rattle.orbit.proofs.Darts.{Dart, in_darts}
use Rattle.delivery.specs.Law.{serving}
use Rattle.delivery.proofs.Ground.{pt, nd, near, keeps, size_of, beyond, nearer_than, or_source, spot}
use Rattle.delivery.proofs.Nodes.{S, keeps_on, keeps_to, keeps_apart, symmetric, irreflexive, back, on_small}
use Rattle.delivery.proofs.Around.{turned_to, turned_is, next, K, apart}
use Rattle.delivery.proofs.Spots.{source_spot}
use Rattle.delivery.proofs.Floors.{heading, clear}
use Rattle.delivery.proofs.Winding.{F, in_all, hits, turned, head, tail, joined_winds}
use Rattle.delivery.proofs.Opening.{corner_holds}
use Rattle.delivery.proofs.Counting.{came, counted}

module _ (b : Blocks) (m : Meaning) (l : Lawful b) (g : Serving m) where
  all_in : (u v : ℕ) → keeps b m u v ≡ true → In (u, v) (F b m l g).all
  all_in u v k = in_darts (keeps b m) (symmetric b m l g) (irreflexive b m l g) (size_of m) u v (on_small m u (keeps_on b m l g u v k)) (on_small m v (keeps_to b m l g u v k)) k

  -- a face with no dart to t has none from t
  pub none_from : (t : ℕ) (d : Dart) → In d (F b m l g).all → ((x : Dart) → In x (face (F b m l g) d) → ¬ (x.1 ≡ t)) → (x : Dart) → In x (face (F b m l g) d) → ¬ (x.0 ≡ t)
  none_from t d i no-t x j e = let (y, k, f) = came (F b m l g) d x i j in no-t y k (ap (λ (z : Dart). z.0) f ∙ e)

module _ (b : Blocks) (m : Meaning) (l : Lawful b) (g : Serving m) (s t : ℕ) (es : serving m s ≡ true) (et : serving m t ≡ true) (st : ¬ (s ≡ t)) where
  -- a corner at s that holds the direction: there is one only
  one_holds : (u u' : ℕ) → keeps b m s u ≡ true → keeps b m s u' ≡ true
      → inside (S m s) (S m u) (far (heading m s t)) (S m (turned_to b m Clockwise s u)) ≡ true → inside (S m s) (S m u') (far (heading m s t)) (S m (turned_to b m Clockwise s u')) ≡ true → u ≡ u'
  one_holds u u' ku ku' h h' =
      one_corner ℕ_discrete (S m) (S m s) (K b m l g s) (apart b m l g s) (far (heading m s t))
      (λ i ki. clear b m l g s t es et st s i es (keeps_to b m l g s i ki) (keeps_apart b m l g s i ki))
      u (turned_to b m Clockwise s u) u' (turned_to b m Clockwise s u') ku (turned_is b m l g s Clockwise u ku).1 ku' (turned_is b m l g s Clockwise u' ku').1
      (next b m l g s u ku) (next b m l g s u' ku') h h'

  pub odd_at_source : Joined m s t → (w : ℕ) → keeps b m s w ≡ true → first_round Clockwise NoTurn (pt m s) (way (pt m s) (pt m t)) (near b m s) ≡ Some (nd m w)
      → ((x : Dart) → In x (face (F b m l g) (s, w)) → ¬ (x.1 ≡ t))
      → parity (beyond m s t (s, w)) (face (F b m l g) (s, w)) ≡ true
  odd_at_source joined w kw first no-t = go (came (F b m l g) (s, w) (s, w) there (face_start (F b m l g) (s, w) there))
    where
      there : In (s, w) (F b m l g).all
      there = all_in b m l g s w kw

      -- near the source: the rays from s and from t
      near_by : (x : Dart) → In x (face (F b m l g) (s, w)) → beyond m s t (s, w) x ≡ hits b m l g s t es et st (S m s) x ⊕ hits b m l g s t es et st (S m t) x
      near_by x i =
          ap (λ (q : Option Place). nearer_than (or_source q) (spot m s t x)) (source_spot m s t w)
          ∙ counted b m l g s t es et st source_place (omega arith) x (face_inside (F b m l g) (s, w) there x i) (none_from b m l g t (s, w) there no-t x i) (no-t x i)
          ∙ ap (λ (z : Site). hits b m l g s t es et st z x ⊕ hits b m l g s t es et st (S m t) x) (place_s (position (pt m s)) (position (pt m t)))

      -- the one corner of the face at s that holds the direction
      go : ((y : Dart) × In y (face (F b m l g) (s, w)) × ((F b m l g).next y ≡ (s, w))) → parity (beyond m s t (s, w)) (face (F b m l g) (s, w)) ≡ true
      go (y, i, f) =
          progress_at_node (tail b m l g s t es et st) (head b m l g s t es et st) (face (F b m l g) (s, w)) (turned b m l g s t es et st)
          (beyond m s t (s, w)) (hits b m l g s t es et st (S m s)) (hits b m l g s t es et st (S m t)) (λ n. eqb n t)
          near_by (λ x j. apart_eqb x.1 t (no-t x j)) (λ n. eqb n s) (joined_winds b m l g s t es et st s t joined (s, w) there)
          ∙ parity_one (λ x. eqb x.1 s && turned b m l g s t es et st x) y (face (F b m l g) (s, w)) (pair (eq-eqb y.1 s at_s) (held y (kept y i) at_s to_w)) only (face_apart (F b m l g) (s, w) there) i
        where
          kept : (x : Dart) → In x (face (F b m l g) (s, w)) → keeps b m x.0 x.1 ≡ true
          kept x j = in_all b m l g x (face_inside (F b m l g) (s, w) there x j)

          at_s : y.1 ≡ s
          at_s = ap (λ (z : Dart). z.0) f

          to_w : turned_to b m Clockwise y.1 y.0 ≡ w
          to_w = ap (λ (z : Dart). z.1) f

          held : (x : Dart) → keeps b m x.0 x.1 ≡ true → x.1 ≡ s → turned_to b m Clockwise x.1 x.0 ≡ w → turned b m l g s t es et st x ≡ true
          held x k e h =
              ap₂ (λ (p q : ℕ). inside (S m p) (S m x.0) (far (heading m s t)) (S m q)) e h
              ∙ corner_holds b m l g s t es et st x.0 w (ap (λ (z : ℕ). keeps b m z x.0) (sym e) ∙ back b m l g x.0 x.1 k) kw first

          at_source : (x : Dart) → x.1 ≡ s → turned b m l g s t es et st x ≡ true → inside (S m s) (S m x.0) (far (heading m s t)) (S m (turned_to b m Clockwise s x.0)) ≡ true
          at_source x e h = ap (λ (z : ℕ). inside (S m z) (S m x.0) (far (heading m s t)) (S m (turned_to b m Clockwise z x.0))) (sym e) ∙ h

          from_s : (x : Dart) → In x (face (F b m l g) (s, w)) → x.1 ≡ s → keeps b m s x.0 ≡ true
          from_s x j e = ap (λ (z : ℕ). keeps b m z x.0) (sym e) ∙ back b m l g x.0 x.1 (kept x j)

          only : (x : Dart) → In x (face (F b m l g) (s, w)) → (eqb x.1 s && turned b m l g s t es et st x) ≡ true → x ≡ y
          only x j h =
              let (p, q) = both h in
              let e : x.1 ≡ s = eqb-true x.1 s p in
              let same : x.0 ≡ y.0 = one_holds x.0 y.0 (from_s x j e) (from_s y i at_s) (at_source x e q) (at_source y at_s (held y (kept y i) at_s to_w)) in
              (λ k. (same k, (e ∙ sym at_s) k))
