-- Which darts cross nearer than an entry: the rays from the entry and from the target tell
use Rattle.std.proofs.Common.{◌≡◌, ℕ, suc, ◌-◌, ◌<◌, Bool, true, false, cond, not, ◌&&◌, ◌||◌, eqb, pos, ◌≤ℤ◌, ◌<ℤ◌, Some, None, sym, refl, ap, ◌∙◌, ap₂, arith, eq-eqb}
use native.Mathlib.Decide.{ℕ_discrete}
use borrow.Author.Differences.{ints}
use borrow.Author.Tests.{apart_eqb}
use Rattle.plane.specs.Plane.{turn}
use Rattle.plane.proofs.Vectors.{position}
use Rattle.plane.proofs.Sites.{place, crossing}
use Rattle.plane.proofs.Nearer as plane
use Rattle.plane.proofs.Crossings.{nears, count_law}
use Rattle.order.specs.declared.Place.{Place}
use Rattle.order.specs.Places.{nearer}
use Rattle.floor.specs.Numbers.{differ}
use Rattle.floor.specs.Meaning.{Meaning, Serving}
use Rattle.floor.specs.Planar.{Blocks, Lawful}
use Rattle.kept.proofs.Near.{apart_differ}
use Rattle.kept.proofs.Crossing.{cross_is}
use Rattle.face.specs.Crossing.{crosses, meeting, opposite}
use Rattle.orbit.specs.Walks.{In, ◌⊕◌, steps}
use Rattle.orbit.proofs.Walking.{steps_next}
use Rattle.orbit.proofs.Orbit.{Turning, face, size, face_round, face_closed, face_inside, face_steps}
use Rattle.orbit.proofs.Darts.{Dart}
use Rattle.delivery.specs.Law.{serving}
use Rattle.delivery.proofs.Ground.{pt, nd, spot, nearer_than}
use Rattle.delivery.proofs.Nodes.{S, keeps_on, keeps_to, keeps_apart, off}
use Rattle.delivery.proofs.Spots.{twin_spot, source_spot}
use Rattle.delivery.proofs.Floors.{Up, spot_of, same_node, same_is, heading, floor, on_side, t_low}
use Rattle.delivery.proofs.Winding.{F, in_all, xor_is, hits}

-- ---- the dart of a face before a dart of it
pub came : {A : Type 0} (p : Turning A) (d x : A) → In d p.all → In x (face p d) → (y : A) × In y (face p d) × (p.next y ≡ x)
came {A} p d x i j =
    let k : In x p.all = face_inside p d i x j in
    let n : ℕ = size p x - 1 in (
      steps p.next n x,
      face_steps p d x n i j,
      sym (steps_next p.next n x) ∙ ap (λ (z : ℕ). steps p.next z x) (whole (size p x) (face_round p x k).some) ∙ face_closed p x k,
    )
  where
    whole : (n : ℕ) → 0 < n → suc (n - 1) ≡ n
    whole n h = omega arith

-- the rules' test of a place, by the crossing
tested : (e p : Place) (c : Bool) → nearer_than e (cond c (Some p) None) ≡ (c && nearer p e)
tested e p true = refl
tested e p false = refl

module _ (b : Blocks) (m : Meaning) (l : Lawful b) (g : Serving m) (s t : ℕ) (es : serving m s ≡ true) (et : serving m t ≡ true) (st : ¬ (s ≡ t)) where
  -- four different nodes: the rules' crossing is the plane's
  crosses_is : (u v : ℕ) → serving m u ≡ true → serving m v ≡ true → ¬ (s ≡ u) → ¬ (s ≡ v) → ¬ (t ≡ u) → ¬ (t ≡ v) → ¬ (u ≡ v)
      → crosses (nd m s) (nd m t) (nd m u) (nd m v) ≡ crossing (S m s) (S m t) (S m u) (S m v)
  crosses_is u v eu ev su sv tu tv uv =
      (λ i. six i && opposite (turn (pt m s) (pt m t) (pt m u)) (turn (pt m s) (pt m t) (pt m v)) && opposite (turn (pt m u) (pt m v) (pt m s)) (turn (pt m u) (pt m v) (pt m t)))
      ∙ cross_is (pt m s) (pt m t) (pt m u) (pt m v)
      (off b m l g s t u es et eu st su tu) (off b m l g s t v es et ev st sv tv) (off b m l g u v s eu ev es uv (λ e. su (sym e)) (λ e. sv (sym e))) (off b m l g u v t eu ev et uv (λ e. tu (sym e)) (λ e. tv (sym e)))
    where
      six : (differ s t && differ s u && differ s v && differ t u && differ t v && differ u v) ≡ true
      six = λ i. apart_differ s t st i && apart_differ s u su i && apart_differ s v sv i && apart_differ t u tu i && apart_differ t v tv i && apart_differ u v uv i

  -- the plane's count is the rules' test
  near_is : (p : Place) (u v : Up m) → ¬ (u.0 ≡ v.0) → ¬ (t ≡ u.0) → ¬ (t ≡ v.0)
      → nears (spot_of m) (heading m s t) (floor b m l g s t es et st) (s, es) (t, et) (λ e. st (ap (λ (i : Up m). i.0) e))
      (λ z sz tz. on_side b m l g s t es et st z.0 z.1 (λ e. sz (same_node m (s, es) z e)) (λ e. tz (same_node m (t, et) z e))) (t_low b m l g s t es et st)
      (pos p.above) (pos p.below) u v
      ≡ nearer_than p (spot m s t (u.0, v.0))
  near_is p u v uv tu tv =
      (λ i. not (same_is m u (s, es) i || same_is m v (s, es) i) && plane.nearer (pos p.above) (pos p.below) (position (pt m s)) (position (pt m t)) (position (pt m u.0)) (position (pt m v.0)))
      ∙ go (ℕ_discrete s u.0) (ℕ_discrete s v.0)
    where
      test : Bool
      test = plane.nearer (pos p.above) (pos p.below) (position (pt m s)) (position (pt m t)) (position (pt m u.0)) (position (pt m v.0))

      second : (c : Bool) → (c || true) ≡ true
      second true = refl
      second false = refl

      go : Dec (s ≡ u.0) → Dec (s ≡ v.0) → (not (eqb u.0 s || eqb v.0 s) && test) ≡ nearer_than p (spot m s t (u.0, v.0))
      go (yes e) d =
          ap (λ (c : Bool). not (c || eqb v.0 s) && test) (eq-eqb u.0 s (sym e))
          ∙ sym (ap (nearer_than p) (ap (λ (z : ℕ). spot m s t (z, v.0)) (sym e) ∙ source_spot m s t v.0))
      go (no n) (yes e) =
          ap (λ (c : Bool). not (eqb u.0 s || c) && test) (eq-eqb v.0 s (sym e)) ∙ ap (λ (c : Bool). not c && test) (second (eqb u.0 s))
          ∙ sym (ap (nearer_than p) (ap (λ (z : ℕ). spot m s t (u.0, z)) (sym e) ∙ twin_spot m s t (s, u.0) ∙ source_spot m s t u.0))
      go (no n) (no k) =
          ap₂ (λ (c d : Bool). not (c || d) && test) (apart_eqb u.0 s (λ e. n (sym e))) (apart_eqb v.0 s (λ e. k (sym e)))
          ∙ ap (λ (c : Bool). c && nearer (meeting (nd m s) (nd m t) (nd m u.0) (nd m v.0)) p) (sym (crosses_is u.0 v.0 u.1 v.1 n k tu tv uv))
          ∙ sym (tested p (meeting (nd m s) (nd m t) (nd m u.0) (nd m v.0)) (crosses (nd m s) (nd m t) (nd m u.0) (nd m v.0)))

  -- THE COUNT, of a dart that is not at t
  pub counted : (p : Place) → 0 < p.below → (x : Dart) → In x (F b m l g).all → ¬ (x.0 ≡ t) → ¬ (x.1 ≡ t)
      → nearer_than p (spot m s t x) ≡ hits b m l g s t es et st (place (pos p.above) (pos p.below) (position (pt m s)) (position (pt m t))) x ⊕ hits b m l g s t es et st (S m t) x
  counted p h x i ut vt =
      let k = in_all b m l g x i in
      let u : Up m = (x.0, keeps_on b m l g x.0 x.1 k) in
      let v : Up m = (x.1, keeps_to b m l g x.0 x.1 k) in
      let n = keeps_apart b m l g x.0 x.1 k in
      sym (near_is p u v n (λ e. ut (sym e)) (λ e. vt (sym e)))
      ∙ sym (count_law (spot_of m) (heading m s t) (floor b m l g s t es et st) (s, es) (t, et) (λ e. st (ap (λ (i : Up m). i.0) e))
      (λ z sz tz. on_side b m l g s t es et st z.0 z.1 (λ e. sz (same_node m (s, es) z e)) (λ e. tz (same_node m (t, et) z e))) (t_low b m l g s t es et st)
      (pos p.above) (pos p.below) (weakly p.above) (some p.below h) u v
      (λ e. n (ap (λ (i : Up m). i.0) e)) (λ e. ut (sym (ap (λ (i : Up m). i.0) e))) (λ e. vt (sym (ap (λ (i : Up m). i.0) e))))
      ∙ xor_is (hits b m l g s t es et st (place (pos p.above) (pos p.below) (position (pt m s)) (position (pt m t))) x) (hits b m l g s t es et st (S m t) x)
    where
      weakly : (n : ℕ) → pos 0 ≤ℤ pos n
      weakly n = omega (arith, ints)

      some : (n : ℕ) → 0 < n → pos 0 <ℤ pos n
      some n h = omega (arith, ints)
