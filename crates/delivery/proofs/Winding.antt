-- The law of parity: a face sees the two ends of a kept link from one side, and so all that is joined
use Rattle.std.proofs.Common.{◌≡◌, ℕ, Bool, true, false, not, ◌&&◌, eqb, sym, refl, ap, ◌∙◌, ap₂, eqb-true}
use Rattle.plane.proofs.Sites.{Site, det, far, L, xor, up, hit, Sa, Sb, inside}
use Rattle.plane.proofs.Sites as sites
use Rattle.plane.proofs.Signs.{St}
use Rattle.plane.proofs.Strip.{left_sign, prq, qrp}
use Rattle.plane.proofs.DartLaws.{dart_law, corner_law_a, corner_law_b}
use Rattle.order.specs.declared.Sense.TheVariants.{Clockwise}
use Rattle.floor.specs.Meaning.{Meaning, Serving, Joined}
use Rattle.floor.specs.Planar.{Blocks, Lawful}
use Rattle.kept.specs.Laws.{Chained}
use Rattle.kept.proofs.Lists.{holds}
use Rattle.kept.proofs.Chains.{joined_chained}
use Rattle.orbit.specs.Walks.{In, ◌⊕◌}
use Rattle.orbit.proofs.Orbit.{Turning, face}
use Rattle.orbit.proofs.ParityLaw.{ends, winding}
use Rattle.orbit.proofs.FaceParity.{face_law}
use Rattle.orbit.proofs.Darts.{Dart, darts_in}
use Rattle.delivery.specs.Law.{serving}
use Rattle.delivery.proofs.Ground.{keeps, size_of, faces}
use Rattle.delivery.proofs.Nodes.{S, keeps_on, keeps_to, keeps_apart, symmetric, irreflexive, back, no_crossing}
use Rattle.delivery.proofs.Around.{turned_to, turned_is, next}
use Rattle.delivery.proofs.Rotations.{rotation}
use Rattle.delivery.proofs.Floors.{Up, spot_of, same_node, same_is, heading, floor, clear}

pub xor_is : (p q : Bool) → xor p q ≡ p ⊕ q
xor_is true true = refl
xor_is true false = refl
xor_is false true = refl
xor_is false false = refl

pub regroup : (p q r s : Bool) → (p ⊕ q) ⊕ (r ⊕ s) ≡ xor p (xor q (xor r s))
regroup true true true true = refl
regroup true true true false = refl
regroup true true false true = refl
regroup true true false false = refl
regroup true false true true = refl
regroup true false true false = refl
regroup true false false true = refl
regroup true false false false = refl
regroup false true true true = refl
regroup false true true false = refl
regroup false true false true = refl
regroup false true false false = refl
regroup false false true true = refl
regroup false false true false = refl
regroup false false false true = refl
regroup false false false false = refl

module _ (b : Blocks) (m : Meaning) (l : Lawful b) (g : Serving m) where
  -- the darts of the kept graph, face by face
  abbrev pub F : Turning Dart
  F = faces (rotation b m l g)

  pub in_all : (x : Dart) → In x F.all → keeps b m x.0 x.1 ≡ true
  in_all x i = (darts_in (keeps b m) (symmetric b m l g) (irreflexive b m l g) (size_of m) x.0 x.1 i).2

  module _ (s t : ℕ) (es : serving m s ≡ true) (et : serving m t ≡ true) (st : ¬ (s ≡ t)) where
    abbrev pub o : Site
    o = far (heading m s t)

    -- the ray from z meets the dart
    abbrev pub hits : Site → Dart → Bool
    hits z x = hit o z (S m x.0) (S m x.1)

    -- the dart and the next make a corner that holds the direction
    abbrev pub turned : Dart → Bool
    turned x = inside (S m x.1) (S m x.0) o (S m (turned_to b m Clockwise x.1 x.0))

    abbrev pub head : Dart → ℕ
    head x = x.1

    abbrev pub tail : Dart → ℕ
    tail x = x.0

    -- how the face of d winds round node a
    abbrev pub W : Dart → ℕ → Bool
    W d a = winding head turned (face F d) (hits (S m a)) (λ n. eqb n a)

    -- ---- the link a c, with c above a
    module _ (a c : ℕ) (k : keeps b m a c ≡ true) (above : up o (S m a) (S m c) ≡ true) where
      A : Up m
      A = (a, keeps_on b m l g a c k)

      C : Up m
      C = (c, keeps_to b m l g a c k)

      apart : ¬ (A ≡ C)
      unfolding A C
      apart e = keeps_apart b m l g a c k (ap (λ (i : Up m). i.0) e)

      from : (x : Dart) → In x F.all → Up m
      from x i = (x.0, keeps_on b m l g x.0 x.1 (in_all x i))

      to : (x : Dart) → In x F.all → Up m
      to x i = (x.1, keeps_to b m l g x.0 x.1 (in_all x i))

      abbrev pub side : ℕ → Bool
      side n = Sa o (S m a) (S m c) (S m n)

      abbrev pub side' : ℕ → Bool
      side' n = Sb o (S m a) (S m c) (S m n)

      abbrev pub strip : ℕ → Bool
      strip n = sites.In o (S m a) (S m c) (S m n)

      dart : (x : Dart) → In x F.all
          → (strip (tail x) ⊕ strip (head x)) ⊕ (hits (S m a) x ⊕ hits (S m c) x) ≡ ends tail head (λ n. eqb n a) side x ⊕ ends tail head (λ n. eqb n c) side' x
      unfolding A C from to
      dart x i =
          regroup (strip x.0) (strip x.1) (hits (S m a) x) (hits (S m c) x)
          ∙ dart_law (spot_of m) (heading m s t) (floor b m l g s t es et st) A C apart above (from x i) (to x i) (λ e. keeps_apart b m l g x.0 x.1 (in_all x i) (ap (λ (j : Up m). j.0) e))
          (λ au av cu cv. no_crossing b m l g a c x.0 x.1 k (in_all x i) (λ e. au (same_node m A (from x i) e)) (λ e. av (same_node m A (to x i) e)) (λ e. cu (same_node m C (from x i) e)) (λ e. cv (same_node m C (to x i) e)))
          ∙ (λ j. xor (same_is m (from x i) A j && side x.1) (xor (same_is m (to x i) A j && side x.0) (xor (same_is m (from x i) C j && side' x.1) (same_is m (to x i) C j && side' x.0))))
          ∙ sym (regroup (eqb x.0 a && side x.1) (eqb x.1 a && side x.0) (eqb x.0 c && side' x.1) (eqb x.1 c && side' x.0))

      -- no neighbour is inside a corner
      corner_out : (v u z : ℕ) (at : ℕ) → v ≡ at → keeps b m v u ≡ true → keeps b m at z ≡ true → inside (S m at) (S m u) (S m z) (S m (turned_to b m Clockwise v u)) ≡ false
      corner_out v u z at e ku kz =
          ap (λ (n : ℕ). inside (S m n) (S m u) (S m z) (S m (turned_to b m Clockwise v u))) (sym e)
          ∙ next b m l g v u ku z (ap (λ (n : ℕ). keeps b m n z) e ∙ kz)

      pub corner : (x : Dart) → In x F.all → eqb (head x) a ≡ true
          → side (tail x) ⊕ side (turned_to b m Clockwise x.1 x.0) ≡ eqb (tail x) c ⊕ turned x
      unfolding A C
      corner x i h =
          let e : x.1 ≡ a = eqb-true x.1 a h in
          let kx = in_all x i in
          let ku = back b m l g x.0 x.1 kx in
          let w = turned_to b m Clockwise x.1 x.0 in
          let kw = (turned_is b m l g x.1 Clockwise x.0 ku).1 in
          let U : Up m = (x.0, keeps_on b m l g x.0 x.1 kx) in
          let V : Up m = (w, keeps_to b m l g x.1 w kw) in
          sym (xor_is (side x.0) (side w))
          ∙ corner_law_a (spot_of m) (heading m s t) (floor b m l g s t es et st) A C apart above U V
          (λ f. keeps_apart b m l g x.0 x.1 kx (sym (ap (λ (j : Up m). j.0) f) ∙ sym e)) (λ f. keeps_apart b m l g x.1 w kw (e ∙ ap (λ (j : Up m). j.0) f))
          (corner_out x.1 x.0 c a e ku k)
          ∙ ap₂ xor (same_is m U C) (ap (λ (n : ℕ). inside (S m n) (S m x.0) o (S m w)) (sym e))
          ∙ xor_is (eqb x.0 c) (turned x)

      corner' : (x : Dart) → In x F.all → eqb (head x) c ≡ true
          → side' (tail x) ⊕ side' (turned_to b m Clockwise x.1 x.0) ≡ eqb (turned_to b m Clockwise x.1 x.0) a ⊕ turned x
      unfolding A C
      corner' x i h =
          let e : x.1 ≡ c = eqb-true x.1 c h in
          let kx = in_all x i in
          let ku = back b m l g x.0 x.1 kx in
          let w = turned_to b m Clockwise x.1 x.0 in
          let kw = (turned_is b m l g x.1 Clockwise x.0 ku).1 in
          let U : Up m = (x.0, keeps_on b m l g x.0 x.1 kx) in
          let V : Up m = (w, keeps_to b m l g x.1 w kw) in
          sym (xor_is (side' x.0) (side' w))
          ∙ corner_law_b (spot_of m) (heading m s t) (floor b m l g s t es et st) A C apart above U V
          (λ f. keeps_apart b m l g x.0 x.1 kx (sym (ap (λ (j : Up m). j.0) f) ∙ sym e)) (λ f. keeps_apart b m l g x.1 w kw (e ∙ ap (λ (j : Up m). j.0) f))
          (corner_out x.1 x.0 a c e ku (back b m l g a c k))
          ∙ ap₂ xor (same_is m V A) (ap (λ (n : ℕ). inside (S m n) (S m x.0) o (S m w)) (sym e))
          ∙ xor_is (eqb w a) (turned x)

      winds : (d : Dart) → In d F.all → W d a ≡ W d c
      winds d i = face_law F tail head (λ x j. refl) (λ n. eqb n a) (λ n. eqb n c) strip side side' (hits (S m a)) (hits (S m c)) turned dart corner corner' d i

    -- THE LAW OF PARITY
    pub link_winds : (a c : ℕ) → keeps b m a c ≡ true → (d : Dart) → In d F.all → W d a ≡ W d c
    link_winds a c k d i = go (up o (S m a) (S m c)) refl
      where
        sign : St (L (S m a) (S m c) o) (det (S m a) (S m c) o)
        sign = left_sign (S m a) (S m c) o (clear b m l g s t es et st a c (keeps_on b m l g a c k) (keeps_to b m l g a c k) (keeps_apart b m l g a c k))

        flip : (h : Bool) → not h ≡ false → h ≡ true
        flip true e = refl
        flip false e = sym e

        other : up o (S m a) (S m c) ≡ false → up o (S m c) (S m a) ≡ true
        other e = qrp (S m a) (S m c) o sign ∙ flip (L (S m a) (S m c) o) (sym (prq (S m a) (S m c) o sign) ∙ e)

        go : (h : Bool) → up o (S m a) (S m c) ≡ h → W d a ≡ W d c
        go true e = winds a c k e d i
        go false e = sym (winds c a (back b m l g a c k) (other e) d i)

    chain_winds : {a c : ℕ} → Chained b m a c → (d : Dart) → In d F.all → W d a ≡ W d c
    chain_winds (Chained.here i) d j = refl
    chain_winds (Chained.on i j k h c) d n = link_winds i j (holds h) d n ∙ chain_winds c d n

    pub joined_winds : (a c : ℕ) → Joined m a c → (d : Dart) → In d F.all → W d a ≡ W d c
    joined_winds a c j d i = chain_winds (joined_chained b m l g j) d i
