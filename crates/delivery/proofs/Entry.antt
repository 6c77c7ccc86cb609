-- A round at its entry: if source and target are joined and its face does not come to the target, its best leads to a round at the next entry
use Rattle.std.proofs.Common.{◌≡◌, ℕ, zero, suc, Bool, true, false, not, Some, None, Option, sym, refl, ap, ◌∙◌, true≢false}
use Rattle.order.specs.declared.Place.{Place}
use Rattle.floor.specs.Meaning.{Meaning, Joined, here, on}
use Rattle.floor.specs.Planar.{Blocks}
use Rattle.orbit.specs.Walks.{In, parity, steps}
use Rattle.orbit.proofs.Parity.{parity_none, odd_has}
use Rattle.orbit.proofs.Orbit.{Turning, face, face_inside, face_start}
use Rattle.orbit.proofs.Darts.{Dart, in_darts, darts_in}
use Rattle.delivery.proofs.Ground.{keeps, size_of, twin, spot, or_source, nearer_than, beyond, Rotation, faces, Ground}

pub joined_on : {m : Meaning} {i j k : ℕ} → Joined m i j → Joined m j k → Joined m i k
joined_on (here i) q = q
joined_on {k = k} (on i j l a p) q = on i j k a (joined_on p q)

module _ {b : Blocks} {m : Meaning} (R : Rotation b m) where
  pub dart_in : (x : Dart) → keeps b m x.0 x.1 ≡ true → In x (faces R).all
  dart_in x k = let (l, h) = R.small x.0 x.1 k in in_darts (keeps b m) R.symmetric R.irreflexive (size_of m) x.0 x.1 l h k

  pub dart_keeps : (x : Dart) → In x (faces R).all → keeps b m x.0 x.1 ≡ true
  dart_keeps x i = (darts_in (keeps b m) R.symmetric R.irreflexive (size_of m) x.0 x.1 i).2

  pub twin_in : (x : Dart) → In x (faces R).all → In (twin x) (faces R).all
  twin_in x i = dart_in (twin x) (R.symmetric x.1 x.0 ∙ dart_keeps x i)

  pub no_loop : (x : Dart) → In x (faces R).all → ¬ (x ≡ twin x)
  no_loop x i e = true≢false (sym (dart_keeps x i) ∙ ap (λ (y : Dart). keeps b m x.0 y.0) (sym e) ∙ R.irreflexive x.0)

  -- where a walk from a node that i is joined to comes
  pub reaches : (i : ℕ) (j : ℕ) (d : Dart) → In d (faces R).all → Joined m i d.0 → Joined m i (steps (faces R).next j d).0
  reaches i zero d h q = q
  reaches i (suc j) d h q = reaches i j ((faces R).next d) ((faces R).closed d h) (joined_on q (R.joins d.0 d.1 (dart_keeps d h)))

  pub reaches_on : (i : ℕ) (j : ℕ) (d : Dart) → In d (faces R).all → Joined m i d.0 → Joined m i (steps (faces R).next j d).1
  reaches_on i zero d h q = joined_on q (R.joins d.0 d.1 (dart_keeps d h))
  reaches_on i (suc j) d h q = reaches_on i j ((faces R).next d) ((faces R).closed d h) (joined_on q (R.joins d.0 d.1 (dart_keeps d h)))

module _ {b : Blocks} {m : Meaning} {s t : ℕ} (g : Ground b m s t) where
  open g use {rotation}

  abbrev F : Turning Dart
  F = faces rotation

  abbrev pub Beyond : Dart → Dart → Type 0
  Beyond x y = beyond m s t x y ≡ true

  -- no dart of the face of e goes to t
  abbrev pub Misses : Dart → Type 0
  Misses e = (x : Dart) → In x (face F e) → ¬ (x.1 ≡ t)

  -- the face of e is at its entry
  abbrev pub AtEntry : Dart → Type 0
  AtEntry e = Joined m s t → Misses e → parity (beyond m s t e) (face F e) ≡ true

  -- x is the best of the face of e
  pub record Foremost (e x : Dart) : Type 0 where
    pub on_face : In x (face F e)
    pub far : Beyond e x
    pub top : (y : Dart) → In y (face F e) → Beyond e y → beyond m s t x y ≡ false

  pub beyond_spot : (e x : Dart) → Beyond e x → (p : Place) × (spot m s t x ≡ Some p)
  beyond_spot e x h = go (spot m s t x) refl
    where
      go : (o : Option Place) → spot m s t x ≡ o → (p : Place) × (spot m s t x ≡ Some p)
      go None f = absurd (true≢false (sym h ∙ ap (nearer_than (or_source (spot m s t e))) f))
      go (Some p) f = (p, f)

  pub twin_to : (x y : Dart) → beyond m s t x (twin y) ≡ beyond m s t x y
  twin_to x y = ap (nearer_than (or_source (spot m s t x))) (g.twin_spot y)

  pub twin_from : (x y : Dart) → beyond m s t (twin x) y ≡ beyond m s t x y
  twin_from x y = ap (λ (o : Option Place). nearer_than (or_source o) (spot m s t y)) (g.twin_spot x)

  module _ (e : Dart) (in_all : In e F.all) (joined : Joined m s t) (misses : Misses e) where
    pub has_crossing : AtEntry e → (x : Dart) × In x (face F e) × Beyond e x
    has_crossing at = odd_has (beyond m s t e) (face F e) (at joined misses)

    module _ (x : Dart) (best : Foremost e x) (reached : Joined m s x.0) (reached-on : Joined m s x.1) where
      inside : In x F.all
      inside = face_inside F e in_all x best.on_face

      none_beyond : parity (beyond m s t x) (face F e) ≡ false
      none_beyond = parity_none (beyond m s t x) (face F e) (λ y i. off y i (beyond m s t x y) refl)
        where
          off : (y : Dart) → In y (face F e) → (u : Bool) → beyond m s t x y ≡ u → beyond m s t x y ≡ false
          off y i false f = f
          off y i true f = best.top y i (g.beyond_trans e x y best.far f)

      goes_back : g.leads x ≡ false
      goes_back = go (g.leads x) refl
        where
          go : (u : Bool) → g.leads x ≡ u → g.leads x ≡ false
          go false f = f
          go true f = let (p, h) = beyond_spot e x best.far in
              absurd (true≢false (sym (g.odd_at_link joined e x p in_all best.on_face h f reached misses) ∙ none_beyond))

      pub twin_leads : g.leads (twin x) ≡ true
      twin_leads = let (p, h) = beyond_spot e x best.far in g.twin_leads x p inside h ∙ ap not goes_back

      -- the best was walked one way only
      pub twin_out : ¬ In (twin x) (face F e)
      twin_out i = let (p, h) = beyond_spot e x best.far in
          true≢false (sym (g.odd_at_link joined e (twin x) p in_all i (g.twin_spot x ∙ h) twin_leads reached-on misses)
          ∙ ap (λ (f : Dart → Bool). parity f (face F e)) (λ u y. twin_from x y u) ∙ none_beyond)

  -- the face of its twin is at the next entry
  pub next_entry : (e : Dart) → In e F.all → Misses e → (x : Dart) → Foremost e x → Joined m s x.0 → Joined m s x.1 → AtEntry (twin x)
  next_entry e in_all misses x best reached reached-on joined new-misses =
      let (p, h) = beyond_spot e x best.far in
      let i : In (twin x) F.all = twin_in rotation x (face_inside F e in_all x best.on_face) in
      g.odd_at_link joined (twin x) (twin x) p i (face_start F (twin x) i) (g.twin_spot x ∙ h)
      (twin_leads e in_all joined misses x best reached reached-on) reached-on new-misses
