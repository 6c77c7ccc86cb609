-- Rounds whose entries grow walk faces that have nothing in common
use mathlib.Core.List.{List, [], ◌∷◌}
use Rattle.orbit.specs.Walks.{In}
use Rattle.orbit.proofs.Sets.{Away, Scattered, Within}
use Rattle.orbit.proofs.Orbit.{Turning, face, face_apart, face_inside, faces_disjoint}

module _ {A : Type 0} (p : Turning A) where
  abbrev pub faces : List A → List (List A)
  faces [] = []
  faces (d ∷ ds) = face p d ∷ faces ds

module _ {A : Type 0} (p : Turning A) (Beyond : A → A → Type 0) where
  -- after the round from d comes the round from e: e is beyond d, not on d's face, and nothing of d's face is beyond e
  pub record Follows (d e : A) : Type 0 where
    pub there : In e p.all
    pub grows : Beyond d e
    pub leaves : ¬ In e (face p d)
    pub best : (x : A) → In x (face p d) → Beyond d x → ¬ Beyond e x

  -- the starts of the rounds so far, the latest first
  abbrev pub Starts : A → List A → Type 0
  Starts d [] = In d p.all
  Starts d (c ∷ cs) = Follows c d × Starts c cs

module _ {A : Type 0} (p : Turning A) (Beyond : A → A → Type 0) (trans : (x y z : A) → Beyond x y → Beyond y z → Beyond x z) where
  open p use {all, next}

  latest_in : (d : A) (ds : List A) → Starts p Beyond d ds → In d all
  latest_in d [] i = i
  latest_in d (c ∷ cs) (f, s) = f.there

  -- a dart beyond the latest start is on no earlier face
  none_earlier : (e d : A) (ds : List A) → In e all → Starts p Beyond d ds → Beyond d e → Away (face p e) (faces p ds)
  none_earlier e d [] i s b = tt
  none_earlier e d (c ∷ cs) i (f, s) b =
      let far : Beyond c e = trans c d e f.grows b in (
        λ x j k. faces_disjoint p e c i (latest_in c cs s) (λ m. f.best e m far b) x k j,
        none_earlier e c cs i s far,
      )

  away : (d : A) (ds : List A) → Starts p Beyond d ds → Away (face p d) (faces p ds)
  away d [] s = tt
  away d (c ∷ cs) (f, s) = (
    λ x j k. faces_disjoint p d c f.there (latest_in c cs s) f.leaves x k j,
    none_earlier d c cs f.there s f.grows,
  )

  pub rounds_scattered : (d : A) (ds : List A) → Starts p Beyond d ds → Scattered (faces p (d ∷ ds))
  rounds_scattered d [] i = (face_apart p d i, tt, tt)
  rounds_scattered d (c ∷ cs) (f, s) = (face_apart p d f.there, away d (c ∷ cs) (f, s), rounds_scattered c cs s)

  pub rounds_within : (d : A) (ds : List A) → Starts p Beyond d ds → Within (faces p (d ∷ ds)) all
  rounds_within d [] i = (face_inside p d i, tt)
  rounds_within d (c ∷ cs) (f, s) = (face_inside p d f.there, rounds_within c cs s)
