-- The face of d: what an injective function of a finite set meets from d until it is back at d
use mathlib.Core.Path.{◌≡◌, refl, sym, subst, ap, ◌∙◌}
use mathlib.Core.List.{List}
use mathlib.Core.Logic.{◌⊎◌, inl, inr, ◌↔◌}
use Prim.Native.Nat.{ℕ, zero, suc, ◌+◌, ◌-◌, ◌≤◌, ◌<◌}
use native.Mathlib.Omega.{arith}
use native.Mathlib.Decide.{dec_le}
use lib.ListN.{length}
use Rattle.orbit.specs.Walks.{In, Inside, Apart, Disjoint, steps, walk}
use Rattle.orbit.proofs.Sets.{in?, apart_fits}
use Rattle.orbit.proofs.Walking.{steps_next, steps_add, length_walk, in_walk, walk_in, steps_inside, walk_inside}

-- ---- the least positive number with a property, if there is one up to k
abbrev Least : (ℕ → Type 0) → ℕ → Type 0
Least P m = (0 < m) × P m × ((j : ℕ) → 0 < j → j < m → ¬ P j)

abbrev Found : (ℕ → Type 0) → ℕ → Type 0
Found P k = ((m : ℕ) × (m ≤ k) × Least P m) ⊎ ((j : ℕ) → 0 < j → j ≤ k → ¬ P j)

least : (P : ℕ → Type 0) → ((k : ℕ) → Dec (P k)) → (k : ℕ) → Found P k
least P dec zero = inr (λ j p q h. omega arith)
least P dec (suc k) = go (least P dec k) (dec (suc k))
  where
    last : (j : ℕ) → ¬ (j ≤ k) → j ≤ suc k → j ≡ suc k
    last j n l = omega arith

    go : Found P k → Dec (P (suc k)) → Found P (suc k)
    go (inl (m, l, r)) d = inl (m, omega arith, r)
    go (inr none) (yes p) = inl (suc k, omega arith, (omega arith, p, λ j q l. none j q (omega arith)))
    go (inr none) (no n) = inr (λ j q l h. elim (dec_le j k) [ yes m ↦ none j q m h | no m ↦ n (subst P (last j m l) h) ])

number : (P : ℕ → Type 0) (k : ℕ) → Found P k → ℕ
number P k (inl (m, l, r)) = m
number P k (inr none) = zero

-- ---- an injective function on a finite set
pub record Turning (A : Type 0) : Type 0 where
  pub same : (x y : A) → Dec (x ≡ y)
  pub all : List A
  pub next : A → A
  pub closed : (x : A) → In x all → In (next x) all
  pub injective : (x y : A) → In x all → In y all → next x ≡ next y → x ≡ y

-- k steps lead back to d, for the first time
pub record Round {A : Type 0} (next : A → A) (d : A) (k : ℕ) : Type 0 where
  pub some : 0 < k
  pub back : steps next k d ≡ d
  pub first : (j : ℕ) → 0 < j → j < k → ¬ (steps next j d ≡ d)

module _ {A : Type 0} (p : Turning A) where
  open p use {same, all, next, closed, injective}

  found : (d : A) → Found (λ k. steps next k d ≡ d) (length all)
  found d = least (λ k. steps next k d ≡ d) (λ k. same (steps next k d) d) (length all)

  -- the length of the face of d, and the face
  pub size : A → ℕ
  size d = number (λ k. steps next k d ≡ d) (length all) (found d)

  pub face : A → List A
  face d = walk next (size d) d

  pub face_is : (d : A) → face d ≡ walk next (size d) d
  unfolding face
  face_is d = refl

  -- ---- the walk is back within the number of elements
  returns_or_apart : (n : ℕ) (d : A) → In d all → Apart (walk next n d) ⊎ ((k : ℕ) × (0 < k) × (k < n) × (steps next k d ≡ d))
  returns_or_apart zero d i = inl tt
  returns_or_apart (suc n) d i = go (in? same d (walk next n (next d))) (returns_or_apart n (next d) (closed d i))
    where
      go : Dec (In d (walk next n (next d))) → Apart (walk next n (next d)) ⊎ ((k : ℕ) × (0 < k) × (k < n) × (steps next k (next d) ≡ next d))
          → Apart (walk next (suc n) d) ⊎ ((k : ℕ) × (0 < k) × (k < suc n) × (steps next k d ≡ d))
      go (yes j) a = let (k, l, e) = walk_in next n (next d) d j in inr (suc k, omega arith, omega arith, e)
      go (no new) (inl a) = inl (new, a)
      go (no new) (inr (k, q, l, e)) = inr (k, q, omega arith, injective (steps next k d) d (steps_inside next all closed k d i) i (sym (steps_next next k d) ∙ e))

  returns : (d : A) → In d all → (k : ℕ) × (0 < k) × (k ≤ length all) × (steps next k d ≡ d)
  returns d i = elim (returns_or_apart (suc (length all)) d i) [
    | inl a ↦ absurd (too_long (apart_fits (walk next (suc (length all)) d) all a (walk_inside next all closed (suc (length all)) d i)))
    | inr (k, q, l, e) ↦ (k, q, omega arith, e)
  ]
    where
      too_long : length (walk next (suc (length all)) d) ≤ length all → ⊥
      too_long h = omega (arith, length_walk next (suc (length all)) d)

  round_and_bound : (d : A) → In d all → Round next d (size d) × (size d ≤ length all)
  unfolding size number
  round_and_bound d i = go (found d)
    where
      P : ℕ → Type 0
      P k = steps next k d ≡ d

      go : (f : Found P (length all)) → Round next d (number P (length all) f) × (number P (length all) f ≤ length all)
      go (inl (m, l, (q, e, r))) = (record { some = q; back = e; first = r }, l)
      go (inr none) = let (k, q, l, e) = returns d i in absurd (none k q l e)

  pub face_round : (d : A) → In d all → Round next d (size d)
  face_round d i = (round_and_bound d i).0

  pub size_bound : (d : A) → In d all → size d ≤ length all
  size_bound d i = (round_and_bound d i).1

  pub length_face : (d : A) → length (face d) ≡ size d
  unfolding face
  length_face d = length_walk next (size d) d

  pub face_inside : (d : A) → In d all → Inside (face d) all
  unfolding face
  face_inside d i = walk_inside next all closed (size d) d i

  pub face_closed : (d : A) → In d all → steps next (size d) d ≡ d
  face_closed d i = (face_round d i).back

  -- ---- the darts of a face differ
  pub steps_injective : (k : ℕ) (x y : A) → In x all → In y all → steps next k x ≡ steps next k y → x ≡ y
  steps_injective zero x y i j e = e
  steps_injective (suc k) x y i j e = injective x y i j (steps_injective k (next x) (next y) (closed x i) (closed y j) e)

  short_apart : (n : ℕ) (d : A) → In d all → ((k : ℕ) → 0 < k → k < n → ¬ (steps next k d ≡ d)) → Apart (walk next n d)
  short_apart n d i new = elim (returns_or_apart n d i) [ inl a ↦ a | inr (k, q, l, e) ↦ absurd (new k q l e) ]

  pub face_apart : (d : A) → In d all → Apart (face d)
  unfolding face
  face_apart d i = short_apart (size d) d i (face_round d i).first

  -- ---- membership of a face is to be reached
  pub face_has : (d : A) (k : ℕ) → k < size d → In (steps next k d) (face d)
  unfolding face
  face_has d k l = in_walk next (size d) k d l

  pub face_at : (d x : A) → In x (face d) → (k : ℕ) × (k < size d) × (steps next k d ≡ x)
  unfolding face
  face_at d x i = walk_in next (size d) d x i

  -- the first darts of a face
  pub front_apart : (d : A) (k : ℕ) → In d all → k ≤ size d → Apart (walk next k d)
  front_apart d k i l = short_apart k d i (λ j q m. (face_round d i).first j q (omega arith))

  pub front_inside : (d : A) (k : ℕ) → k ≤ size d → Inside (walk next k d) (face d)
  front_inside d k l x i = let (j, m, e) = walk_in next k d x i in subst (λ (z : A). In z (face d)) e (face_has d j (omega arith))

  pub face_start : (d : A) → In d all → In d (face d)
  face_start d i = face_has d zero (face_round d i).some

  pub face_next : (d x : A) → In d all → In x (face d) → In (next x) (face d)
  face_next d x i j = go (face_at d x j)
    where
      go : ((k : ℕ) × (k < size d) × (steps next k d ≡ x)) → In (next x) (face d)
      go (k, l, e) = elim (dec_le (suc (suc k)) (size d)) [
        | yes m ↦ subst (λ (z : A). In z (face d)) (steps_next next k d ∙ ap next e) (face_has d (suc k) m)
        | no n ↦ subst (λ (z : A). In z (face d)) (sym (face_closed d i) ∙ ap (λ (m : ℕ). steps next m d) (last l n) ∙ steps_next next k d ∙ ap next e) (face_start d i)
      ]
        where
          last : k < size d → ¬ (suc (suc k) ≤ size d) → size d ≡ suc k
          last l n = omega arith

  pub face_steps : (d x : A) (k : ℕ) → In d all → In x (face d) → In (steps next k x) (face d)
  face_steps d x zero i j = j
  face_steps d x (suc k) i j = face_steps d (next x) k i (face_next d x i j)

  -- ---- faces are equal or disjoint
  pub face_back : (d x : A) → In d all → In x (face d) → In d (face x)
  face_back d x i j = go (face_at d x j)
    where
      go : ((k : ℕ) × (k < size d) × (steps next k d ≡ x)) → In d (face x)
      go (k, l, e) = subst (λ (z : A). In z (face x)) round (face_steps x x (size d - k) (face_inside d i x j) (face_start x (face_inside d i x j)))
        where
          whole : k + (size d - k) ≡ size d
          whole = omega arith

          round : steps next (size d - k) x ≡ d
          round = ap (steps next (size d - k)) (sym e) ∙ sym (steps_add next k (size d - k) d) ∙ ap (λ (m : ℕ). steps next m d) whole ∙ face_closed d i

  face_within : (d x : A) → In d all → In x (face d) → Inside (face x) (face d)
  face_within d x i j y k = let (m, l, e) = face_at x y k in subst (λ (z : A). In z (face d)) e (face_steps d x m i j)

  pub face_same : (d x : A) → In d all → In x (face d) → (y : A) → In y (face d) ↔ In y (face x)
  face_same d x i j y = (face_within x d (face_inside d i x j) (face_back d x i j) y, face_within d x i j y)

  pub faces_meet : (d e x : A) → In d all → In e all → In x (face d) → In x (face e) → (y : A) → In y (face d) ↔ In y (face e)
  faces_meet d e x i j k l y =
      (λ m. (face_same e x j l y).1 ((face_same d x i k y).0 m), λ m. (face_same d x i k y).1 ((face_same e x j l y).0 m))

  -- a face that has not d is disjoint from the face of d
  pub faces_disjoint : (d e : A) → In d all → In e all → ¬ In d (face e) → Disjoint (face e) (face d)
  faces_disjoint d e i j out x k l = out ((faces_meet d e x i j l k d).0 (face_start d i))

  pub face_size : (d x : A) → In d all → In x (face d) → size x ≡ size d
  face_size d x i j = omega (arith, length_face d, length_face x, over, under)
    where
      k : In x all
      k = face_inside d i x j

      over : length (face d) ≤ length (face x)
      over = apart_fits (face d) (face x) (face_apart d i) (λ y. (face_same d x i j y).0)

      under : length (face x) ≤ length (face d)
      under = apart_fits (face x) (face d) (face_apart x k) (λ y. (face_same d x i j y).1)
