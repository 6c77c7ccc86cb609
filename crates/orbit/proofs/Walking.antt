-- Steps and walks along a function
use mathlib.Core.Path.{◌≡◌, refl, sym, subst, ap, ◌∙◌}
use mathlib.Core.List.{List, ◌∷◌}
use mathlib.Core.Logic.{inl, inr}
use Prim.Native.Nat.{ℕ, zero, suc, ◌+◌, ◌≤◌, ◌<◌}
use native.Mathlib.Omega.{arith}
use native.Mathlib.Nat.{add-suc, suc-add, add-zero, zero-add}
use lib.ListN.{length, take, drop, get_or}
use Rattle.orbit.specs.Walks.{In, Inside, steps, walk}

module _ {A : Type 0} (next : A → A) where
  pub steps_next : (k : ℕ) (d : A) → steps next (suc k) d ≡ next (steps next k d)
  steps_next zero d = refl
  steps_next (suc k) d = steps_next k (next d)

  pub steps_add : (i j : ℕ) (d : A) → steps next (i + j) d ≡ steps next j (steps next i d)
  steps_add zero j d = rw zero-add refl
  steps_add (suc i) j d = rw suc-add (steps_add i j (next d))

  pub length_walk : (k : ℕ) (d : A) → length (walk next k d) ≡ k
  length_walk zero d = refl
  length_walk (suc k) d = ap suc (length_walk k (next d))

  -- the elements of a walk are the first steps
  pub in_walk : (k i : ℕ) (d : A) → i < k → In (steps next i d) (walk next k d)
  in_walk zero i d h = absurd (omega arith)
  in_walk (suc k) zero d h = inl refl
  in_walk (suc k) (suc i) d h = inr (in_walk k i (next d) (omega arith))

  pub walk_in : (k : ℕ) (d x : A) → In x (walk next k d) → (i : ℕ) × (i < k) × (steps next i d ≡ x)
  walk_in zero d x i = elim i [ ]
  walk_in (suc k) d x (inl e) = (zero, omega arith, sym e)
  walk_in (suc k) d x (inr i) = let (j, l, e) = walk_in k (next d) x i in (suc j, omega arith, e)

  -- a set that the function does not leave
  module _ (u : List A) (closed : (x : A) → In x u → In (next x) u) where
    pub steps_inside : (k : ℕ) (d : A) → In d u → In (steps next k d) u
    steps_inside zero d i = i
    steps_inside (suc k) d i = steps_inside k (next d) (closed d i)

    pub walk_inside : (k : ℕ) (d : A) → In d u → Inside (walk next k d) u
    walk_inside k d i x j = let (m, l, e) = walk_in k d x j in subst (λ (y : A). In y u) e (steps_inside m d i)

  -- parts of a walk are walks
  pub take_walk : (k n : ℕ) (d : A) → k ≤ n → take k (walk next n d) ≡ walk next k d
  take_walk zero n d l = refl
  take_walk (suc k) zero d l = absurd (omega arith)
  take_walk (suc k) (suc n) d l = ap (◌∷◌ d) (take_walk k n (next d) (omega arith))

  pub drop_walk : (k m : ℕ) (d : A) → drop k (walk next (k + m) d) ≡ walk next m (steps next k d)
  drop_walk zero m d = rw zero-add refl
  drop_walk (suc k) m d = rw suc-add (drop_walk k m (next d))

  pub getD_walk : (n i : ℕ) (d e : A) → i < n → get_or (walk next n d) i e ≡ steps next i d
  getD_walk zero i d e l = absurd (omega arith)
  getD_walk (suc n) zero d e l = refl
  getD_walk (suc n) (suc i) d e l = getD_walk n i (next d) e (omega arith)

  -- back along a function that undoes it
  pub steps_back : (u : List A) → ((x : A) → In x u → In (next x) u) → (previous : A → A) → ((x : A) → In x u → previous (next x) ≡ x)
      → (m j : ℕ) (d : A) → In d u → steps previous j (steps next (m + j) d) ≡ steps next m d
  steps_back u closed previous undo m zero d i = ap (λ (n : ℕ). steps next n d) (add-zero m)
  steps_back u closed previous undo m (suc j) d i =
      ap (λ (x : A). steps previous j (previous x)) (ap (λ (n : ℕ). steps next n d) (add-suc m j) ∙ steps_next (m + j) d)
      ∙ ap (steps previous j) (undo (steps next (m + j) d) (steps_inside u closed (m + j) d i))
      ∙ steps_back u closed previous undo m j d i
