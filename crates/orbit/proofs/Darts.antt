-- The darts of a graph on the nodes below n, and the turning that a rotation of the neighbours makes of them
use mathlib.Core.Path.{◌≡◌, refl, sym, subst, ap, ap₂, ◌∙◌}
use mathlib.Core.Bool.{Bool, true, false, cond, true≢false}
use mathlib.Core.List.{List, [], ◌∷◌, ◌++◌}
use mathlib.Core.Logic.{◌⊎◌, inl, inr}
use Prim.Native.Nat.{ℕ, zero, suc, ◌+◌, ◌*◌, ◌≤◌, ◌<◌}
use native.Mathlib.Omega.{arith}
use native.Mathlib.Decide.{ℕ_discrete}
use lib.ListN.{length, length-append}
use Rattle.orbit.specs.Walks.{In}
use Rattle.orbit.proofs.Sets.{in_left, in_right, in_either}
use Rattle.orbit.proofs.Orbit.{Turning}
use Rattle.orbit.proofs.Count.{bit}

abbrev pub Dart : Type 0
Dart = ℕ × ℕ

pub dart_same : (x y : Dart) → Dec (x ≡ y)
dart_same x y = go (ℕ_discrete x.0 y.0) (ℕ_discrete x.1 y.1)
  where
    go : Dec (x.0 ≡ y.0) → Dec (x.1 ≡ y.1) → Dec (x ≡ y)
    go (yes a) (yes b) = yes (λ i. (a i, b i))
    go (yes a) (no n) = no (λ e. n (ap (λ (d : Dart). d.1) e))
    go (no n) b = no (λ e. n (ap (λ (d : Dart). d.0) e))

module _ (kept : ℕ → ℕ → Bool) where
  -- both darts of each link between m and a node below v
  row : ℕ → ℕ → List Dart
  row m zero = []
  row m (suc v) = cond (kept m v) ((m, v) ∷ (v, m) ∷ row m v) (row m v)

  -- the links between m and the nodes below v
  unfoldable pub degree : ℕ → ℕ → ℕ
  degree m zero = 0
  degree m (suc v) = bit (kept m v) + degree m v

  pub darts : ℕ → List Dart
  darts zero = []
  darts (suc n) = row n n ++ darts n

  -- the number of links between nodes below n
  unfoldable pub links : ℕ → ℕ
  unfolding degree
  links zero = 0
  links (suc n) = degree n n + links n

  length_row : (m v : ℕ) → length (row m v) ≡ 2 * degree m v
  unfolding row degree
  length_row m zero = refl
  length_row m (suc v) = go (kept m v) (length_row m v)
    where
      go : (b : Bool) → length (row m v) ≡ 2 * degree m v → length (cond b ((m, v) ∷ (v, m) ∷ row m v) (row m v)) ≡ 2 * (bit b + degree m v)
      go true h = omega arith
      go false h = omega arith

  -- THE UNIVERSE has twice as many darts as links
  pub length_darts : (n : ℕ) → length (darts n) ≡ 2 * links n
  unfolding darts links
  length_darts zero = refl
  length_darts (suc n) = omega (arith, length-append (row n n) (darts n), length_row n n, length_darts n)

  -- what is in a row
  in_row : (m v w : ℕ) → w < v → kept m w ≡ true → In (m, w) (row m v) × In (w, m) (row m v)
  unfolding row
  in_row m zero w l k = absurd (omega arith)
  in_row m (suc v) w l k = go (ℕ_discrete w v) (kept m v) refl (λ h. in_row m v w h k)
    where
      go : Dec (w ≡ v) → (b : Bool) → kept m v ≡ b → (w < v → In (m, w) (row m v) × In (w, m) (row m v))
          → In (m, w) (cond b ((m, v) ∷ (v, m) ∷ row m v) (row m v)) × In (w, m) (cond b ((m, v) ∷ (v, m) ∷ row m v) (row m v))
      go (yes e) true q more = (inl (λ i. (m, e i)), inr (inl (λ i. (e i, m))))
      go (yes e) false q more = absurd (true≢false (sym k ∙ ap (kept m) e ∙ q))
      go (no n) true q more = let (a, b) = more (omega arith) in (inr (inr a), inr (inr b))
      go (no n) false q more = more (omega arith)

  module _ (symmetric : (u v : ℕ) → kept u v ≡ kept v u) (irreflexive : (u : ℕ) → kept u u ≡ false) where
    pub in_darts : (n u v : ℕ) → u < n → v < n → kept u v ≡ true → In (u, v) (darts n)
    unfolding darts
    in_darts zero u v l m k = absurd (omega arith)
    in_darts (suc n) u v l m k = go (ℕ_discrete u n) (ℕ_discrete v n) (λ a b. in_darts n u v a b k)
      where
        go : Dec (u ≡ n) → Dec (v ≡ n) → (u < n → v < n → In (u, v) (darts n)) → In (u, v) (row n n ++ darts n)
        go (yes a) (yes b) more = absurd (true≢false (sym k ∙ ap₂ kept a b ∙ irreflexive n))
        go (yes a) (no b) more = in_left (u, v) (row n n) (darts n) (subst (λ (z : ℕ). In (z, v) (row n n)) (sym a) (in_row n n v (omega arith) (ap (λ (z : ℕ). kept z v) (sym a) ∙ k)).0)
        go (no a) (yes b) more = in_left (u, v) (row n n) (darts n) (subst (λ (z : ℕ). In (u, z) (row n n)) (sym b) (in_row n n u (omega arith) (symmetric n u ∙ ap (kept u) (sym b) ∙ k)).1)
        go (no a) (no b) more = in_right (u, v) (row n n) (darts n) (more (omega arith) (omega arith))

    abbrev Is : ℕ → Dart → Type 0
    Is n x = (x.0 < n) × (x.1 < n) × (kept x.0 x.1 ≡ true)

    row_in : (m v n : ℕ) (x : Dart) → m < n → v ≤ n → In x (row m v) → Is n x
    unfolding row
    row_in m zero n x l h i = elim i [ ]
    row_in m (suc v) n x l h i = go (kept m v) refl i (λ j. row_in m v n x l (omega arith) j)
      where
        go : (b : Bool) → kept m v ≡ b → In x (cond b ((m, v) ∷ (v, m) ∷ row m v) (row m v)) → (In x (row m v) → Is n x) → Is n x
        go true q (inl e) more = subst (Is n) (sym e) (l, omega arith, q)
        go true q (inr (inl e)) more = subst (Is n) (sym e) (omega arith, l, symmetric v m ∙ q)
        go true q (inr (inr j)) more = more j
        go false q j more = more j

    pub darts_in : (n u v : ℕ) → In (u, v) (darts n) → (u < n) × (v < n) × (kept u v ≡ true)
    unfolding darts
    darts_in zero u v i = elim i [ ]
    darts_in (suc n) u v i = go (in_either (u, v) (row n n) (darts n) i) (λ j. darts_in n u v j)
      where
        go : In (u, v) (row n n) ⊎ In (u, v) (darts n) → (In (u, v) (darts n) → (u < n) × (v < n) × (kept u v ≡ true)) → (u < suc n) × (v < suc n) × (kept u v ≡ true)
        go (inl j) more = let (a, b, k) = row_in n n (suc n) (u, v) (omega arith) (omega arith) j in (omega arith, omega arith, k)
        go (inr j) more = let (a, b, k) = more j in (omega arith, omega arith, k)

    -- after v u is the neighbour of v that comes after u in the rotation at v, and `before` undoes it
    module _ (n : ℕ) (after before : ℕ → ℕ → ℕ)
        (after_kept : (v u : ℕ) → u < n → v < n → kept v u ≡ true → (after v u < n) × (kept v (after v u) ≡ true))
        (undone : (v u : ℕ) → u < n → v < n → kept v u ≡ true → before v (after v u) ≡ u) where
      abbrev pub turn_at : Dart → Dart
      turn_at x = (x.1, after x.1 x.0)

      pub turn_stays : (x : Dart) → In x (darts n) → In (turn_at x) (darts n)
      turn_stays x i =
          let (a, b, k) = darts_in n x.0 x.1 i in
          let (c, h) = after_kept x.1 x.0 a b (symmetric x.1 x.0 ∙ k) in
          in_darts n x.1 (after x.1 x.0) b c h

      pub turn_apart : (x y : Dart) → In x (darts n) → In y (darts n) → turn_at x ≡ turn_at y → x ≡ y
      turn_apart x y i j e =
          let (a, b, k) = darts_in n x.0 x.1 i in
          let (c, d, h) = darts_in n y.0 y.1 j in
          let f : x.1 ≡ y.1 = ap (λ (z : Dart). z.0) e in
          let g : x.0 ≡ y.0 =
          sym (undone x.1 x.0 a b (symmetric x.1 x.0 ∙ k))
          ∙ ap (λ (z : Dart). before z.0 z.1) e
          ∙ undone y.1 y.0 c d (symmetric y.1 y.0 ∙ h) in
          (λ t. (g t, f t))

      -- THE TURNING of a graph with a rotation; its `next` computes
      abbrev pub turning : Turning Dart
      turning = record { same = dart_same; all = darts n; next = turn_at; closed = turn_stays; injective = turn_apart }
