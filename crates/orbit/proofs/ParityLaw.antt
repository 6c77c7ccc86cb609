-- The parity law of a closed walk, from its identities dart by dart and corner by corner
use mathlib.Core.Path.{◌≡◌, refl, sym, ap, ap₂, ◌∙◌}
use mathlib.Core.Bool.{Bool, true, false, ◌&&◌}
use mathlib.Core.List.{List}
use native.Mathlib.Omega.{arith}
use Rattle.orbit.specs.Walks.{In, ◌⊕◌, parity}
use Rattle.orbit.proofs.Parity.{⊕-self, &&-⊕, parity_same, parity_add}

-- a sum over the list is the sum over the next ones: all that the law asks of a closed walk
abbrev pub Turns : {A : Type 0} → (A → A) → List A → Type 0
Turns {A} next xs = (h : A → Bool) → parity h xs ≡ parity (λ x. h (next x)) xs

-- a test that only counts where the guard is up
guarded : (g a b : Bool) → (g ≡ true → a ≡ b) → (g && a) ≡ (g && b)
guarded true a b h = h refl
guarded false a b h = refl

cancel_both : (s t m x y : Bool) → s ⊕ t ≡ (m ⊕ x) ⊕ (m ⊕ y) → s ⊕ x ≡ t ⊕ y
cancel_both s t m x y h = grind arith

cancel_one : (s t m x : Bool) → s ⊕ t ≡ m ⊕ x → t ≡ (s ⊕ x) ⊕ m
cancel_one s t m x h = grind arith

&&-swap : (a b : Bool) → (a && b) ≡ (b && a)
&&-swap a b = grind arith

module _ {A : Type 0} {N : Type 0} (tail head : A → N) where
  -- what a dart at the node `is` says of its other end
  abbrev pub ends : (N → Bool) → (N → Bool) → A → Bool
  ends is side x = (is (tail x) && side (head x)) ⊕ (is (head x) && side (tail x))

-- the hits along a walk, and its corners at the node `is` that turn past the direction
abbrev pub winding : {A N : Type 0} → (A → N) → (A → Bool) → List A → (A → Bool) → (N → Bool) → Bool
winding head turned xs hit is = parity hit xs ⊕ parity (λ x. is (head x) && turned x) xs

module _ {A : Type 0} {N : Type 0} (next : A → A) (tail head : A → N) (xs : List A)
    (turns : Turns next xs) (joint : (x : A) → In x xs → tail (next x) ≡ head x) where
  -- each node is counted at the dart that comes and at the dart that goes
  pub nodes_even : (inside : N → Bool) → parity (λ x. inside (tail x) ⊕ inside (head x)) xs ≡ false
  nodes_even inside =
      parity_add (λ x. inside (tail x)) (λ x. inside (head x)) xs
      ∙ ap (λ (b : Bool). b ⊕ parity (λ x. inside (head x)) xs) (turns (λ x. inside (tail x)) ∙ parity_same (λ x. inside (tail (next x))) (λ x. inside (head x)) xs (λ x i. ap inside (joint x i)))
      ∙ ⊕-self (parity (λ x. inside (head x)) xs)

  -- the same sum, by the corners at that node: x comes, next x goes
  pub by_corners : (is side : N → Bool) → parity (ends tail head is side) xs ≡ parity (λ x. is (head x) && (side (tail x) ⊕ side (head (next x)))) xs
  by_corners is side =
      parity_add (λ x. is (tail x) && side (head x)) comes xs
      ∙ ap (λ (b : Bool). b ⊕ parity comes xs) (turns (λ x. is (tail x) && side (head x)) ∙ parity_same (λ x. is (tail (next x)) && side (head (next x))) goes xs (λ x i. ap (λ (n : N). is n && side (head (next x))) (joint x i)))
      ∙ sym (parity_add goes comes xs)
      ∙ parity_same (λ x. goes x ⊕ comes x) (λ x. is (head x) && (side (tail x) ⊕ side (head (next x)))) xs (λ x i. one (is (head x)) (side (head (next x))) (side (tail x)))
    where
      comes : A → Bool
      comes x = is (head x) && side (tail x)

      goes : A → Bool
      goes x = is (head x) && side (head (next x))

      one : (g a b : Bool) → (g && a) ⊕ (g && b) ≡ (g && (b ⊕ a))
      one g a b = grind arith

  -- with a corner equation side(u) + side(w) = extra + turned at each corner there
  at_corners : (is side : N → Bool) (extra turned : A → Bool)
      → ((x : A) → In x xs → is (head x) ≡ true → side (tail x) ⊕ side (head (next x)) ≡ extra x ⊕ turned x)
      → parity (ends tail head is side) xs ≡ parity (λ x. is (head x) && extra x) xs ⊕ parity (λ x. is (head x) && turned x) xs
  at_corners is side extra turned corner =
      by_corners is side
      ∙ parity_same (λ x. is (head x) && (side (tail x) ⊕ side (head (next x)))) (λ x. (is (head x) && extra x) ⊕ (is (head x) && turned x)) xs
      (λ x i. guarded (is (head x)) (side (tail x) ⊕ side (head (next x))) (extra x ⊕ turned x) (corner x i) ∙ &&-⊕ (is (head x)) (extra x) (turned x))
      ∙ parity_add (λ x. is (head x) && extra x) (λ x. is (head x) && turned x) xs

  -- THE LAW of part 3: the two ends of a link wind alike
  pub law : (is_a is_b inside sideA sideB : N → Bool) (hitA hitB turned : A → Bool)
      → ((x : A) → In x xs → (inside (tail x) ⊕ inside (head x)) ⊕ (hitA x ⊕ hitB x) ≡ ends tail head is_a sideA x ⊕ ends tail head is_b sideB x)
      → ((x : A) → In x xs → is_a (head x) ≡ true → sideA (tail x) ⊕ sideA (head (next x)) ≡ is_b (tail x) ⊕ turned x)
      → ((x : A) → In x xs → is_b (head x) ≡ true → sideB (tail x) ⊕ sideB (head (next x)) ≡ is_a (head (next x)) ⊕ turned x)
      → winding head turned xs hitA is_a ≡ winding head turned xs hitB is_b
  law is_a is_b inside sideA sideB hitA hitB turned dart cornerA cornerB =
      cancel_both (parity hitA xs) (parity hitB xs) (parity (λ x. is_a (head x) && is_b (tail x)) xs) (parity (λ x. is_a (head x) && turned x) xs) (parity (λ x. is_b (head x) && turned x) xs)
      (hits ∙ ap₂ ◌⊕◌ (at_corners is_a sideA (λ x. is_b (tail x)) turned cornerA) (at_corners is_b sideB (λ x. is_a (head (next x))) turned cornerB ∙ ap (λ (b : Bool). b ⊕ parity (λ x. is_b (head x) && turned x) xs) passes))
    where
      both : A → Bool
      both x = hitA x ⊕ hitB x

      hits : parity hitA xs ⊕ parity hitB xs ≡ parity (ends tail head is_a sideA) xs ⊕ parity (ends tail head is_b sideB) xs
      hits =
          sym (parity_add hitA hitB xs)
          ∙ ap (λ (b : Bool). b ⊕ parity both xs) (sym (nodes_even inside))
          ∙ sym (parity_add (λ x. inside (tail x) ⊕ inside (head x)) both xs)
          ∙ parity_same (λ x. (inside (tail x) ⊕ inside (head x)) ⊕ both x) (λ x. ends tail head is_a sideA x ⊕ ends tail head is_b sideB x) xs dart
          ∙ parity_add (ends tail head is_a sideA) (ends tail head is_b sideB) xs

      passes : parity (λ x. is_b (head x) && is_a (head (next x))) xs ≡ parity (λ x. is_a (head x) && is_b (tail x)) xs
      passes =
          parity_same (λ x. is_b (head x) && is_a (head (next x))) (λ x. is_a (head (next x)) && is_b (tail (next x))) xs
          (λ x i. &&-swap (is_b (head x)) (is_a (head (next x))) ∙ ap (λ (n : N). is_a (head (next x)) && is_b n) (sym (joint x i)))
          ∙ sym (turns (λ x. is_a (head x) && is_b (tail x)))

  -- THE LAW of part 4: a point of the link a b, which is no node, is hit as a winds, but for the passes over b a
  pub law_between : (is_a is_b inside sideA : N → Bool) (hitA hitX turned : A → Bool)
      → ((x : A) → In x xs → (inside (tail x) ⊕ inside (head x)) ⊕ (hitA x ⊕ hitX x) ≡ ends tail head is_a sideA x)
      → ((x : A) → In x xs → is_a (head x) ≡ true → sideA (tail x) ⊕ sideA (head (next x)) ≡ is_b (tail x) ⊕ turned x)
      → parity hitX xs ≡ winding head turned xs hitA is_a ⊕ parity (λ x. is_a (head x) && is_b (tail x)) xs
  law_between is_a is_b inside sideA hitA hitX turned dart corner =
      cancel_one (parity hitA xs) (parity hitX xs) (parity (λ x. is_a (head x) && is_b (tail x)) xs) (parity (λ x. is_a (head x) && turned x) xs)
      (hits ∙ at_corners is_a sideA (λ x. is_b (tail x)) turned corner)
    where
      both : A → Bool
      both x = hitA x ⊕ hitX x

      hits : parity hitA xs ⊕ parity hitX xs ≡ parity (ends tail head is_a sideA) xs
      hits =
          sym (parity_add hitA hitX xs)
          ∙ ap (λ (b : Bool). b ⊕ parity both xs) (sym (nodes_even inside))
          ∙ sym (parity_add (λ x. inside (tail x) ⊕ inside (head x)) both xs)
          ∙ parity_same (λ x. (inside (tail x) ⊕ inside (head x)) ⊕ both x) (ends tail head is_a sideA) xs dart
