-- Sums modulo 2
use mathlib.Core.Path.{◌≡◌, refl, sym, subst, ap, ap₂, ◌∙◌}
use mathlib.Core.Bool.{Bool, true, false, ◌&&◌}
use mathlib.Core.List.{List, [], ◌∷◌}
use mathlib.Core.Logic.{inl, inr}
use Prim.Native.Nat.{ℕ, zero, suc}
use native.Mathlib.Omega.{arith}
use Rattle.orbit.specs.Walks.{In, Apart, ◌⊕◌, parity, steps, walk}

pub ⊕-self : (a : Bool) → a ⊕ a ≡ false
⊕-self true = refl
⊕-self false = refl

pub ⊕-assoc : (a b c : Bool) → a ⊕ b ⊕ c ≡ a ⊕ (b ⊕ c)
⊕-assoc a b c = grind arith

pub ⊕-swap : (a b c d : Bool) → (a ⊕ b) ⊕ (c ⊕ d) ≡ (a ⊕ c) ⊕ (b ⊕ d)
⊕-swap a b c d = grind arith

pub &&-⊕ : (a b c : Bool) → (a && (b ⊕ c)) ≡ (a && b) ⊕ (a && c)
&&-⊕ a b c = grind arith

module _ {A : Type 0} where
  -- only the values on the list count
  pub parity_same : (f g : A → Bool) (xs : List A) → ((x : A) → In x xs → f x ≡ g x) → parity f xs ≡ parity g xs
  parity_same f g [] h = refl
  parity_same f g (x ∷ xs) h = ap₂ ◌⊕◌ (h x (inl refl)) (parity_same f g xs (λ y i. h y (inr i)))

  pub parity_add : (f g : A → Bool) (xs : List A) → parity (λ x. f x ⊕ g x) xs ≡ parity f xs ⊕ parity g xs
  parity_add f g [] = refl
  parity_add f g (x ∷ xs) = ap (◌⊕◌ (f x ⊕ g x)) (parity_add f g xs) ∙ ⊕-swap (f x) (g x) (parity f xs) (parity g xs)

  pub parity_none : (f : A → Bool) (xs : List A) → ((x : A) → In x xs → f x ≡ false) → parity f xs ≡ false
  parity_none f [] h = refl
  parity_none f (x ∷ xs) h = ap₂ ◌⊕◌ (h x (inl refl)) (parity_none f xs (λ y i. h y (inr i)))

  -- an odd sum has a term
  pub odd_has : (f : A → Bool) (xs : List A) → parity f xs ≡ true → (x : A) × In x xs × (f x ≡ true)
  odd_has f [] h = absurd (grind arith)
  odd_has f (x ∷ xs) h = go (f x) refl (λ k. odd_has f xs k)
    where
      go : (b : Bool) → f x ≡ b → (parity f xs ≡ true → (y : A) × In y xs × (f y ≡ true)) → (y : A) × In y (x ∷ xs) × (f y ≡ true)
      go true e more = (x, inl refl, e)
      go false e more = let (y, i, k) = more (sym (ap (λ (b : Bool). b ⊕ parity f xs) e) ∙ h) in (y, inr i, k)

  -- a test that holds of e alone counts whether e is there, in a list without repetition
  pub parity_one : (f : A → Bool) (e : A) (xs : List A) → f e ≡ true → ((x : A) → In x xs → f x ≡ true → x ≡ e) → Apart xs → In e xs → parity f xs ≡ true
  parity_one f e [] t only a i = elim i [ ]
  parity_one f e (x ∷ xs) t only (new, a) (inl p) =
      ap₂ ◌⊕◌ (ap f (sym p) ∙ t) (parity_none f xs (λ y i. off y i (f y) refl))
    where
      off : (y : A) → In y xs → (b : Bool) → f y ≡ b → f y ≡ false
      off y i false q = q
      off y i true q = absurd (new (subst (λ (z : A). In z xs) (only y (inr i) q ∙ p) i))
  parity_one f e (x ∷ xs) t only (new, a) (inr i) = ap₂ ◌⊕◌ (off (f x) refl) (parity_one f e xs t (λ y j. only y (inr j)) a i)
    where
      off : (b : Bool) → f x ≡ b → f x ≡ false
      off false q = q
      off true q = absurd (new (subst (λ (z : A). In z xs) (sym (only x (inl refl) q)) i))

  pub parity_absent : (f : A → Bool) (e : A) (xs : List A) → ((x : A) → In x xs → f x ≡ true → x ≡ e) → (¬ In e xs) → parity f xs ≡ false
  parity_absent f e xs only out = parity_none f xs (λ x i. off x i (f x) refl)
    where
      off : (x : A) → In x xs → (b : Bool) → f x ≡ b → f x ≡ false
      off x i false q = q
      off x i true q = absurd (out (subst (λ (z : A). In z xs) (only x i q) i))

  module _ (next : A → A) where
    -- the telescoping sum along a walk
    pub telescope : (h : A → Bool) (n : ℕ) (d : A) → parity (λ x. h x ⊕ h (next x)) (walk next n d) ≡ h d ⊕ h (steps next n d)
    telescope h zero d = sym (⊕-self (h d))
    telescope h (suc n) d = ap (◌⊕◌ (h d ⊕ h (next d))) (telescope h n (next d)) ∙ collapse (h d) (h (next d)) (h (steps next n (next d)))
      where
        collapse : (a b c : Bool) → (a ⊕ b) ⊕ (b ⊕ c) ≡ a ⊕ c
        collapse a b c = grind arith

    -- a closed walk: each element may be replaced by the next one
    pub parity_shift : (h : A → Bool) (n : ℕ) (d : A) → steps next n d ≡ d → parity h (walk next n d) ≡ parity (λ x. h (next x)) (walk next n d)
    parity_shift h n d back = equal (parity h w) (parity (λ x. h (next x)) w)
        (sym (parity_add h (λ x. h (next x)) w) ∙ telescope h n d ∙ ap (λ (z : A). h d ⊕ h z) back ∙ ⊕-self (h d))
      where
        w : List A
        w = walk next n d

        equal : (a b : Bool) → a ⊕ b ≡ false → a ≡ b
        equal a b e = grind arith
