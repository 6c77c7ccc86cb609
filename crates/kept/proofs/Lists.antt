-- What is in a list, and what its tests tell
use Rattle.std.proofs.Common.{◌≡◌, Bool, true, false, cond, ◌||◌, T, ◌⊎◌, List, [], ◌∷◌, sym, refl, ap, ◌∙◌, subst, inl, inr, true≢false}
pub use Rattle.order.specs.Foremost.{In as Has}
use Rattle.std.specs.List.{filter, list_any}

-- the two readings of a test that holds
pub holds : {b : Bool} → T b → b ≡ true
holds {b = true} t = refl
holds {b = false} t = elim t [ ]

pub told : {b : Bool} → b ≡ true → T b
told e = subst T (sym e) tt

-- two tests that imply each other
pub alike : {a b : Bool} → (a ≡ true → b ≡ true) → (b ≡ true → a ≡ true) → a ≡ b
alike {a = true} {b = c} f g = sym (f refl)
alike {a = false} {b = true} f g = g refl
alike {a = false} {b = false} f g = refl

pub fails : {b : Bool} → (b ≡ true → ⊥) → b ≡ false
fails {b = true} n = absurd (n refl)
fails {b = false} n = refl

module _ {A : Type 0} where
  pub some_found : (test : A → Bool) (xs : List A) → list_any test xs ≡ true → (x : A) × Has x xs × (test x ≡ true)
  some_found test [] e = absurd (true≢false (sym e))
  some_found test (x ∷ xs) e = go (test x) refl e (λ h. some_found test xs h)
    where
      go : (b : Bool) → test x ≡ b → (b || list_any test xs) ≡ true → (list_any test xs ≡ true → (y : A) × Has y xs × (test y ≡ true)) → (y : A) × Has y (x ∷ xs) × (test y ≡ true)
      go true q h more = (x, inl refl, q)
      go false q h more = let (y, i, k) = more h in (y, inr i, k)

  pub found_some : (test : A → Bool) (xs : List A) (x : A) → Has x xs → test x ≡ true → list_any test xs ≡ true
  found_some test [] x i e = elim i [ ]
  found_some test (y ∷ ys) x (inl p) e = ap (λ (b : Bool). b || list_any test ys) (ap test (sym p) ∙ e)
  found_some test (y ∷ ys) x (inr i) e = ap (λ (b : Bool). test y || b) (found_some test ys x i e) ∙ go (test y)
    where
      go : (b : Bool) → (b || true) ≡ true
      go true = refl
      go false = refl

  pub filter_has : (test : A → Bool) (xs : List A) (x : A) → Has x (filter test xs) → Has x xs × (test x ≡ true)
  filter_has test [] x i = elim i [ ]
  filter_has test (y ∷ ys) x i = go (test y) refl i (λ j. filter_has test ys x j)
    where
      go : (b : Bool) → test y ≡ b → Has x (cond b (y ∷ filter test ys) (filter test ys)) → (Has x (filter test ys) → Has x ys × (test x ≡ true)) → Has x (y ∷ ys) × (test x ≡ true)
      go true q (inl p) more = (inl p, ap test p ∙ q)
      go true q (inr j) more = let (k, h) = more j in (inr k, h)
      go false q j more = let (k, h) = more j in (inr k, h)

  pub has_filter : (test : A → Bool) (xs : List A) (x : A) → Has x xs → test x ≡ true → Has x (filter test xs)
  has_filter test [] x i e = elim i [ ]
  has_filter test (y ∷ ys) x i e = go (test y) refl i (λ j. has_filter test ys x j e)
    where
      go : (b : Bool) → test y ≡ b → (x ≡ y) ⊎ Has x ys → (Has x ys → Has x (filter test ys)) → Has x (cond b (y ∷ filter test ys) (filter test ys))
      go true q (inl p) more = inl p
      go true q (inr j) more = inr (more j)
      go false q (inl p) more = absurd (true≢false (sym e ∙ ap test p ∙ q))
      go false q (inr j) more = more j
