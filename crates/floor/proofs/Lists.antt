-- Elements by number, and tests on all of them.
use Rattle.std.proofs.Common.{◌≡◌, ℕ, zero, suc, Bool, false, ◌⊎◌, List, [], ◌∷◌, ◌++◌, length, Some, sym, refl, ap, ◌∙◌, inl, inr, ⊎_elim}
use Rattle.std.proofs.lemmas.Bool.{or_parts}
use Rattle.std.specs.List.{slice_get, list_any}

pub no_place : {A : Type 0} {X : Type 0} (i : ℕ) (x : A) → slice_get [] i ≡ Some x → X
no_place i x e = cc

-- a test that none passes
pub none_is : {A : Type 0} (f : A → Bool) (xs : List A) → list_any f xs ≡ false → (i : ℕ) (x : A) → slice_get xs i ≡ Some x → f x ≡ false
none_is f [] h i x e = no_place i x e
none_is f (y ∷ ys) h zero x e = let here : y ≡ x = cc in ap f (sym here) ∙ (or_parts (f y) (list_any f ys) h).0
none_is f (y ∷ ys) h (suc i) x e = none_is f ys (or_parts (f y) (list_any f ys) h).1 i x e

-- what stands at a place once y is added
pub get_push : {A : Type 0} (xs : List A) (y : A) (i : ℕ) (x : A) → slice_get (xs ++ y ∷ []) i ≡ Some x → (slice_get xs i ≡ Some x) ⊎ ((i ≡ length xs) × (x ≡ y))
get_push [] y zero x e = inr (refl, cc)
get_push [] y (suc i) x e = no_place i x e
get_push (z ∷ zs) y zero x e = inl e
get_push (z ∷ zs) y (suc i) x e = ⊎_elim inl (λ h. inr (ap suc h.0, h.1)) (get_push zs y i x e)
