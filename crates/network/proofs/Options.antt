-- Small facts of options, tests and lists
use Rattle.std.proofs.Common.{◌≡◌, ℕ, zero, suc, Bool, true, false, List, [], ◌∷◌, get_or, set, is_some, Some, None, Option, sym, refl, ap, ◌∙◌}
use Rattle.std.proofs.Math.Bool.{or-true}
use Rattle.std.proofs.lemmas.List.{set-get_or}
use Rattle.std.specs.List.{list_any}
use Rattle.floor.specs.Numbers.{iterate}

pub unsome : {A : Type 0} (x y : A) → Some x ≡ Some y → x ≡ y
unsome x y h = cc

pub is_none : {A : Type 0} (o : Option A) → is_some o ≡ false → o ≡ None
is_none None h = refl
is_none (Some x) h = cc

pub some_of : {A : Type 0} (o : Option A) → is_some o ≡ true → (x : A) × (o ≡ Some x)
some_of None h = cc
some_of (Some x) h = (x, refl)

-- ---- a line of a list of lines

pub set_same : {A : Type 0} (xs : List (Option A)) (i : ℕ) (x : A) → get_or xs i None ≡ Some x → set xs i (Some x) ≡ xs
set_same xs i x h = ap (set xs i) (sym h) ∙ set-get_or xs i None

pub get_set : {A : Type 0} (xs : List (Option A)) (i : ℕ) (x : A) (y : Option A) → get_or xs i None ≡ Some x → get_or (set xs i y) i None ≡ y
get_set [] i x y h = cc
get_set (a ∷ xs) zero x y h = refl
get_set (a ∷ xs) (suc i) x y h = get_set xs i x y h

-- what holds of an element holds of some
pub some_at : {A : Type 0} (test : Option A → Bool) (xs : List (Option A)) (i : ℕ) (x : A) → get_or xs i None ≡ Some x → test (Some x) ≡ true → list_any test xs ≡ true
some_at test [] i x h t = cc
some_at test (a ∷ xs) zero x h t = rw (h, t)
some_at test (a ∷ xs) (suc i) x h t = rw (some_at test xs i x h t) (or-true (test a))

-- ---- again and again

-- one more at the start is one more at the end
pub iterate_shift : {A : Type 0} (n : ℕ) (f : A → A) (x : A) → iterate n f (f x) ≡ f (iterate n f x)
iterate_shift zero f x = refl
iterate_shift (suc n) f x = ap f (iterate_shift n f x)
