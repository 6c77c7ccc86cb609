-- The foremost of a sequence of offers.
use Rattle.std.specs.Prelude.{◌≡◌, Bool, true, false, cond, ◌⊎◌, List, [], ◌∷◌, ◌++◌, Some, None, Option}

-- what is held after some offers, x held first: an item that comes before the held one takes its place
abbrev pub held : {A : Type 0} → (A → A → Bool) → A → List A → A
held before x [] = x
held before x (y ∷ ys) = held before (cond (before y x) y x) ys

abbrev pub foremost : {A : Type 0} → (A → A → Bool) → List A → Option A
foremost before [] = None
foremost before (x ∷ xs) = Some (held before x xs)

-- whether an offer is taken: nothing is held, or it comes before what is
abbrev pub taken : {A : Type 0} → (A → A → Bool) → Option A → A → Bool
taken before None y = true
taken before (Some x) y = before y x

-- what is held after one offer
abbrev pub offered : {A : Type 0} → (A → A → Bool) → Option A → A → Option A
offered before None y = Some y
offered before (Some x) y = Some (cond (before y x) y x)

-- what the offer hands back: the one that is not held
abbrev pub returned : {A : Type 0} → (A → A → Bool) → Option A → A → Option A
returned before None y = None
returned before (Some x) y = Some (cond (before y x) x y)

-- x stands in the list
abbrev pub In : {A : Type 0} → A → List A → Type 0
In x [] = ⊥
In x (y ∷ ys) = (x ≡ y) ⊎ In x ys

-- w is an item of the list that none comes before, and the first such: it comes before all in front of it
pub record First {A : Type 0} (before : A → A → Bool) (all : List A) (w : A) : Type 0 where
  pub front : List A
  pub back : List A
  pub place : all ≡ front ++ w ∷ back
  pub none_before : (y : A) → In y all → before y w ≡ false
  pub is_first : (y : A) → In y front → before w y ≡ true
