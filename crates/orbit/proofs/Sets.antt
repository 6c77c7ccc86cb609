-- Lists as finite sets: taking an element out, and the pigeonhole
use mathlib.Core.Path.{◌≡◌, refl, sym, subst, ap, ◌∙◌}
use mathlib.Core.List.{List, [], ◌∷◌, ◌++◌}
use mathlib.Core.Logic.{◌⊎◌, inl, inr}
use Prim.Native.Nat.{suc, ◌≤◌}
use native.Mathlib.Omega.{arith}
use lib.ListN.{length}
use Rattle.orbit.specs.Walks.{In, Inside, Apart, Disjoint}

module _ {A : Type 0} where
  pub in_left : (x : A) (xs ys : List A) → In x xs → In x (xs ++ ys)
  in_left x [] ys i = elim i [ ]
  in_left x (z ∷ xs) ys (inl e) = inl e
  in_left x (z ∷ xs) ys (inr i) = inr (in_left x xs ys i)

  pub in_right : (x : A) (xs ys : List A) → In x ys → In x (xs ++ ys)
  in_right x [] ys i = i
  in_right x (z ∷ xs) ys i = inr (in_right x xs ys i)

  pub in_either : (x : A) (xs ys : List A) → In x (xs ++ ys) → In x xs ⊎ In x ys
  in_either x [] ys i = inr i
  in_either x (z ∷ xs) ys (inl e) = inl (inl e)
  in_either x (z ∷ xs) ys (inr i) = elim (in_either x xs ys i) [ inl j ↦ inl (inr j) | inr j ↦ inr j ]

  -- ys without one x: one shorter, and every other element is still there
  abbrev pub Rest : A → List A → Type 0
  Rest x ys = (zs : List A) × (length ys ≡ suc (length zs)) × ((y : A) → In y ys → (y ≡ x) ⊎ In y zs)

  pub without : (x : A) (ys : List A) → In x ys → Rest x ys
  without x [] i = elim i [ ]
  without x (y ∷ ys) (inl e) = (ys, refl, λ z. elim [ inl p ↦ inl (p ∙ sym e) | inr i ↦ inr i ])
  without x (y ∷ ys) (inr i) =
      let (zs, l, keep) = without x ys i in
      (y ∷ zs, ap suc l, λ z. elim [ inl p ↦ inr (inl p) | inr j ↦ elim (keep z j) [ inl p ↦ inl p | inr k ↦ inr (inr k) ] ])

  -- The pigeonhole: a list without repetition is no longer than a list that has all its elements
  pub apart_fits : (xs ys : List A) → Apart xs → Inside xs ys → length xs ≤ length ys
  apart_fits [] ys a h = omega arith
  apart_fits (x ∷ xs) ys (new, a) h =
      let (zs, l, keep) = without x ys (h x (inl refl)) in
      let fits : length xs ≤ length zs = apart_fits xs zs a (λ y i. elim (keep y (h y (inr i))) [ inl e ↦ absurd (new (subst (λ (z : A). In z xs) e i)) | inr j ↦ j ]) in
      omega arith

  pub apart_append : (xs ys : List A) → Apart xs → Apart ys → Disjoint xs ys → Apart (xs ++ ys)
  apart_append [] ys a b d = b
  apart_append (x ∷ xs) ys (new, a) b d =
      (λ i. elim (in_either x xs ys i) [ inl j ↦ new j | inr j ↦ d x (inl refl) j ], apart_append xs ys a b (λ y i. d y (inr i)))

  -- of several lists: each without repetition, and no two with a common element
  abbrev pub joined : List (List A) → List A
  joined [] = []
  joined (r ∷ rs) = r ++ joined rs

  abbrev pub Away : List A → List (List A) → Type 0
  Away r [] = Unit {0}
  Away r (s ∷ rs) = Disjoint r s × Away r rs

  abbrev pub Scattered : List (List A) → Type 0
  Scattered [] = Unit {0}
  Scattered (r ∷ rs) = Apart r × Away r rs × Scattered rs

  abbrev pub Within : List (List A) → List A → Type 0
  Within [] u = Unit {0}
  Within (r ∷ rs) u = Inside r u × Within rs u

  away_joined : (r : List A) (rs : List (List A)) → Away r rs → Disjoint r (joined rs)
  away_joined r [] w x i j = elim j [ ]
  away_joined r (s ∷ rs) (d, w) x i j = elim (in_either x s (joined rs) j) [ inl k ↦ d x i k | inr k ↦ away_joined r rs w x i k ]

  pub apart_joined : (rs : List (List A)) → Scattered rs → Apart (joined rs)
  apart_joined [] s = tt
  apart_joined (r ∷ rs) (a, w, s) = apart_append r (joined rs) a (apart_joined rs s) (away_joined r rs w)

  pub joined_inside : (rs : List (List A)) (u : List A) → Within rs u → Inside (joined rs) u
  joined_inside [] u w x i = elim i [ ]
  joined_inside (r ∷ rs) u (h, w) x i = elim (in_either x r (joined rs) i) [ inl j ↦ h x j | inr j ↦ joined_inside rs u w x j ]

  -- The pigeonhole for several lists
  pub scattered_fits : (rs : List (List A)) (u : List A) → Scattered rs → Within rs u → length (joined rs) ≤ length u
  scattered_fits rs u s w = apart_fits (joined rs) u (apart_joined rs s) (joined_inside rs u w)

  -- membership is decided where equality is
  pub in? : ((x y : A) → Dec (x ≡ y)) → (x : A) (ys : List A) → Dec (In x ys)
  in? same x [] = no (λ i. elim i [ ])
  in? same x (y ∷ ys) = go (same x y) (in? same x ys)
    where
      go : Dec (x ≡ y) → Dec (In x ys) → Dec ((x ≡ y) ⊎ In x ys)
      go (yes e) d = yes (inl e)
      go (no n) (yes i) = yes (inr i)
      go (no n) (no m) = no (λ t. elim t [ inl e ↦ n e | inr i ↦ m i ])
