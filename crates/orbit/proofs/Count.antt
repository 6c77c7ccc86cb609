-- How many sends a run makes, and how many over one link
use mathlib.Core.Path.{◌≡◌, refl, subst, ap}
use mathlib.Core.Bool.{Bool, true, false}
use mathlib.Core.List.{List, [], ◌∷◌, ◌++◌, map, reverse, reverse_aux}
use mathlib.Core.Logic.{◌⊎◌, inl, inr}
use Prim.Native.Nat.{ℕ, suc, ◌+◌, ◌-◌, ◌*◌, ◌≤◌, ◌<◌}
use native.Mathlib.Omega.{arith}
use lib.ListN.{length, take, drop, length-append, length-map, length-reverse, length-drop, length-take, take-append-drop}
use Rattle.orbit.specs.Walks.{In, Apart}
use Rattle.orbit.proofs.Sets.{without, joined, Scattered, Within, apart_joined, scattered_fits}

-- a closed round: the darts that it sent, and the sends of the walk behind it
pub record Lap (A : Type 0) : Type 0 where
  pub darts : List A
  pub walked : List A

abbrev pub bit : Bool → ℕ
bit true = 1
bit false = 0

module _ {A : Type 0} where
  abbrev pub rounds : List (Lap A) → List (List A)
  rounds [] = []
  rounds (r ∷ rs) = r.darts ∷ rounds rs

  abbrev pub sends : List (Lap A) → ℕ
  sends [] = 0
  sends (r ∷ rs) = length r.darts + length r.walked + sends rs

  -- the walk behind a round of n links has at most (n - 1) / 2
  abbrev pub Short : List (Lap A) → Type 0
  Short [] = Unit {0}
  Short (r ∷ rs) = (2 * length r.walked < length r.darts) × Short rs

  sends_by_darts : (rs : List (Lap A)) → Short rs → 2 * sends rs ≤ 3 * length (joined (rounds rs))
  sends_by_darts [] s = omega arith
  sends_by_darts (r ∷ rs) (l, s) = let h = sends_by_darts rs s in omega (arith, h, length-append r.darts (joined (rounds rs)))

  module _ (u : List A) (k : ℕ) (twice : length u ≡ 2 * k) where
    -- all rounds closed
    pub sends_at_most : (rs : List (Lap A)) → Scattered (rounds rs) → Within (rounds rs) u → Short rs → sends rs ≤ 3 * k
    sends_at_most rs s w h = omega (arith, sends_by_darts rs h, scattered_fits (rounds rs) u s w)

    -- in a round that has sent all of `now` but the last
    pub sends_in_round : (now : List A) (rs : List (Lap A)) → 0 < length now → Scattered (now ∷ rounds rs) → Within (now ∷ rounds rs) u → Short rs → sends rs + (length now - 1) < 3 * k
    sends_in_round now rs some s w h = omega (arith, sends_by_darts rs h, scattered_fits (now ∷ rounds rs) u s w, length-append now (joined (rounds rs)))

    -- in a walk that has made j of its sends
    pub sends_in_walk : (r : Lap A) (rs : List (Lap A)) (j : ℕ) → j < length r.walked → Scattered (rounds (r ∷ rs)) → Within (rounds (r ∷ rs)) u → Short (r ∷ rs) → sends rs + length r.darts + j < 3 * k
    sends_in_walk r rs j l s w h = omega (arith, sends_at_most (r ∷ rs) s w h)

  -- ---- how often a list has an element with a property
  abbrev pub count : (A → Bool) → List A → ℕ
  count p [] = 0
  count p (x ∷ xs) = bit (p x) + count p xs

  pub count_append : (p : A → Bool) (xs ys : List A) → count p (xs ++ ys) ≡ count p xs + count p ys
  count_append p [] ys = omega arith
  count_append p (x ∷ xs) ys = omega (arith, count_append p xs ys)

  count_reverseAux : (p : A → Bool) (xs ys : List A) → count p (reverse_aux xs ys) ≡ count p xs + count p ys
  count_reverseAux p [] ys = omega arith
  count_reverseAux p (x ∷ xs) ys = omega (arith, count_reverseAux p xs (x ∷ ys))

  pub count_reverse : (p : A → Bool) (xs : List A) → count p (reverse xs) ≡ count p xs
  count_reverse p xs = omega (arith, count_reverseAux p xs [])

  pub count_map : (p : A → Bool) (twin : A → A) → ((x : A) → p (twin x) ≡ p x) → (xs : List A) → count p (map twin xs) ≡ count p xs
  count_map p twin h [] = refl
  count_map p twin h (x ∷ xs) = omega (arith, ap bit (h x), count_map p twin h xs)

  pub count_take : (p : A → Bool) (k : ℕ) (xs : List A) → count p (take k xs) ≤ count p xs
  count_take p k xs = omega (arith, count_append p (take k xs) (drop k xs), ap (count p) (take-append-drop k xs))

  pub count_drop : (p : A → Bool) (k : ℕ) (xs : List A) → count p (drop k xs) ≤ count p xs
  count_drop p k xs = omega (arith, count_append p (take k xs) (drop k xs), ap (count p) (take-append-drop k xs))

  -- the pigeonhole for the elements with a property
  pub count_fits : (p : A → Bool) (xs ys : List A) → Apart xs → ((x : A) → In x xs → p x ≡ true → In x ys) → count p xs ≤ length ys
  count_fits p [] ys a h = omega arith
  count_fits p (x ∷ xs) ys (new, a) h = go (p x) refl (λ zs. count_fits p xs zs a)
    where
      go : (b : Bool) → p x ≡ b → ((zs : List A) → ((y : A) → In y xs → p y ≡ true → In y zs) → count p xs ≤ length zs) → bit (p x) + count p xs ≤ length ys
      go false e fits = let l = fits ys (λ y i. h y (inr i)) in omega (arith, l, ap bit e)
      go true e fits =
          let (zs, l, keep) = without x ys (h x (inl refl) e) in
          let m = fits zs (λ y i q. elim (keep y (h y (inr i) q)) [ inl f ↦ absurd (new (subst (λ (z : A). In z xs) f i)) | inr j ↦ j ]) in
          omega (arith, m, ap bit e)

  -- ---- at most four sends over one link
  -- everything that was sent
  abbrev pub sent : List (Lap A) → List A
  sent [] = []
  sent (r ∷ rs) = r.darts ++ (r.walked ++ sent rs)

  -- a walk uses a link no more often than its round
  abbrev pub Light : (A → Bool) → List (Lap A) → Type 0
  Light p [] = Unit {0}
  Light p (r ∷ rs) = (count p r.walked ≤ count p r.darts) × Light p rs

  sent_twice : (p : A → Bool) (rs : List (Lap A)) → Light p rs → count p (sent rs) ≤ 2 * count p (joined (rounds rs))
  sent_twice p [] h = omega arith
  sent_twice p (r ∷ rs) (l, h) =
      let m = sent_twice p rs h in
      omega (arith, m, count_append p r.darts (r.walked ++ sent rs), count_append p r.walked (sent rs), count_append p r.darts (joined (rounds rs)))

  -- p: a dart is d or e, the two darts of the link
  pub link_at_most : (p : A → Bool) (d e : A) → ((x : A) → p x ≡ true → (x ≡ d) ⊎ (x ≡ e)) → (rs : List (Lap A)) → Scattered (rounds rs) → Light p rs → count p (sent rs) ≤ 4
  link_at_most p d e only rs s h =
      omega (arith, sent_twice p rs h, count_fits p (joined (rounds rs)) (d ∷ e ∷ []) (apart_joined (rounds rs) s) (λ x i q. elim (only x q) [ inl a ↦ inl a | inr b ↦ inr (inl b) ]))

  -- ---- the walk to the best dart, the k-th of a closed round, by the shorter way: ahead over the darts before it, or back over the twins of those behind it
  abbrev pub Retraced : (A → A) → Lap A → Type 0
  Retraced twin r = (k : ℕ) × (k < length r.darts) ×
      (((r.walked ≡ take k r.darts) × (2 * k < length r.darts))
      ⊎ ((r.walked ≡ map twin (reverse (drop (suc k) r.darts))) × (2 * (length r.darts - suc k) < length r.darts)))

  pub retraced_short : (twin : A → A) (r : Lap A) → Retraced twin r → 2 * length r.walked < length r.darts
  retraced_short twin r (k, l, inl (e, h)) = omega (arith, ap length e, length-take k r.darts)
  retraced_short twin r (k, l, inr (e, h)) =
      omega (arith, ap length e, length-map (reverse (drop (suc k) r.darts)) twin, length-reverse (drop (suc k) r.darts), length-drop (suc k) r.darts)

  pub retraced_light : (twin : A → A) (p : A → Bool) → ((x : A) → p (twin x) ≡ p x) → (r : Lap A) → Retraced twin r → count p r.walked ≤ count p r.darts
  retraced_light twin p h r (k, l, inl (e, m)) = omega (arith, ap (count p) e, count_take p k r.darts)
  retraced_light twin p h r (k, l, inr (e, m)) =
      omega (arith, ap (count p) e, count_map p twin h (reverse (drop (suc k) r.darts)), count_reverse p (drop (suc k) r.darts), count_drop p (suc k) r.darts)
