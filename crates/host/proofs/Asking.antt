-- Neighbours asked for one by one: what is left of a list in ascending order of numbers
use Rattle.std.proofs.Common.{◌≡◌, ℕ, suc, ◌+◌, ◌<◌, ◌≤◌, Bool, true, false, cond, ◌&&◌, leb, List, [], ◌∷◌, length, Some, None, Option, sym, refl, ap, ◌∙◌, subst, arith}
use Rattle.std.proofs.lemmas.Bool.Decides.{nat_tests}
use Rattle.floor.specs.declared.node.Node.{Node}
use Rattle.floor.specs.declared.node.Radio.{Radio}
use Rattle.std.specs.List.{find}
use Rattle.floor.specs.Numbers.{differ}
use Rattle.floor.specs.Meaning.{Meaning, radio, hear, heard, heard_by, neighbours}
use Rattle.host.specs.Questions.{next_neighbour, numbered_from}

-- numbers from k on, ascending, below n
abbrev pub Ascends : ℕ → ℕ → List Node → Type 0
Ascends k n [] = Unit {0}
Ascends k n (x ∷ xs) = (k ≤ x.number) × (x.number < n) × Ascends (suc x.number) n xs

lower : (k j n : ℕ) (xs : List Node) → j ≤ k → Ascends k n xs → Ascends j n xs
lower k j n [] h a = tt
lower k j n (x ∷ xs) h (a, l, r) = (omega arith, l, r)

heard_ascends : (reach i : ℕ) (p : Radio) (k : ℕ) (qs : List Radio) → Ascends k (k + length qs) (heard reach i p k qs)
heard_ascends reach i p k [] = tt
heard_ascends reach i p k (q ∷ qs) =
    go (differ i k && hear reach p q) (subst (λ (n : ℕ). Ascends (suc k) n (heard reach i p (suc k) qs)) (omega arith) (heard_ascends reach i p (suc k) qs))
  where
    go : (t : Bool) → Ascends (suc k) (k + suc (length qs)) (heard reach i p (suc k) qs)
        → Ascends k (k + suc (length qs)) (cond t (record { number = k; point = q.point } ∷ heard reach i p (suc k) qs) (heard reach i p (suc k) qs))
    go true rest = (omega arith, omega arith, rest)
    go false rest = lower (suc k) k (k + suc (length qs)) (heard reach i p (suc k) qs) (omega arith) rest

pub neighbours_ascend : (m : Meaning) (i : ℕ) → Ascends 0 (length m.nodes) (neighbours m i)
neighbours_ascend m i = go (radio m i)
  where
    go : (o : Option Radio) → Ascends 0 (length m.nodes) (heard_by m i o)
    go None = tt
    go (Some p) = subst (λ (n : ℕ). Ascends 0 n (heard m.reach i p 0 m.nodes)) (omega arith) (heard_ascends m.reach i p 0 m.nodes)

all_left : (j n : ℕ) (xs : List Node) → Ascends j n xs → numbered_from j xs ≡ xs
all_left j n [] a = refl
all_left j n (x ∷ xs) (h, l, a) = go (leb j x.number) (grind (arith, nat_tests)) (all_left j n xs (lower (suc x.number) j n xs (omega arith) a))
  where
    go : (t : Bool) → t ≡ true → numbered_from j xs ≡ xs → cond t (x ∷ numbered_from j xs) (numbered_from j xs) ≡ x ∷ xs
    go true e rest = ap (◌∷◌ x) rest
    go false e rest = absurd (subst (λ (b : Bool). cond b ⊥ (Unit {0})) e tt)

pub numbered_from_0 : (n : ℕ) (xs : List Node) → Ascends 0 n xs → numbered_from 0 xs ≡ xs
numbered_from_0 n xs a = all_left 0 n xs a

clash {ℓ} : {X : Type ℓ} → true ≡ false → X
clash e = absurd (subst (λ (b : Bool). cond b (Unit {0}) ⊥) e tt)

none_some : {A : Type 0} {X : Type 0} (x : A) → None ≡ Some x → X
none_some x e = clash (ap (λ (o : Option _). elim o [ None ↦ true | Some y ↦ false ]) e)

-- nothing found: nothing left
pub left_none : (j : ℕ) (xs : List Node) → find (λ (n : Node). leb j n.number) xs ≡ None → numbered_from j xs ≡ []
left_none j [] e = refl
left_none j (x ∷ xs) e = go (leb j x.number) e (left_none j xs)
  where
    go : (t : Bool) → cond t (Some x) (find (λ (n : Node). leb j n.number) xs) ≡ None → (find (λ (n : Node). leb j n.number) xs ≡ None → numbered_from j xs ≡ [])
        → cond t (x ∷ numbered_from j xs) (numbered_from j xs) ≡ []
    go true h rest = none_some x (sym h)
    go false h rest = rest h

-- what is found lies at least as far on as the list begins
found_after : (j k n : ℕ) (ys : List Node) (w : Node) → Ascends k n ys → find (λ (n : Node). leb j n.number) ys ≡ Some w → k ≤ w.number
found_after j k n [] w c e = none_some w e
found_after j k n (y ∷ ys) w (p, o, c) e = pick (leb j y.number) e (found_after j (suc y.number) n ys w c)
  where
    pick : (t : Bool) → cond t (Some y) (find (λ (n : Node). leb j n.number) ys) ≡ Some w
        → (find (λ (n : Node). leb j n.number) ys ≡ Some w → suc y.number ≤ w.number) → k ≤ w.number
    pick true q rest = let e : y ≡ w = cc in subst (λ (z : Node). k ≤ z.number) e p
    pick false q rest = let m : suc y.number ≤ w.number = rest q in omega arith

-- an element of a lower number is passed over
passed : (x : Node) (j : ℕ) (xs : List Node) → x.number < j → numbered_from j (x ∷ xs) ≡ numbered_from j xs
passed x j xs h = go (leb j x.number) (grind (arith, nat_tests))
  where
    go : (t : Bool) → t ≡ false → cond t (x ∷ numbered_from j xs) (numbered_from j xs) ≡ numbered_from j xs
    go true q = clash q
    go false q = refl

-- one found: it is the first that is left, and the others are those beyond its number
pub left_some : (j k n : ℕ) (xs : List Node) (w : Node) → Ascends k n xs → find (λ (n : Node). leb j n.number) xs ≡ Some w
    → (numbered_from j xs ≡ w ∷ numbered_from (suc w.number) xs) × (j ≤ w.number) × (w.number < n)
left_some j k n [] w a e = none_some w e
left_some j k n (x ∷ xs) w (h, l, a) e = go (leb j x.number) refl e (left_some j (suc x.number) n xs w a)
  where
    go : (t : Bool) → leb j x.number ≡ t → cond t (Some x) (find (λ (n : Node). leb j n.number) xs) ≡ Some w
        → (find (λ (n : Node). leb j n.number) xs ≡ Some w → (numbered_from j xs ≡ w ∷ numbered_from (suc w.number) xs) × (j ≤ w.number) × (w.number < n))
        → (cond t (x ∷ numbered_from j xs) (numbered_from j xs) ≡ w ∷ numbered_from (suc w.number) (x ∷ xs)) × (j ≤ w.number) × (w.number < n)
    go true q r later =
        let same : x ≡ w = cc in
        let at : j ≤ x.number = grind (arith, nat_tests) in
        let all : numbered_from j xs ≡ xs = all_left j n xs (lower (suc x.number) j n xs (omega arith) a) in
        let rest : numbered_from (suc x.number) (x ∷ xs) ≡ xs = passed x (suc x.number) xs (omega arith) ∙ all_left (suc x.number) n xs a in
        subst (λ (y : Node). (x ∷ numbered_from j xs ≡ y ∷ numbered_from (suc y.number) (x ∷ xs)) × (j ≤ y.number) × (y.number < n)) same
        (ap (◌∷◌ x) (all ∙ sym rest), at, l)
    go false q r later =
        let (f, g, b) = later r in
        let far : suc x.number ≤ w.number = found_after j (suc x.number) n xs w a r in
        (f ∙ ap (◌∷◌ w) (sym (passed x (suc w.number) xs (omega arith))), g, b)

-- ---- of a host's neighbours

module _ (m : Meaning) (i j : ℕ) where
  pub asked_none : None ≡ next_neighbour m i j → numbered_from j (neighbours m i) ≡ []
  asked_none e = left_none j (neighbours m i) (sym e)

  pub asked_some : (w : Node) → Some w ≡ next_neighbour m i j
      → (numbered_from j (neighbours m i) ≡ w ∷ numbered_from (w.number + 1) (neighbours m i)) × (j ≤ w.number) × (w.number < length m.nodes)
  asked_some w e =
      let (f, g, b) = left_some j 0 (length m.nodes) (neighbours m i) w (neighbours_ascend m i) (sym e) in
      (f ∙ ap (λ (k : ℕ). w ∷ numbered_from k (neighbours m i)) (omega arith), g, b)

pub asked_first : (m : Meaning) (i : ℕ) → numbered_from 0 (neighbours m i) ≡ neighbours m i
asked_first m i = numbered_from_0 (length m.nodes) (neighbours m i) (neighbours_ascend m i)

-- ---- how many they are

few_from : (k n : ℕ) (xs : List Node) → k ≤ n → Ascends k n xs → k + length xs ≤ n
few_from k n [] h a = omega arith
few_from k n (x ∷ xs) h (l, b, a) = let rest = few_from (suc x.number) n xs (omega arith) a in omega arith

pub neighbours_few : (m : Meaning) (i : ℕ) → length (neighbours m i) ≤ length m.nodes
neighbours_few m i = let few = few_from 0 (length m.nodes) (neighbours m i) (omega arith) (neighbours_ascend m i) in omega arith
