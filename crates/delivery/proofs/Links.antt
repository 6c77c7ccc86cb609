-- The number of kept links, counted at the lower ends and at the higher
use Rattle.std.proofs.Common.{◌≡◌, ℕ, zero, suc, ◌+◌, ◌<◌, ◌≤◌, Bool, true, false, cond, not, ◌&&◌, ◌||◌, ltb, List, [], ◌∷◌, length, Some, None, Option, sym, refl, ap, ◌∙◌, ap₂, inl, inr, zero-add, arith, le-ltb, lt-ltb}
use native.Mathlib.Decide.{dec_le, ℕ_discrete}
use Rattle.floor.specs.declared.node.Node.{Node}
use Rattle.floor.specs.declared.node.Radio.{Radio}
use Rattle.std.specs.List.{filter}
use Rattle.floor.specs.Numbers.{differ}
use Rattle.floor.specs.Meaning.{Meaning, Serving, radio, heard, heard_by, hear, is_among}
use Rattle.floor.specs.Planar.{Blocks, Lawful}
use Rattle.kept.specs.Kept.{kept_of, kept_neighbours, kept_from, kept_links, blocked}
use Rattle.kept.proofs.Lists.{Has, alike, fails, some_found, found_some, filter_has, has_filter}
use Rattle.kept.proofs.Near.{is_same, same_is, both, pair}
use Rattle.orbit.proofs.Count.{bit}
use Rattle.orbit.proofs.Darts.{links, degree}
use Rattle.delivery.proofs.Ground.{keeps, size_of}
use Rattle.delivery.proofs.Nodes.{symmetric, keeps_to, on_small}

-- ---- sums
abbrev sum : (ℕ → ℕ) → ℕ → ℕ
sum f zero = 0
sum f (suc n) = f n + sum f n

sum_same : (f g : ℕ → ℕ) (n : ℕ) → ((k : ℕ) → k < n → f k ≡ g k) → sum f n ≡ sum g n
sum_same f g zero h = refl
sum_same f g (suc n) h = ap₂ ◌+◌ (h n (omega arith)) (sum_same f g n (λ k l. h k (omega arith)))

sum_add : (f g : ℕ → ℕ) (n : ℕ) → sum (λ k. f k + g k) n ≡ sum f n + sum g n
sum_add f g zero = refl
sum_add f g (suc n) = omega (arith, sum_add f g n)

sum_zero : (n : ℕ) → sum (λ k. 0) n ≡ 0
sum_zero zero = refl
sum_zero (suc n) = omega (arith, sum_zero n)

sum_swap : (f : ℕ → ℕ → ℕ) (n k : ℕ) → sum (λ i. sum (f i) k) n ≡ sum (λ j. sum (λ i. f i j) n) k
sum_swap f zero k = sym (sum_zero k)
sum_swap f (suc n) k = ap (λ (z : ℕ). sum (f n) k + z) (sum_swap f n k) ∙ sym (sum_add (f n) (λ j. sum (λ i. f i j) n) k)

-- only the terms below j
sum_cut : (p : ℕ → Bool) (j n : ℕ) → j ≤ n → sum (λ i. bit (ltb i j && p i)) n ≡ sum (λ i. bit (p i)) j
sum_cut p j zero l = ap (sum (λ i. bit (p i))) none
  where
    none : 0 ≡ j
    none = omega arith
sum_cut p j (suc n) l = go (dec_le j n) (λ h. sum_cut p j n h)
  where
    go : Dec (j ≤ n) → (j ≤ n → sum (λ i. bit (ltb i j && p i)) n ≡ sum (λ i. bit (p i)) j) → bit (ltb n j && p n) + sum (λ i. bit (ltb i j && p i)) n ≡ sum (λ i. bit (p i)) j
    go (yes h) more = let out : bit (ltb n j && p n) ≡ 0 = ap (λ (t : Bool). bit (t && p n)) (le-ltb n j h) in omega (arith, more h)
    go (no h) more =
        let all : suc n ≡ j = omega arith in
        sum_same (λ i. bit (ltb i j && p i)) (λ i. bit (p i)) (suc n) (λ i k. ap (λ (t : Bool). bit (t && p i)) (lt-ltb i j (omega arith))) ∙ ap (sum (λ i. bit (p i))) all

-- ---- a list of nodes by rising numbers has as many as there are numbers in it
abbrev is : ℕ → ℕ → Bool
is x k = not (differ x k)

sum_one : (x n : ℕ) → x < n → sum (λ k. bit (is x k)) n ≡ 1
sum_one x zero l = absurd (omega arith)
sum_one x (suc n) l = go (ℕ_discrete x n) (λ h. sum_one x n h)
  where
    off : (k : ℕ) → ¬ (x ≡ k) → bit (is x k) ≡ 0
    off k d = ap bit (fails (λ e. d (is_same x k e)))

    go : Dec (x ≡ n) → (x < n → sum (λ k. bit (is x k)) n ≡ 1) → bit (is x n) + sum (λ k. bit (is x k)) n ≡ 1
    go (yes e) more = ap₂ ◌+◌ (ap bit (same_is x n e)) (sum_same (λ k. bit (is x k)) (λ k. 0) n (λ k h. off k (λ f. below e f h)) ∙ sum_zero n)
      where
        below : {k : ℕ} → x ≡ n → x ≡ k → k < n → ⊥
        below e f h = omega arith
    go (no d) more = ap₂ ◌+◌ (off n d) (more (omega arith))

abbrev Rising : ℕ → List Node → Type 0
Rising j [] = Unit {0}
Rising j (x ∷ xs) = (j ≤ x.number) × Rising (suc x.number) xs

rising_weaker : (i j : ℕ) → i ≤ j → (xs : List Node) → Rising j xs → Rising i xs
rising_weaker i j l [] r = tt
rising_weaker i j l (x ∷ xs) (h, r) = (omega arith, r)

rising_absent : (j k : ℕ) (xs : List Node) → k < j → Rising j xs → is_among xs k ≡ false
rising_absent j k [] l r = refl
rising_absent j k (x ∷ xs) l (h, r) = ap₂ ◌||◌ (fails (λ e. apart (is_same x.number k e))) (rising_absent (suc x.number) k xs (omega arith) r)
  where
    apart : x.number ≡ k → ⊥
    apart e = omega arith

rising_heard : (reach i : ℕ) (p : Radio) (j : ℕ) (qs : List Radio) → Rising j (heard reach i p j qs)
rising_heard reach i p j [] = tt
rising_heard reach i p j (q ∷ qs) = go (differ i j && hear reach p q) (rising_heard reach i p (suc j) qs)
  where
    go : (t : Bool) → Rising (suc j) (heard reach i p (suc j) qs) → Rising j (cond t (record { number = j; point = q.point } ∷ heard reach i p (suc j) qs) (heard reach i p (suc j) qs))
    go true r = (omega arith, r)
    go false r = rising_weaker j (suc j) (omega arith) (heard reach i p (suc j) qs) r

rising_filter : (test : Node → Bool) (j : ℕ) (xs : List Node) → Rising j xs → Rising j (filter test xs)
rising_filter test j [] r = tt
rising_filter test j (x ∷ xs) (h, r) = go (test x) (rising_filter test (suc x.number) xs r)
  where
    go : (t : Bool) → Rising (suc x.number) (filter test xs) → Rising j (cond t (x ∷ filter test xs) (filter test xs))
    go true r = (h, r)
    go false r = rising_weaker j (suc x.number) (omega arith) (filter test xs) r

rising_kept : (b : Blocks) (m : Meaning) (i : ℕ) → Rising 0 (kept_neighbours b m i)
rising_kept b m i = go (radio m i)
  where
    go : (o : Option Radio) → Rising 0 (kept_of b (heard_by m i o) o)
    go None = tt
    go (Some p) = rising_filter (λ (v : Node). not (blocked b p.point v (heard_by m i (Some p)))) 0 (heard_by m i (Some p)) (rising_heard m.reach i p 0 m.nodes)

count_rising : (j n : ℕ) (xs : List Node) → Rising j xs → ((x : Node) → Has x xs → x.number < n) → length xs ≡ sum (λ k. bit (is_among xs k)) n
count_rising j n [] r small = sym (sum_zero n)
count_rising j n (x ∷ xs) (h, r) small =
    let rest : length xs ≡ sum (λ k. bit (is_among xs k)) n = count_rising (suc x.number) n xs r (λ y i. small y (inr i)) in
    let first : sum (λ k. bit (is x.number k)) n ≡ 1 = sum_one x.number n (small x (inl refl)) in
    sym (sum_same (λ k. bit (is_among (x ∷ xs) k)) (λ k. bit (is x.number k) + bit (is_among xs k)) n (λ k l. split k (is x.number k) refl)
    ∙ sum_add (λ k. bit (is x.number k)) (λ k. bit (is_among xs k)) n ∙ ap₂ ◌+◌ first (sym rest) ∙ one_more (length xs))
  where
    one_more : (n : ℕ) → 1 + n ≡ suc n
    one_more n = omega arith

    later : (k : ℕ) → x.number ≡ k → k < suc x.number
    later k e = omega arith

    split : (k : ℕ) (t : Bool) → is x.number k ≡ t → bit (t || is_among xs k) ≡ bit t + bit (is_among xs k)
    split k true e = sym (ap (λ (t : Bool). 1 + bit t) (rising_absent (suc x.number) k xs (later k (is_same x.number k e)) r))
    split k false e = omega arith

-- ---- the links of all radios
module _ (b : Blocks) (m : Meaning) where
  abbrev higher : ℕ → List Node
  higher i = filter (λ (v : Node). ltb i v.number) (kept_neighbours b m i)

  among_higher : (i j : ℕ) → is_among (higher i) j ≡ (ltb i j && keeps b m i j)
  among_higher i j = alike there back
    where
      there : is_among (higher i) j ≡ true → (ltb i j && keeps b m i j) ≡ true
      there e =
          let (n, h, f) = some_found (λ (n : Node). not (differ n.number j)) (higher i) e in
          let (k, t) = filter_has (λ (v : Node). ltb i v.number) (kept_neighbours b m i) n h in
          pair (ap (ltb i) (sym (is_same n.number j f)) ∙ t) (found_some (λ (n : Node). not (differ n.number j)) (kept_neighbours b m i) n k f)

      back : (ltb i j && keeps b m i j) ≡ true → is_among (higher i) j ≡ true
      back e =
          let (t, k) = both e in
          let (n, h, f) = some_found (λ (n : Node). not (differ n.number j)) (kept_neighbours b m i) k in
          found_some (λ (n : Node). not (differ n.number j)) (higher i) n
          (has_filter (λ (v : Node). ltb i v.number) (kept_neighbours b m i) n h (ap (ltb i) (is_same n.number j f) ∙ t)) f

  from_sum : (i : ℕ) (rs : List Radio) → kept_from b m i rs + sum (λ k. length (higher k)) i ≡ sum (λ k. length (higher k)) (i + length rs)
  from_sum i [] = zero-add (sum (λ k. length (higher k)) i) ∙ ap (sum (λ k. length (higher k))) whole
    where
      whole : i ≡ i + 0
      whole = omega arith
  from_sum i (r ∷ rs) = regroup (length (higher i)) (kept_from b m (suc i) rs) (sum (λ k. length (higher k)) i) ∙ from_sum (suc i) rs ∙ ap (sum (λ k. length (higher k))) shift
    where
      shift : suc i + length rs ≡ i + length (r ∷ rs)
      shift = omega arith

      regroup : (x y z : ℕ) → x + y + z ≡ y + (x + z)
      regroup x y z = omega arith

  links_sum : (n : ℕ) → links (keeps b m) n ≡ sum (λ i. sum (λ j. bit (keeps b m i j)) i) n
  unfolding links degree
  links_sum zero = refl
  links_sum (suc n) = ap₂ ◌+◌ (row n n) (links_sum n)
    where
      row : (i v : ℕ) → degree (keeps b m) i v ≡ sum (λ j. bit (keeps b m i j)) v
      row i zero = refl
      row i (suc v) = ap (λ (z : ℕ). bit (keeps b m i v) + z) (row i v)

  module _ (l : Lawful b) (g : Serving m) where
    higher_count : (i : ℕ) → length (higher i) ≡ sum (λ j. bit (ltb i j && keeps b m i j)) (size_of m)
    higher_count i =
        count_rising 0 (size_of m) (higher i) (rising_filter (λ (v : Node). ltb i v.number) 0 (kept_neighbours b m i) (rising_kept b m i))
        (λ x h. on_small m x.number (keeps_to b m l g i x.number
        (found_some (λ (n : Node). not (differ n.number x.number)) (kept_neighbours b m i) x (filter_has (λ (v : Node). ltb i v.number) (kept_neighbours b m i) x h).0 (same_is x.number x.number refl))))
        ∙ sum_same (λ j. bit (is_among (higher i) j)) (λ j. bit (ltb i j && keeps b m i j)) (size_of m) (λ j h. ap bit (among_higher i j))

    pub links_are : links (keeps b m) (size_of m) ≡ kept_links b m
    links_are = sym
        (first (from_sum 0 m.nodes)
        ∙ sum_same (λ i. length (higher i)) (λ i. sum (λ j. bit (ltb i j && keeps b m i j)) (size_of m)) (size_of m) (λ i h. higher_count i)
        ∙ sum_swap (λ i j. bit (ltb i j && keeps b m i j)) (size_of m) (size_of m)
        ∙ sum_same (λ j. sum (λ i. bit (ltb i j && keeps b m i j)) (size_of m)) (λ j. sum (λ i. bit (keeps b m j i)) j) (size_of m)
        (λ j h. sum_cut (λ i. keeps b m i j) j (size_of m) (omega arith) ∙ sum_same (λ i. bit (keeps b m i j)) (λ i. bit (keeps b m j i)) j (λ i k. ap bit (symmetric b m l g i j)))
        ∙ sym (links_sum (size_of m)))
      where
        first : kept_from b m 0 m.nodes + 0 ≡ sum (λ k. length (higher k)) (0 + size_of m) → kept_links b m ≡ sum (λ k. length (higher k)) (size_of m)
        first e =
            let whole : 0 + size_of m ≡ size_of m = omega arith in
            let same : kept_links b m ≡ kept_from b m 0 m.nodes + 0 = omega arith in
            same ∙ e ∙ ap (sum (λ k. length (higher k))) whole
