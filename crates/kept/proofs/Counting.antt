-- One kept link by one question, and all of them counted
use Rattle.std.proofs.Common.{◌≡◌, ℕ, zero, suc, ◌+◌, ◌*◌, ◌<◌, ◌≤◌, Bool, true, false, cond, not, ◌&&◌, ◌||◌, eqb, leb, ltb, List, [], ◌∷◌, length, drop, Some, None, Option, sym, refl, ap, ◌∙◌, subst, arith}
use Rattle.floor.specs.declared.node.Node.{Node}
use Rattle.floor.specs.declared.node.Radio.{Radio}
use Rattle.std.specs.List.{find, filter}
use Rattle.floor.specs.Meaning.{Meaning, radio, neighbours, node, known_as, is_among}
use Rattle.floor.specs.Planar.{Blocks}
use Rattle.host.specs.Questions.{next_neighbour, numbered_from}
use Rattle.std.proofs.lemmas.Option.{slice_get_within}
use Rattle.kept.specs.Kept.{blocked, kept, kept_of, kept_neighbours, kept_from, kept_links}
use Rattle.std.proofs.lemmas.List.Sums.{length-filter, count_by-le-length}
use Rattle.host.proofs.Asking.{neighbours_few}
use Rattle.kept.proofs.Rounding.{if_that, known_is}

-- ---- node i

module _ (m : Meaning) (i : ℕ) where
  node_radio : (u : Node) → Some u ≡ node m i → (r : Radio) × (radio m i ≡ Some r) × (u ≡ record { number = i; point = r.point })
  node_radio u e = go (radio m i) refl e
    where
      go : (o : Option Radio) → radio m i ≡ o → Some u ≡ known_as i o → (r : Radio) × (radio m i ≡ Some r) × (u ≡ record { number = i; point = r.point })
      go None q h = cc
      go (Some r) q h = (r, q, cc)

  pub node_number : (u : Node) → Some u ≡ node m i → u.number ≡ i
  node_number u e = let (r, q, s) = node_radio u e in ap (λ (n : Node). n.number) s

  pub node_below : (u : Node) → Some u ≡ node m i → i < length m.nodes
  node_below u e = let (r, q, s) = node_radio u e in slice_get_within m.nodes i r q

  node_kept : (b : Blocks) (u : Node) → Some u ≡ node m i → kept_neighbours b m i ≡ kept b u.point (neighbours m i)
  node_kept b u e =
      let (r, q, s) = node_radio u e in
      ap (kept_of b (neighbours m i)) q ∙ ap (λ (n : Node). kept b n.point (neighbours m i)) (sym s)

-- the link from u, which is node i, to v is not blocked
abbrev clear : Blocks → Meaning → ℕ → Node → Node → Bool
clear b m i u v = not (blocked b u.point v (neighbours m i))

-- ---- one link

abbrev is_some : Option Node → Bool
is_some None = false
is_some (Some n) = true

among_found : (j : ℕ) (xs : List Node) → is_among xs j ≡ is_some (find (λ (n : Node). eqb n.number j) xs)
among_found j [] = refl
among_found j (x ∷ xs) = go (eqb x.number j) (among_found j xs)
  where
    go : (t : Bool) → is_among xs j ≡ is_some (find (λ (n : Node). eqb n.number j) xs)
        → (not (not t) || is_among xs j) ≡ is_some (cond t (Some x) (find (λ (n : Node). eqb n.number j) xs))
    go true rest = refl
    go false rest = rest

is_some_if : (t : Bool) (v : Node) → t ≡ is_some (cond t (Some v) None)
is_some_if true v = refl
is_some_if false v = refl

module _ (b : Blocks) (m : Meaning) (i j : ℕ) (u : Node) (at : Some u ≡ node m i) where
  -- the answer by the question for the neighbour of that number
  asked_kept : is_among (kept_neighbours b m i) j ≡ is_some (if_that (clear b m i u) j (next_neighbour m i j))
  asked_kept = ap (λ (ns : List Node). is_among ns j) (node_kept m i b u at) ∙ among_found j (kept b u.point (neighbours m i)) ∙ ap is_some (known_is b m i j u.point)

  pub kept_there : (v : Node) (t : Bool) → Some v ≡ next_neighbour m i j → t ≡ (eqb v.number j && not (blocked b u.point v (neighbours m u.number)))
      → t ≡ is_among (kept_neighbours b m i) j
  kept_there v t e k =
      let there : t ≡ (eqb v.number j && clear b m i u v) = k ∙ ap (λ (n : ℕ). eqb v.number j && not (blocked b u.point v (neighbours m n))) (node_number m i u at) in
      there ∙ is_some_if (eqb v.number j && clear b m i u v) v ∙ sym (asked_kept ∙ ap (λ (o : Option Node). is_some (if_that (clear b m i u) j o)) (sym e))

  pub none_there : None ≡ next_neighbour m i j → false ≡ is_among (kept_neighbours b m i) j
  none_there e = sym (asked_kept ∙ ap (λ (o : Option Node). is_some (if_that (clear b m i u) j o)) (sym e))

-- ---- the kept neighbours of a node that are numbered above it

filter_swap : {A : Type 0} (f g : A → Bool) (xs : List A) → filter f (filter g xs) ≡ filter g (filter f xs)
filter_swap f g [] = refl
filter_swap f g (x ∷ xs) = go (f x) refl (g x) refl (filter_swap f g xs)
  where
    go : (s : Bool) → f x ≡ s → (t : Bool) → g x ≡ t → filter f (filter g xs) ≡ filter g (filter f xs)
        → filter f (cond t (x ∷ filter g xs) (filter g xs)) ≡ filter g (cond s (x ∷ filter f xs) (filter f xs))
    go true p true q rest = ap (λ (r : Bool). cond r (x ∷ filter f (filter g xs)) (filter f (filter g xs))) p ∙ ap (◌∷◌ x) rest ∙ sym (ap (λ (r : Bool). cond r (x ∷ filter g (filter f xs)) (filter g (filter f xs))) q)
    go true p false q rest = rest ∙ sym (ap (λ (r : Bool). cond r (x ∷ filter g (filter f xs)) (filter g (filter f xs))) q)
    go false p true q rest = ap (λ (r : Bool). cond r (x ∷ filter f (filter g xs)) (filter f (filter g xs))) p ∙ rest
    go false p false q rest = rest

abbrev pub above : Blocks → Meaning → ℕ → ℕ
above b m i = length (filter (λ (v : Node). ltb i v.number) (kept_neighbours b m i))

pub filter_few : {A : Type 0} (test : A → Bool) (xs : List A) → length (filter test xs) ≤ length xs
filter_few test xs = let count = count_by-le-length test xs in let same = length-filter test xs in omega arith

pub few_numbered : (m : Meaning) (i j : ℕ) → length (numbered_from j (neighbours m i)) ≤ length m.nodes
few_numbered m i j =
    let left = filter_few (λ (n : Node). leb j n.number) (neighbours m i) in
    let all = neighbours_few m i in
    omega arith

pub above_few : (b : Blocks) (m : Meaning) (i : ℕ) → above b m i ≤ length m.nodes
above_few b m i = go (radio m i)
  where
    go : (o : Option Radio) → length (filter (λ (v : Node). ltb i v.number) (kept_of b (neighbours m i) o)) ≤ length m.nodes
    go None = omega arith
    go (Some r) =
        let higher = filter_few (λ (v : Node). ltb i v.number) (kept b r.point (neighbours m i)) in
        let kept_ones = filter_few (λ (v : Node). not (blocked b r.point v (neighbours m i))) (neighbours m i) in
        let all = neighbours_few m i in
        omega arith

-- those above it, asked for from the next number on
pub counted_above : (b : Blocks) (m : Meaning) (i : ℕ) (u : Node) → Some u ≡ node m i
    → length (filter (λ (v : Node). not (blocked b u.point v (neighbours m u.number))) (numbered_from (i + 1) (neighbours m i))) ≡ above b m i
counted_above b m i u at =
    let e : suc i ≡ i + 1 = omega arith in
    ap (λ (k : ℕ). length (filter (λ (v : Node). not (blocked b u.point v (neighbours m k))) (numbered_from (i + 1) (neighbours m i)))) (node_number m i u at)
    ∙ sym (ap (λ (ns : List Node). length (filter (λ (v : Node). ltb i v.number) ns)) (node_kept m i b u at)
    ∙ ap length (filter_swap (λ (v : Node). ltb i v.number) (clear b m i u) (neighbours m i))
    ∙ ap (λ (k : ℕ). length (filter (clear b m i u) (numbered_from k (neighbours m i)))) e)

-- ---- all kept links

module _ (b : Blocks) (m : Meaning) where
  -- the links of the nodes before i are counted
  pub record SummedTo (i n : ℕ) : Type 0 where
    pub small : n ≤ 255 * i
    pub so_far : kept_links b m ≡ n + kept_from b m i (drop i m.nodes)

  pub summed_at_first : SummedTo 0 0
  summed_at_first = record { small = omega arith; so_far = omega arith }

  past_end : (i k : ℕ) (rs : List Radio) → length rs ≤ i → kept_from b m k (drop i rs) ≡ 0
  past_end zero k [] h = refl
  past_end zero k (r ∷ rs) h = absurd (omega arith)
  past_end (suc i) k [] h = refl
  past_end (suc i) k (r ∷ rs) h = past_end i k rs (omega arith)

  pub summed_at_last : (i n : ℕ) → SummedTo i n → length m.nodes ≤ i → n ≡ kept_links b m
  summed_at_last i n s h = let z = past_end i i m.nodes h in omega (arith, s.so_far)

  next_from : (i k : ℕ) (rs : List Radio) → i < length rs → kept_from b m k (drop i rs) ≡ above b m k + kept_from b m (suc k) (drop (suc i) rs)
  next_from i k [] h = absurd (omega arith)
  next_from zero k (r ∷ rs) h = refl
  next_from (suc i) k (r ∷ rs) h = next_from i k rs (omega arith)

  pub summed_on : (i n a : ℕ) → SummedTo i n → i < length m.nodes → a ≡ above b m i → a ≤ 255 → SummedTo (i + 1) (n + a)
  summed_on i n a s h e l =
      let e' : suc i ≡ i + 1 = omega arith in
      let more = next_from i i m.nodes h in
      record {
        small = let t = s.small in omega arith;
        so_far = subst (λ (k : ℕ). kept_links b m ≡ n + a + kept_from b m k (drop k m.nodes)) e' (omega (arith, s.so_far, more, e));
      }
