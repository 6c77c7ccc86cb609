-- Who is among the neighbours of a node, which comes next, and what a switching alters.
use Rattle.std.proofs.Common.{◌≡◌, ℕ, zero, suc, ◌+◌, ◌*◌, ◌<◌, ◌≤◌, Bool, true, false, cond, not, ◌&&◌, leb, ◌≢◌, List, [], ◌∷◌, set, ℤ, pos, Some, None, Option, MatchOption, sym, refl, ap, ◌∙◌, arith}
use lib.Signed.{le_z}
use Rattle.std.proofs.lemmas.Bool.{eq-eqb, ne_eqb, false≢true}
use Rattle.std.proofs.lemmas.Bool.Decides.{nat_tests}
use Rattle.std.proofs.Math.Bool.{and_comm}
use Rattle.plane.specs.Plane.{squared}
use Rattle.floor.specs.declared.node.Node.{Node}
use Rattle.floor.specs.declared.node.Radio.{Radio}
use Rattle.floor.specs.DiscInLune.{squared_turned}
use Rattle.std.specs.List.{slice_get, find}
use Rattle.floor.specs.Numbers.{differ}
use Rattle.floor.specs.Meaning.{Meaning, radio, hear, heard, heard_by, neighbours, is_among, known_as, node}
use Rattle.host.specs.Questions.{next_neighbour, marked, with_mark}

-- two radios, numbered i and k, hear each other
abbrev linked : ℕ → ℕ → ℕ → Option Radio → Option Radio → Bool
linked reach i k None q = false
linked reach i k (Some p) None = false
linked reach i k (Some p) (Some q) = differ i k && hear reach p q

-- nodes i and k are neighbours
abbrev link : Meaning → ℕ → ℕ → Bool
link m i k = linked m.reach i k (radio m i) (radio m k)

linked_none : (reach i k : ℕ) (o : Option Radio) → linked reach i k o None ≡ false
linked_none reach i k None = refl
linked_none reach i k (Some p) = refl

-- a node of another number, and one of the same
among_other : (b : Bool) (n : Node) (rest : List Node) (k : ℕ) → n.number ≢ k → is_among (cond b (n ∷ rest) rest) k ≡ is_among rest k
among_other b n rest k ne = grind (arith, nat_tests)

among_same : (b : Bool) (n : Node) (rest : List Node) (k : ℕ) → n.number ≡ k → is_among rest k ≡ false → is_among (cond b (n ∷ rest) rest) k ≡ b
among_same b n rest k e none = grind (arith, nat_tests)

among_low : (reach i : ℕ) (p : Radio) (s : ℕ) (qs : List Radio) (k : ℕ) → k < s → is_among (heard reach i p s qs) k ≡ false
among_low reach i p s [] k h = refl
among_low reach i p s (q ∷ qs) k h =
    among_other (differ i s && hear reach p q) (record { number = s; point = q.point }) (heard reach i p (suc s) qs) k (λ e. omega arith)
    ∙ among_low reach i p (suc s) qs k (omega arith)

among_heard : (reach i : ℕ) (p : Radio) (s : ℕ) (qs : List Radio) (k t : ℕ) → t ≡ s + k → is_among (heard reach i p s qs) t ≡ linked reach i t (Some p) (slice_get qs k)
among_heard reach i p s [] k t e = refl
among_heard reach i p s (q ∷ qs) zero t e =
    let same : s ≡ t = omega arith in
    among_same (differ i s && hear reach p q) (record { number = s; point = q.point }) (heard reach i p (suc s) qs) t same (among_low reach i p (suc s) qs t (omega arith))
    ∙ ap (λ x. differ i x && hear reach p q) same
among_heard reach i p s (q ∷ qs) (suc k) t e =
    among_other (differ i s && hear reach p q) (record { number = s; point = q.point }) (heard reach i p (suc s) qs) t (λ h. omega arith)
    ∙ among_heard reach i p (suc s) qs k t (omega arith)

among_by : (m : Meaning) (i k : ℕ) (o : Option Radio) → is_among (heard_by m i o) k ≡ linked m.reach i k o (radio m k)
among_by m i k None = refl
among_by m i k (Some p) = among_heard m.reach i p 0 m.nodes k k (omega arith)

among_is : (m : Meaning) (i k : ℕ) → is_among (neighbours m i) k ≡ link m i k
among_is m i k = among_by m i k (radio m i)

-- the next: none from j on, or the first
abbrev first_from : ℕ → List Node → Option Node
first_from j = find (λ (n : Node). leb j n.number)

next_over : (j : ℕ) (b : Bool) (n : Node) (rest : List Node) → (j ≤ n.number → b ≡ false) → first_from j (cond b (n ∷ rest) rest) ≡ first_from j rest
next_over j b n rest no' = grind (arith, nat_tests)

next_hit : (j : ℕ) (b : Bool) (n : Node) (rest : List Node) → b ≡ true → j ≤ n.number → first_from j (cond b (n ∷ rest) rest) ≡ Some n
next_hit j b n rest hit le = grind (arith, nat_tests)

none_heard : (reach i j : ℕ) (p : Radio) (s : ℕ) (qs : List Radio) → ((k t : ℕ) → t ≡ s + k → j ≤ t → linked reach i t (Some p) (slice_get qs k) ≡ false) → first_from j (heard reach i p s qs) ≡ None
none_heard reach i j p s [] none = refl
none_heard reach i j p s (q ∷ qs) none =
    next_over j (differ i s && hear reach p q) (record { number = s; point = q.point }) (heard reach i p (suc s) qs) (λ le. none 0 s (omega arith) le)
    ∙ none_heard reach i j p (suc s) qs (λ k t e le. none (suc k) t (omega arith) le)

same_node : (s t : ℕ) (r q : Radio) → s ≡ t → r ≡ q → ◌≡◌ {A = Option Node} (Some (record { number = s; point = r.point })) (Some (record { number = t; point = q.point }))
same_node s t r q a b = ap (λ x. Some (record { number = x; point = r.point })) a ∙ ap (λ (x : Radio). Some (record { number = t; point = x.point })) b

first_heard : (reach i j : ℕ) (p : Radio) (s : ℕ) (qs : List Radio) (k t : ℕ) (q : Radio) → t ≡ s + k → slice_get qs k ≡ Some q → j ≤ t → (differ i t && hear reach p q) ≡ true → ((n u : ℕ) → u ≡ s + n → n < k → j ≤ u → linked reach i u (Some p) (slice_get qs n) ≡ false) → first_from j (heard reach i p s qs) ≡ Some (record { number = t; point = q.point })
first_heard reach i j p s [] k t q e at le hit none = cc
first_heard reach i j p s (r ∷ qs) zero t q e at le hit none =
    let here : s ≡ t = omega arith in
    let same : r ≡ q = cc in
    let passed : (differ i s && hear reach p r) ≡ true = ap (λ x. differ i x && hear reach p r) here ∙ ap (λ (x : Radio). differ i t && hear reach p x) same ∙ hit in
    next_hit j (differ i s && hear reach p r) (record { number = s; point = r.point }) (heard reach i p (suc s) qs) passed (omega arith)
    ∙ same_node s t r q here same
first_heard reach i j p s (r ∷ qs) (suc k) t q e at le hit none =
    next_over j (differ i s && hear reach p r) (record { number = s; point = r.point }) (heard reach i p (suc s) qs) (λ low. none 0 s (omega arith) (omega arith) low)
    ∙ first_heard reach i j p (suc s) qs k t q (omega arith) at le hit (λ n u f lt low. none (suc n) u (omega arith) (omega arith) low)

none_by : (m : Meaning) (i j : ℕ) (o : Option Radio) → ((k : ℕ) → j ≤ k → linked m.reach i k o (radio m k) ≡ false) → first_from j (heard_by m i o) ≡ None
none_by m i j None none = refl
none_by m i j (Some p) none =
    none_heard m.reach i j p 0 m.nodes
    (λ k t e le. ap (λ x. linked m.reach i t (Some p) (slice_get m.nodes x)) (let f : k ≡ t = omega arith in f) ∙ none t le)

first_by : (m : Meaning) (i j k : ℕ) (q : Radio) (o : Option Radio) → radio m k ≡ Some q → j ≤ k → linked m.reach i k o (radio m k) ≡ true → ((n : ℕ) → j ≤ n → n < k → linked m.reach i n o (radio m n) ≡ false) → first_from j (heard_by m i o) ≡ Some (record { number = k; point = q.point })
first_by m i j k q None at le hit none = absurd (false≢true hit)
first_by m i j k q (Some p) at le hit none =
    first_heard m.reach i j p 0 m.nodes k k q (omega arith) at le (sym (ap (linked m.reach i k (Some p)) at) ∙ hit)
    (λ n u e lt low. ap (λ x. linked m.reach i u (Some p) (slice_get m.nodes x)) (let f : n ≡ u = omega arith in f) ∙ none u low (omega arith))

-- a number that is no node is no neighbour
pub among_past : (m : Meaning) (i k : ℕ) → radio m k ≡ None → is_among (neighbours m i) k ≡ false
among_past m i k e = among_is m i k ∙ ap (linked m.reach i k (radio m i)) e ∙ linked_none m.reach i k (radio m i)

pub among_none : (m : Meaning) (i k : ℕ) → radio m i ≡ None → is_among (neighbours m i) k ≡ false
among_none m i k e = among_is m i k ∙ ap (λ (o : Option Radio). linked m.reach i k o (radio m k)) e

-- two nodes are neighbours where they hear each other, and none is its own
pub among_apart : (m : Meaning) (i k : ℕ) (p q : Radio) → radio m i ≡ Some p → radio m k ≡ Some q → i ≢ k → is_among (neighbours m i) k ≡ hear m.reach p q
among_apart m i k p q a b ne =
    among_is m i k
    ∙ ap (λ (o : Option Radio). linked m.reach i k o (radio m k)) a
    ∙ ap (linked m.reach i k (Some p)) b
    ∙ ap (λ t. not t && hear m.reach p q) (ne_eqb i k ne)

self_apart : (reach i k : ℕ) (o u : Option Radio) → i ≡ k → linked reach i k o u ≡ false
self_apart reach i k None u e = refl
self_apart reach i k (Some p) None e = refl
self_apart reach i k (Some p) (Some q) e = ap (λ t. not t && hear reach p q) (eq-eqb i k e)

pub among_self : (m : Meaning) (i k : ℕ) → i ≡ k → is_among (neighbours m i) k ≡ false
among_self m i k e = among_is m i k ∙ self_apart m.reach i k (radio m i) (radio m k) e

-- the next neighbour, by who is among them: none from j on, or the first of them
pub next_none : (m : Meaning) (i j : ℕ) → ((k : ℕ) → j ≤ k → is_among (neighbours m i) k ≡ false) → next_neighbour m i j ≡ None
next_none m i j none = none_by m i j (radio m i) (λ k le. sym (among_is m i k) ∙ none k le)

node_is : (m : Meaning) (i j k : ℕ) (o : Option Radio) → radio m k ≡ o → j ≤ k → link m i k ≡ true → ((n : ℕ) → j ≤ n → n < k → link m i n ≡ false) → next_neighbour m i j ≡ known_as k o
node_is m i j k None at le hit none = absurd (false≢true (sym (linked_none m.reach i k (radio m i)) ∙ sym (ap (linked m.reach i k (radio m i)) at) ∙ hit))
node_is m i j k (Some q) at le hit none = first_by m i j k q (radio m i) at le hit none

pub next_node : (m : Meaning) (i j k end : ℕ) → (j ≤ k) × (k < end) × (is_among (neighbours m i) k ≡ true) × ((n : ℕ) → j ≤ n → n < k → is_among (neighbours m i) n ≡ false) → next_neighbour m i j ≡ node m k
next_node m i j k end (le, _, hit, none) = node_is m i j k (radio m k) refl le (sym (among_is m i k) ∙ hit) (λ n low high. sym (among_is m i n) ∙ none n low high)

-- a switching alters the links of its node alone
get_set_other : {A : Type 0} (xs : List A) (i k : ℕ) (x : A) → k ≢ i → slice_get (set xs i x) k ≡ slice_get xs k
get_set_other [] i k x ne = refl
get_set_other (y ∷ ys) zero zero x ne = absurd (ne refl)
get_set_other (y ∷ ys) zero (suc k) x ne = refl
get_set_other (y ∷ ys) (suc i) zero x ne = refl
get_set_other (y ∷ ys) (suc i) (suc k) x ne = get_set_other ys i k x (λ e. ne (ap suc e))

radio_marked : (m : Meaning) (i k : ℕ) (mark : Bool) (o : Option Radio) → k ≢ i → radio (marked m i mark o) k ≡ radio m k
radio_marked m i k mark None ne = refl
radio_marked m i k mark (Some p) ne = get_set_other m.nodes i k (record { point = p.point; serving = mark }) ne

reach_marked : (m : Meaning) (i : ℕ) (mark : Bool) (o : Option Radio) → (marked m i mark o).reach ≡ m.reach
reach_marked m i mark None = refl
reach_marked m i mark (Some p) = refl

pub among_marked : (m : Meaning) (i : ℕ) (mark : Bool) (a b : ℕ) → a ≢ i → b ≢ i → is_among (neighbours (with_mark m i mark) a) b ≡ is_among (neighbours m a) b
among_marked m i mark a b ai bi =
    let o = radio m i in
    among_is (with_mark m i mark) a b
    ∙ ap (λ r. linked r a b (radio (marked m i mark o) a) (radio (marked m i mark o) b)) (reach_marked m i mark o)
    ∙ ap (λ (x : Option Radio). linked m.reach a b x (radio (marked m i mark o) b)) (radio_marked m i a mark o ai)
    ∙ ap (linked m.reach a b (radio m a)) (radio_marked m i b mark o bi)
    ∙ sym (among_is m a b)

-- to be neighbours goes both ways
hear_back : (reach : ℕ) (p q : Radio) → hear reach p q ≡ hear reach q p
hear_back reach p q =
    ap (λ (z : ℤ). p.serving && q.serving && le_z z (pos (reach * reach))) (squared_turned p.point q.point)
    ∙ ap (λ t. t && le_z (squared q.point p.point) (pos (reach * reach))) (and_comm p.serving q.serving)

differ_back : (i k : ℕ) → differ i k ≡ differ k i
differ_back i k = grind (arith, nat_tests)

linked_back : (reach i k : ℕ) (o u : Option Radio) → linked reach i k o u ≡ linked reach k i u o
linked_back reach i k None None = refl
linked_back reach i k None (Some q) = refl
linked_back reach i k (Some p) None = refl
linked_back reach i k (Some p) (Some q) =
    ap (λ t. t && hear reach p q) (differ_back i k) ∙ ap (λ t. differ k i && t) (hear_back reach p q)

pub among_back : (m : Meaning) (i k : ℕ) → is_among (neighbours m i) k ≡ is_among (neighbours m k) i
among_back m i k = among_is m i k ∙ linked_back m.reach i k (radio m i) (radio m k) ∙ sym (among_is m k i)

-- what follows an option is said of none and of some
pub through : {A : Type 0} (P : Option A → Type 0) (o : Option A) (Q : Type 0) (R : A → Type 0) (X : Type 0) → P o → MatchOption o Q R
    → (P None → Q → X) → ((k : A) → P (Some k) → R k → X) → X
through P None Q R X p m none some = none p m
through P (Some k) Q R X p m none some = some k p m
