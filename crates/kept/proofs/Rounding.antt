-- The kept neighbours of a node, asked for one by one: the one of a number, and the first round the node
use Rattle.std.proofs.Common.{◌≡◌, ℕ, suc, ◌<◌, Bool, true, false, cond, not, ◌&&◌, eqb, leb, ◌≢◌, List, [], ◌∷◌, length, Some, None, Option, sym, refl, ap, ◌∙◌, subst, ap₂, inl, inr, arith}
use Rattle.std.proofs.lemmas.Bool.Decides.{nat_tests}
use Rattle.plane.specs.declared.Point.{Point}
use Rattle.plane.specs.Plane.{way}
use Rattle.order.specs.declared.Sense.{Sense}
use Rattle.order.specs.declared.Start.{Start}
use Rattle.order.specs.Foremost.{held, foremost, taken, offered}
use Rattle.order.specs.Directions.{sooner, earlier}
use Rattle.order.proofs.Sooner.{points_sooner}
use Rattle.floor.specs.declared.node.Node.{Node}
use Rattle.floor.specs.declared.node.Radio.{Radio}
use Rattle.std.specs.List.{find, filter}
use Rattle.floor.specs.Meaning.{Meaning, Mapped, radio, neighbours, place_of}
use Rattle.floor.specs.Planar.{Blocks}
use Rattle.host.specs.Questions.{next_neighbour}
use Rattle.kept.specs.declared.bearing.Bearing.{Bearing}
use Rattle.kept.specs.Kept.{blocked, kept, first_round, node_at, node_or_origin}
use Rattle.kept.specs.Bearings.{bearing}
use Rattle.kept.proofs.Lists.{Has, filter_has}
use Rattle.kept.proofs.Near.{neighbours_has, serving_radio}
use Rattle.host.proofs.Asking.{Ascends, neighbours_ascend, asked_some}

clash {ℓ} : {X : Type ℓ} → true ≡ false → X
clash e = absurd (subst (λ (b : Bool). cond b (Unit {0}) ⊥) e tt)

-- ---- the kept neighbour of a number

abbrev pub if_that : (Node → Bool) → ℕ → Option Node → Option Node
if_that q j None = None
if_that q j (Some w) = cond (eqb w.number j && q w) (Some w) None

module _ (q : Node → Bool) (j n : ℕ) where
  abbrev named : List Node → Option Node
  named xs = find (λ (x : Node). eqb x.number j) (filter q xs)

  -- beyond j there is none of number j
  none_beyond : (k : ℕ) (xs : List Node) → j < k → Ascends k n xs → named xs ≡ None
  none_beyond k [] h a = refl
  none_beyond k (x ∷ xs) h (l, b, a) = go (q x) (eqb x.number j) (grind (arith, nat_tests)) (none_beyond (suc x.number) xs (omega arith) a)
    where
      go : (t e : Bool) → e ≡ false → named xs ≡ None → find (λ (y : Node). eqb y.number j) (cond t (x ∷ filter q xs) (filter q xs)) ≡ None
      go true e f r = cond_false (eqb x.number j) (grind (arith, nat_tests)) ∙ r
        where
          cond_false : (s : Bool) → s ≡ false → cond s (Some x) (named xs) ≡ named xs
          cond_false true z = clash z
          cond_false false z = refl
      go false e f r = r

  pub named_is : (k : ℕ) (xs : List Node) → Ascends k n xs → named xs ≡ if_that q j (find (λ (x : Node). leb j x.number) xs)
  named_is k [] a = refl
  named_is k (x ∷ xs) (l, b, a) = go (q x) refl (leb j x.number) refl (eqb x.number j) refl (named_is (suc x.number) xs a) (λ h. none_beyond (suc x.number) xs h a)
    where
      go : (t : Bool) → q x ≡ t → (u : Bool) → leb j x.number ≡ u → (e : Bool) → eqb x.number j ≡ e
          → named xs ≡ if_that q j (find (λ (y : Node). leb j y.number) xs) → (j < suc x.number → named xs ≡ None)
          → find (λ (y : Node). eqb y.number j) (cond t (x ∷ filter q xs) (filter q xs)) ≡ if_that q j (cond u (Some x) (find (λ (y : Node). leb j y.number) xs))
      go true qt true ut true et r f = ap (λ (s : Bool). cond s (Some x) (named xs)) et ∙ sym (ap₂ (λ (s z : Bool). cond (s && z) (Some x) None) et qt)
      go true qt true ut false et r f = ap (λ (s : Bool). cond s (Some x) (named xs)) et ∙ f (grind (arith, nat_tests)) ∙ sym (ap (λ (s : Bool). cond (s && q x) (Some x) None) et)
      go true qt false ut true et r f = absurd (grind (arith, nat_tests))
      go true qt false ut false et r f = ap (λ (s : Bool). cond s (Some x) (named xs)) et ∙ r
      go false qt true ut true et r f = f (grind (arith, nat_tests)) ∙ sym (ap₂ (λ (s z : Bool). cond (s && z) (Some x) None) et qt)
      go false qt true ut false et r f = f (grind (arith, nat_tests)) ∙ sym (ap (λ (s : Bool). cond (s && q x) (Some x) None) et)
      go false qt false ut e et r f = r

-- the kept neighbour of number j, by one question
pub known_is : (b : Blocks) (m : Meaning) (i j : ℕ) (p : Point) → find (λ (n : Node). eqb n.number j) (kept b p (neighbours m i))
    ≡ if_that (λ (w : Node). not (blocked b p w (neighbours m i))) j (next_neighbour m i j)
known_is b m i j p = named_is (λ (w : Node). not (blocked b p w (neighbours m i))) j (length m.nodes) 0 (neighbours m i) (neighbours_ascend m i)

-- ---- no neighbour is where the node itself is

radio_at : (m : Meaning) (i : ℕ) (r : Radio) → radio m i ≡ Some r → (node_at m i).point ≡ r.point
radio_at m i r e = ap (λ (o : Option Radio). (node_or_origin i o).point) e

pub neighbour_apart : (m : Meaning) → Mapped m → (i : ℕ) (n : Node) → Has n (neighbours m i) → n.point ≢ (node_at m i).point
neighbour_apart m h i n has e =
    let (s, is) = neighbours_has m i n has in
    let (r, ru, rs, rp) = serving_radio m i s.p s.at_u in
    let (o, ou, os, op) = serving_radio m n.number s.q s.at_v in
    h.general.apart i n.number r.point o.point s.apart (ap place_of ru) (ap place_of ou)
    (sym (radio_at m i r ru) ∙ sym e ∙ is ∙ sym op)

asked_has : (m : Meaning) (i j : ℕ) (w : Node) → Some w ≡ next_neighbour m i j → Has w (neighbours m i)
asked_has m i j w e = (filter_has (λ (n : Node). leb j n.number) (neighbours m i) w (subst (Has w) (sym (asked_some m i j w e).0) (inl refl))).0

pub asked_apart : (m : Meaning) → Mapped m → (i j : ℕ) (w : Node) → Some w ≡ next_neighbour m i j → w.point ≢ (node_at m i).point
asked_apart m h i j w e = neighbour_apart m h i w (asked_has m i j w e)

-- ---- the first round the node

module _ (b : Blocks) (m : Meaning) (i : ℕ) (sense : Sense) (start : Start) (towards : Point) where
  abbrev p : Point
  p = (node_at m i).point

  abbrev clear : Node → Bool
  clear v = not (blocked b p v (neighbours m i))

  abbrev before : Node → Node → Bool
  before a c = sooner sense start (way p towards) (way p a.point) (way p c.point)

  -- the node of what is held
  abbrev pub node_of : Option Bearing → Option Node
  node_of None = None
  node_of (Some x) = Some x.node

  -- offers that go on from what is held
  abbrev onward : Option Node → List Node → Option Node
  onward None ys = foremost before ys
  onward (Some x) ys = Some (held before x ys)

  abbrev Made : Option Bearing → Type 0
  Made None = Unit {0}
  Made (Some x) = x ≡ bearing sense start p towards x.node

  -- h is the foremost of the kept neighbours but for those that are still to come
  pub record ForemostBut (rest : List Node) (h : Option Bearing) : Type 0 where
    pub so_far : first_round sense start p (way p towards) (kept b p (neighbours m i)) ≡ onward (node_of h) (filter clear rest)
    pub made : Made h
    pub apart : (n : Node) → Has n rest → n.point ≢ p

  pub foremost_at_first : Mapped m → (rest : List Node) (h : Option Bearing) → rest ≡ neighbours m i → h ≡ None → ForemostBut rest h
  foremost_at_first mapped rest h r e = subst (λ (ns : List Node). ForemostBut ns h) (sym r) (subst (ForemostBut (neighbours m i)) (sym e)
      (record { so_far = refl; made = tt; apart = λ n has. neighbour_apart m mapped i n has }))

  next_of : (rest : List Node) (h : Option Bearing) (w : Node) (s : Bool) → ForemostBut (w ∷ rest) h → blocked b p w (neighbours m i) ≡ s
      → first_round sense start p (way p towards) (kept b p (neighbours m i)) ≡ onward (node_of h) (cond (not s) (w ∷ filter clear rest) (filter clear rest))
  next_of rest h w s f t = f.so_far ∙ ap (λ (s : Bool). onward (node_of h) (cond (not s) (w ∷ filter clear rest) (filter clear rest))) t

  -- a link that is not kept is passed over
  pub foremost_past : (rest : List Node) (h : Option Bearing) (w : Node) → ForemostBut (w ∷ rest) h → blocked b p w (neighbours m i) ≡ true → ForemostBut rest h
  foremost_past rest h w f e = record { so_far = next_of rest h w true f e; made = f.made; apart = λ n has. f.apart n (inr has) }

  abbrev sooner_one : Bearing → Bearing → Bool
  sooner_one x y = earlier x.direction y.direction

  -- the bearing of a neighbour
  abbrev pub given : Node → Bearing
  given w = bearing sense start p towards w

  same : towards ≢ p → (w : Node) (y : Bearing) → y ≡ bearing sense start p towards y.node → earlier (given w).direction y.direction ≡ before w y.node
  same far w y e = ap (λ (z : Bearing). earlier (given w).direction z.direction) e ∙ points_sooner sense start p towards w.point y.node.point far

  pick : (w : Node) (s : Bool) (y : Bearing) → node_of (Some (cond s (given w) y)) ≡ Some (cond s w y.node)
  pick w true y = refl
  pick w false y = refl

  moved : towards ≢ p → (w : Node) (h : Option Bearing) → Made h → (ys : List Node) → onward (node_of h) (w ∷ ys) ≡ onward (node_of (offered sooner_one h (given w))) ys
  moved far w None k ys = refl
  moved far w (Some y) k ys = ap (λ (o : Option Node). onward o ys)
      (sym (pick w (earlier (given w).direction y.direction) y ∙ ap (λ (s : Bool). Some (cond s w y.node)) (same far w y k)))

  chosen : (w : Node) (s : Bool) (y : Bearing) → y ≡ bearing sense start p towards y.node → Made (Some (cond s (given w) y))
  chosen w true y k = refl
  chosen w false y k = k

  made_by : (w : Node) (h : Option Bearing) → Made h → Made (offered sooner_one h (given w))
  made_by w None k = refl
  made_by w (Some y) k = chosen w (earlier (given w).direction y.direction) y k

  -- a kept one is offered
  pub foremost_offered : towards ≢ p → (rest : List Node) (h : Option Bearing) (w : Node) → ForemostBut (w ∷ rest) h → blocked b p w (neighbours m i) ≡ false
      → ForemostBut rest (offered sooner_one h (given w))
  foremost_offered far rest h w f e =
      record { so_far = next_of rest h w false f e ∙ moved far w h f.made (filter clear rest); made = made_by w h f.made; apart = λ n has. f.apart n (inr has) }

  -- what would be taken is what is then held
  pub taken_held : (h : Option Bearing) (x : Bearing) → taken sooner_one h x ≡ true → offered sooner_one h x ≡ Some x
  taken_held None x e = refl
  taken_held (Some y) x e = ap (λ (s : Bool). Some (cond s x y)) e

  untaken : (h : Option Bearing) (x : Bearing) → taken sooner_one h x ≡ false → offered sooner_one h x ≡ h
  untaken None x e = clash e
  untaken (Some y) x e = ap (λ (s : Bool). Some (cond s x y)) e

  -- one that would not be taken is passed over, kept or not
  pub foremost_untaken : towards ≢ p → (rest : List Node) (h : Option Bearing) (w : Node) → ForemostBut (w ∷ rest) h → taken sooner_one h (given w) ≡ false → ForemostBut rest h
  foremost_untaken far rest h w f e = go (blocked b p w (neighbours m i)) refl
    where
      go : (s : Bool) → blocked b p w (neighbours m i) ≡ s → ForemostBut rest h
      go true k = foremost_past rest h w f k
      go false k = subst (ForemostBut rest) (untaken h (given w) e) (foremost_offered far rest h w f k)

-- the node itself, as the code has it
pub number_at : (m : Meaning) (i : ℕ) → (node_at m i).number ≡ i
number_at m i = go (radio m i)
  where
    go : (o : Option Radio) → (node_or_origin i o).number ≡ i
    go None = refl
    go (Some r) = refl

-- what the code asks of the node as it has it
pub blocked_there : (b : Blocks) (m : Meaning) (i : ℕ) (w here : Node) (r : Bool) → here ≡ node_at m i
    → r ≡ blocked b here.point w (neighbours m here.number) → r ≡ blocked b (node_at m i).point w (neighbours m i)
blocked_there b m i w here r e k =
    k ∙ ap (λ (n : Node). blocked b n.point w (neighbours m n.number)) e ∙ ap (λ (j : ℕ). blocked b (node_at m i).point w (neighbours m j)) (number_at m i)

abbrev Given : Sense → Start → Point → Node → Option Bearing → Point → Type 0
Given sense start towards w r at = towards ≢ at → w.point ≢ at → r ≡ Some (bearing sense start at towards w)

pub given_there : (m : Meaning) (i : ℕ) (sense : Sense) (start : Start) (towards : Point) (w : Node) (r : Option Bearing) (here : Node)
    → here ≡ node_at m i → Given sense start towards w r here.point → Given sense start towards w r (node_at m i).point
given_there m i sense start towards w r here e k = subst (λ (n : Node). Given sense start towards w r n.point) e k

pub known_there : (b : Blocks) (m : Meaning) (i j : ℕ) (w here : Node) (t : Bool) → here ≡ node_at m i
    → t ≡ (eqb w.number j && not (blocked b here.point w (neighbours m here.number))) → Some w ≡ next_neighbour m i j
    → cond t (Some w) None ≡ find (λ (n : Node). eqb n.number j) (kept b (node_at m i).point (neighbours m i))
known_there b m i j w here t e k n =
    let there : t ≡ (eqb w.number j && not (blocked b (node_at m i).point w (neighbours m i))) =
    subst (λ (x : ℕ). t ≡ (eqb w.number j && not (blocked b (node_at m i).point w (neighbours m x)))) (number_at m i)
    (subst (λ (h : Node). t ≡ (eqb w.number j && not (blocked b h.point w (neighbours m h.number)))) e k) in
    ap (λ (s : Bool). cond s (Some w) None) there
    ∙ sym (known_is b m i j (node_at m i).point ∙ ap (if_that (λ (v : Node). not (blocked b (node_at m i).point v (neighbours m i))) j) (sym n))

pub unknown_there : (b : Blocks) (m : Meaning) (i j : ℕ) → None ≡ next_neighbour m i j
    → None ≡ find (λ (n : Node). eqb n.number j) (kept b (node_at m i).point (neighbours m i))
unknown_there b m i j n = sym (known_is b m i j (node_at m i).point ∙ ap (if_that (λ (v : Node). not (blocked b (node_at m i).point v (neighbours m i))) j) (sym n))

pub known_elsewhere : (m : Meaning) → Mapped m → (i j : ℕ) (w : Node) → Some w ≡ next_neighbour m i j → (t : Bool) (n : Node) → cond t (Some w) None ≡ Some n → n.point ≢ (node_at m i).point
known_elsewhere m h i j w e true n k = let same : w ≡ n = cc in subst (λ (x : Node). x.point ≢ (node_at m i).point) same (asked_apart m h i j w e)
known_elsewhere m h i j w e false n k = cc
