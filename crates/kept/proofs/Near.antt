-- Neighbours are the other nodes in service within reach
use Rattle.std.proofs.Common.{◌≡◌, ℕ, zero, suc, ◌+◌, ◌*◌, Bool, true, false, cond, not, ◌&&◌, T, eqb, List, [], ◌∷◌, pos, Some, None, Option, sym, refl, ap, ◌∙◌, subst, ap₂, inl, inr, true≢false, zero-add, arith, eq-eqb, eqb-true}
use lib.Signed.{le_z}
use borrow.Author.Tests.{apart_eqb, eqb_apart}
use Rattle.plane.specs.declared.Point.{Point}
use Rattle.plane.specs.Plane.{squared}
use Rattle.floor.specs.declared.node.Node.{Node}
use Rattle.floor.specs.declared.node.Radio.{Radio}
use Rattle.std.specs.List.{slice_get}
use Rattle.floor.specs.Numbers.{differ}
use Rattle.floor.specs.Meaning.{Meaning, radio, neighbours, heard, heard_by, hear, is_among, serving_at, serving_place}
use Rattle.floor.specs.DiscInLune.{squared_turned}
use Rattle.kept.specs.Laws.{Near, NeighboursAreNear}
use Rattle.kept.proofs.Lists.{Has, holds, told, some_found, found_some}

-- ---- tests of numbers
pub differ_apart : (i j : ℕ) → differ i j ≡ true → ¬ (i ≡ j)
differ_apart i j e = eqb_apart i j (go (eqb i j) e)
  where
    go : (b : Bool) → not b ≡ true → b ≡ false
    go true e = sym e
    go false e = refl

pub apart_differ : (i j : ℕ) → ¬ (i ≡ j) → differ i j ≡ true
apart_differ i j n = ap not (apart_eqb i j n)

pub is_same : (i j : ℕ) → not (differ i j) ≡ true → i ≡ j
is_same i j e = eqb-true i j (go (eqb i j) e)
  where
    go : (b : Bool) → not (not b) ≡ true → b ≡ true
    go true e = refl
    go false e = e

pub same_is : (i j : ℕ) → i ≡ j → not (differ i j) ≡ true
same_is i j e = ap (λ b. not (not b)) (eq-eqb i j e)

pub both : {a b : Bool} → (a && b) ≡ true → (a ≡ true) × (b ≡ true)
both {a = true} {b = c} e = (refl, e)
both {a = false} {b = c} e = absurd (true≢false (sym e))

pub pair : {a b : Bool} → a ≡ true → b ≡ true → (a && b) ≡ true
pair {a = true} {b = c} p q = q
pair {a = false} {b = c} p q = p

pub same_some : {A : Type 0} (x y : A) → Some x ≡ Some y → x ≡ y
same_some x y e = cc

pub some_none : {A : Type 0} (x : A) → None ≡ Some x → ⊥
some_none x e = cc

-- a node in service, as a radio of its host
pub serving_radio : (m : Meaning) (i : ℕ) (p : Point) → serving_at m i ≡ Some p → (r : Radio) × (radio m i ≡ Some r) × (r.serving ≡ true) × (r.point ≡ p)
serving_radio m i p e = go (radio m i) refl e
  where
    go : (o : Option Radio) → radio m i ≡ o → serving_place o ≡ Some p → (r : Radio) × (radio m i ≡ Some r) × (r.serving ≡ true) × (r.point ≡ p)
    go None q h = absurd (some_none p h)
    go (Some r) q h = on r.serving refl h
      where
        on : (b : Bool) → r.serving ≡ b → cond b (Some r.point) None ≡ Some p → (r : Radio) × (radio m i ≡ Some r) × (r.serving ≡ true) × (r.point ≡ p)
        on true s k = (r, q, s, same_some r.point p k)
        on false s k = absurd (some_none p k)

pub radio_serving : (m : Meaning) (i : ℕ) (r : Radio) → radio m i ≡ Some r → r.serving ≡ true → serving_at m i ≡ Some r.point
radio_serving m i r e s = ap serving_place e ∙ ap (λ (b : Bool). cond b (Some r.point) None) s

-- ---- what is heard
abbrev pub HeardAt : ℕ → ℕ → Radio → Node → ℕ → Radio → Type 0
HeardAt reach i p n k q = (n.number ≡ k) × (n.point ≡ q.point) × (differ i k ≡ true) × (hear reach p q ≡ true)

heard_has : (reach i : ℕ) (p : Radio) (j : ℕ) (qs : List Radio) (n : Node) → Has n (heard reach i p j qs)
    → (k : ℕ) × (q : Radio) × (slice_get qs k ≡ Some q) × HeardAt reach i p n (j + k) q
heard_has reach i p j [] n h = elim h [ ]
heard_has reach i p j (q ∷ qs) n h = go (differ i j && hear reach p q) refl h (λ g. heard_has reach i p (suc j) qs n g)
  where
    later : (k : ℕ) × (r : Radio) × (slice_get qs k ≡ Some r) × HeardAt reach i p n (suc j + k) r → (k : ℕ) × (r : Radio) × (slice_get (q ∷ qs) k ≡ Some r) × HeardAt reach i p n (j + k) r
    later (k, r, e, s) =
        let shift : suc j + k ≡ j + suc k = omega arith in
        (suc k, r, e, subst (λ (x : ℕ). HeardAt reach i p n x r) shift s)

    go : (b : Bool) → (differ i j && hear reach p q) ≡ b → Has n (cond b (record { number = j; point = q.point } ∷ heard reach i p (suc j) qs) (heard reach i p (suc j) qs))
        → (Has n (heard reach i p (suc j) qs) → (k : ℕ) × (r : Radio) × (slice_get qs k ≡ Some r) × HeardAt reach i p n (suc j + k) r)
        → (k : ℕ) × (r : Radio) × (slice_get (q ∷ qs) k ≡ Some r) × HeardAt reach i p n (j + k) r
    go true e (inl s) more =
        let zeroth : j ≡ j + 0 = omega arith in
        (zero, q, refl, subst (λ (x : ℕ). HeardAt reach i p n x q) zeroth (ap (λ (o : Node). o.number) s, ap (λ (o : Node). o.point) s, (both e).0, (both e).1))
    go true e (inr g) more = later (more g)
    go false e g more = later (more g)

has_heard : (reach i : ℕ) (p : Radio) (j : ℕ) (qs : List Radio) (k : ℕ) (q : Radio) → slice_get qs k ≡ Some q → differ i (j + k) ≡ true → hear reach p q ≡ true
    → Has (record { number = j + k; point = q.point }) (heard reach i p j qs)
has_heard reach i p j [] k q e d h = absurd (some_none q e)
has_heard reach i p j (r ∷ qs) zero q e d h = go (differ i j && hear reach p r) (pair (ap (differ i) zeroth ∙ d) (ap (hear reach p) (same_some r q e) ∙ h))
  where
    zeroth : j ≡ j + 0
    zeroth = omega arith

    point : q.point ≡ r.point
    point = ap (λ (x : Radio). x.point) (sym (same_some r q e))

    go : (b : Bool) → b ≡ true → Has (record { number = j + 0; point = q.point }) (cond b (record { number = j; point = r.point } ∷ heard reach i p (suc j) qs) (heard reach i p (suc j) qs))
    go true t = inl (λ s. record { number = sym zeroth s; point = point s })
    go false t = absurd (true≢false (sym t))
has_heard reach i p j (r ∷ qs) (suc k) q e d h =
    go (differ i j && hear reach p r) (subst (λ (x : ℕ). Has (record { number = x; point = q.point }) (heard reach i p (suc j) qs)) shift (has_heard reach i p (suc j) qs k q e (ap (differ i) shift ∙ d) h))
  where
    shift : suc j + k ≡ j + suc k
    shift = omega arith

    go : (b : Bool) → Has (record { number = j + suc k; point = q.point }) (heard reach i p (suc j) qs)
        → Has (record { number = j + suc k; point = q.point }) (cond b (record { number = j; point = r.point } ∷ heard reach i p (suc j) qs) (heard reach i p (suc j) qs))
    go true g = inr g
    go false g = g

-- ---- the neighbours of u: each other node in service within reach, at its point
pub neighbours_has : (m : Meaning) (u : ℕ) (n : Node) → Has n (neighbours m u) → (s : Near m u n.number) × (n.point ≡ s.q)
neighbours_has m u n h = go (radio m u) refl h
  where
    go : (o : Option Radio) → radio m u ≡ o → Has n (heard_by m u o) → (s : Near m u n.number) × (n.point ≡ s.q)
    go None e g = elim g [ ]
    go (Some p) e g =
        let (k, q, f, (a, b, c, d)) = heard_has m.reach u p 0 m.nodes n g in
        let at : n.number ≡ k = a ∙ zero-add k in
        let (x, y) = both d in
        let (z, w) = both x in (
          record {
            p = p.point;
            q = q.point;
            at_u = radio_serving m u p e z;
            at_v = ap (serving_at m) at ∙ radio_serving m k q f w;
            apart = λ t. differ_apart u (0 + k) c (t ∙ a);
            close = told y;
          },
          b,
        )

pub has_neighbours : (m : Meaning) (u v : ℕ) (s : Near m u v) → Has (record { number = v; point = s.q }) (neighbours m u)
has_neighbours m u v s =
    let (p, e, on, x) = serving_radio m u s.p s.at_u in
    let (q, f, too, y) = serving_radio m v s.q s.at_v in
    let close : le_z (squared p.point q.point) (pos (m.reach * m.reach)) ≡ true = ap₂ (λ (a b : Point). le_z (squared a b) (pos (m.reach * m.reach))) x y ∙ holds s.close in
    let heard_it = has_heard m.reach u p 0 m.nodes v q f (ap (differ u) (zero-add v) ∙ apart_differ u v s.apart) (pair (pair on too) close) in
    subst (Has (record { number = v; point = s.q })) (sym (ap (heard_by m u) e))
    (subst (λ (n : Node). Has n (heard m.reach u p 0 m.nodes)) (λ i. record { number = zero-add v i; point = y i }) heard_it)

pub near : NeighboursAreNear
near m u v = (come, go)
  where
    come : T (is_among (neighbours m u) v) → Near m u v
    come t =
        let (n, h, e) = some_found (λ (n : Node). not (differ n.number v)) (neighbours m u) (holds t) in
        subst (Near m u) (is_same n.number v e) (neighbours_has m u n h).0

    go : Near m u v → T (is_among (neighbours m u) v)
    go s = told (found_some (λ (n : Node). not (differ n.number v)) (neighbours m u) (record { number = v; point = s.q }) (has_neighbours m u v s) (same_is v v refl))

-- ---- the other way round
abbrev pub near_back : (m : Meaning) (u v : ℕ) → Near m u v → Near m v u
near_back m u v s = record {
  p = s.q;
  q = s.p;
  at_u = s.at_v;
  at_v = s.at_u;
  apart = λ e. s.apart (sym e);
  close = subst (λ z. T (le_z z (pos (m.reach * m.reach)))) (squared_turned s.p s.q) s.close;
}

-- a node in service has one point
pub one_point : (m : Meaning) (i : ℕ) (p q : Point) → serving_at m i ≡ Some p → serving_at m i ≡ Some q → p ≡ q
one_point m i p q e f = same_some p q (sym e ∙ f)
