-- The crossing count: the direction D = N·(t − s) turned a little, levels and sides, and "crosses nearer to t"
use mathlib.Core.Path.{◌≡◌, refl, sym, ◌∙◌, ap, ap₂, subst}
use mathlib.Core.Bool.{Bool, true, false, not, cond}
use mathlib.Core.List.{[], ◌∷◌}
use Prim.Native.Nat.{zero, suc}
use native.Mathlib.Omega.{arith}
use lib.Dec.{T}
use lib.IntN.{ℤ, pos, negsuc, ◌+ℤ◌, ◌-ℤ◌, ◌*ℤ◌, neg_ℤ, nat_abs, *ℤ_comm}
use lib.Signed.{◌<ℤ◌, ◌≤ℤ◌, lt_z}
use borrow.Author.Differences.{ints}
use Rattle.plane.proofs.Vectors.{Vector, dot, turn, diff}
use Rattle.plane.proofs.Sites.{det, node, far, place, L, xor, and, hit, crossing}
use Rattle.plane.proofs.Ring.{E, var, add, mul, neg, sub, lit, ring}
use Rattle.plane.proofs.Identities.{Vectorᵉ, dotᵉ, turnᵉ, diffᵉ}
use Rattle.plane.proofs.Integers.{mul_neg}
use Rattle.plane.proofs.Positive.{mul_nonneg}
use Rattle.plane.proofs.Determinants.{det_place, Siteᵉ, detᵉ}
use Rattle.plane.proofs.Signs.{St, Strict, Weak, Wk, weak, tells, st_mul, wk_mul, st_cycle, st_swap, levels, mixed3}
use Rattle.plane.proofs.Facts.{turn_swap}
use Rattle.plane.proofs.Strip.{Off, off_swap, left_sign, pqr, qpr, prq, rqp}
use Rattle.plane.proofs.Discs.{turn_sign}

-- the direction
abbrev pub dir : ℤ → Vector → Vector → Vector
dir N s t = record { x = N *ℤ (t.x -ℤ s.x) -ℤ (t.y -ℤ s.y); y = N *ℤ (t.y -ℤ s.y) +ℤ (t.x -ℤ s.x) }

abbrev dirᵉ : E → Vectorᵉ → Vectorᵉ → Vectorᵉ
dirᵉ n s t = record { x = sub (mul n (sub t.x s.x)) (sub t.y s.y); y = add (mul n (sub t.y s.y)) (sub t.x s.x) }

abbrev A : Vectorᵉ
A = record { x = var 0; y = var 1 }

abbrev B : Vectorᵉ
B = record { x = var 2; y = var 3 }

abbrev C : Vectorᵉ
C = record { x = var 4; y = var 5 }

abbrev F : Vectorᵉ
F = record { x = var 6; y = var 7 }

abbrev at_node : Vectorᵉ → Siteᵉ
at_node p = record { x = p.x; y = p.y; h = lit (pos 1) }

abbrev at_far : Vectorᵉ → Siteᵉ
at_far p = record { x = p.x; y = p.y; h = lit (pos 0) }

abbrev at_place : E → E → Vectorᵉ → Vectorᵉ → Siteᵉ
at_place c e s t = record { x = add (mul e s.x) (mul c t.x); y = add (mul e s.y) (mul c t.y); h = add e c }

level_s_is : (N : ℤ) (s t z : Vector) → det (node s) (far (dir N s t)) (node z) ≡ N *ℤ turn s t z -ℤ dot (diff t s) (diff z s)
level_s_is N s t z = ring (s.x ∷ s.y ∷ t.x ∷ t.y ∷ z.x ∷ z.y ∷ N ∷ [])
    (detᵉ (at_node A) (at_far (dirᵉ (var 6) A B)) (at_node C)) (sub (mul (var 6) (turnᵉ A B C)) (dotᵉ (diffᵉ B A) (diffᵉ C A))) tt

level_t_is : (N : ℤ) (s t z : Vector) → det (node t) (far (dir N s t)) (node z) ≡ N *ℤ turn s t z -ℤ dot (diff t s) (diff z t)
level_t_is N s t z = ring (s.x ∷ s.y ∷ t.x ∷ t.y ∷ z.x ∷ z.y ∷ N ∷ [])
    (detᵉ (at_node B) (at_far (dirᵉ (var 6) A B)) (at_node C)) (sub (mul (var 6) (turnᵉ A B C)) (dotᵉ (diffᵉ B A) (diffᵉ C B))) tt

-- any direction d in place of dir
level_x_is : (c e : ℤ) (s t z d : Vector) → det (place c e s t) (far d) (node z) ≡ e *ℤ det (node s) (far d) (node z) +ℤ c *ℤ det (node t) (far d) (node z)
level_x_is c e s t z d = ring (s.x ∷ s.y ∷ t.x ∷ t.y ∷ z.x ∷ z.y ∷ d.x ∷ d.y ∷ c ∷ e ∷ [])
    (detᵉ (at_place (var 8) (var 9) A B) (at_far F) (at_node C)) (add (mul (var 9) (detᵉ (at_node A) (at_far F) (at_node C))) (mul (var 8) (detᵉ (at_node B) (at_far F) (at_node C)))) tt

-- N·k − m has k's sign, where m is within N
scaled_up : (N k : ℤ) → N *ℤ k ≡ N *ℤ (k -ℤ pos 1) +ℤ N
scaled_up N k = ring (N ∷ k ∷ []) (mul (var 0) (var 1)) (add (mul (var 0) (sub (var 1) (lit (pos 1)))) (var 0)) tt

scaled_down : (N k : ℤ) → neg_ℤ (N *ℤ k) ≡ N *ℤ (neg_ℤ k -ℤ pos 1) +ℤ N
scaled_down N k = ring (N ∷ k ∷ []) (neg (mul (var 0) (var 1))) (add (mul (var 0) (sub (neg (var 1)) (lit (pos 1)))) (var 0)) tt

pub scaled : (N k m : ℤ) {b : Bool} → St b k → neg_ℤ N <ℤ m → m <ℤ N → St b (N *ℤ k -ℤ m)
scaled N k m {b = b} s lo hi = go b s.is
  where
    big : pos 0 ≤ℤ N
    big = omega (arith, ints)

    rest : (z w y : ℤ) → z ≡ w +ℤ N → pos 0 ≤ℤ w → pos 0 <ℤ (z -ℤ m)
    rest z w y e h = omega (arith, ints)

    rest' : (z w y : ℤ) → neg_ℤ z ≡ w +ℤ N → pos 0 ≤ℤ w → pos 0 <ℤ neg_ℤ (z -ℤ m)
    rest' z w y e h = omega (arith, ints)

    one_less : (y : ℤ) → pos 0 <ℤ y → pos 0 ≤ℤ (y -ℤ pos 1)
    one_less y h = omega (arith, ints)

    go : (b : Bool) → Strict b k → St b (N *ℤ k -ℤ m)
    go true h = record { is = rest (N *ℤ k) (N *ℤ (k -ℤ pos 1)) k (scaled_up N k) (mul_nonneg big (one_less k h)) }
    go false h = record { is = rest' (N *ℤ k) (N *ℤ (neg_ℤ k -ℤ pos 1)) k (scaled_down N k) (mul_nonneg big (one_less (neg_ℤ k) h)) }

abbrev pub Within : ℤ → ℤ → Type 0
Within N m = (neg_ℤ N <ℤ m) × (m <ℤ N)

-- SIDES AND LEVELS: a node off the line s t is above the levels of s, of t and of any place between them just if it is left of s t
pub level_s : (N : ℤ) (s t z : Vector) → Off (node s) (node t) (node z) → Within N (dot (diff t s) (diff z s))
    → St (L (node s) (node t) (node z)) (det (node s) (far (dir N s t)) (node z))
level_s N s t z n w = subst (λ k. St (L (node s) (node t) (node z)) k) (sym (level_s_is N s t z)) (scaled N (turn s t z) (dot (diff t s) (diff z s)) (turn_sign s t z n) w.0 w.1)

pub level_t : (N : ℤ) (s t z : Vector) → Off (node s) (node t) (node z) → Within N (dot (diff t s) (diff z t))
    → St (L (node s) (node t) (node z)) (det (node t) (far (dir N s t)) (node z))
level_t N s t z n w = subst (λ k. St (L (node s) (node t) (node z)) k) (sym (level_t_is N s t z)) (scaled N (turn s t z) (dot (diff t s) (diff z t)) (turn_sign s t z n) w.0 w.1)

st_sum : {b : Bool} {y z : ℤ} → St b y → Wk b z → St b (y +ℤ z)
st_sum {b = b} {y = y} {z = z} h k = go b h.is k.is
  where
    go : (b : Bool) → Strict b y → Weak b z → St b (y +ℤ z)
    go true h k = record { is = omega (arith, ints) }
    go false h k = record { is = omega (arith, ints) }

plus : {z : ℤ} → pos 0 <ℤ z → St true z
plus h = record { is = h }

plus? : {z : ℤ} → pos 0 ≤ℤ z → Wk true z
plus? h = record { is = h }

pub level_x : (c e : ℤ) (s t z d : Vector) {b : Bool} → pos 0 ≤ℤ c → pos 0 <ℤ e → St b (det (node s) (far d) (node z)) → St b (det (node t) (far d) (node z)) → St b (det (place c e s t) (far d) (node z))
level_x c e s t z d {b = b} hc he hs ht = subst (λ k. St b k) (sym (level_x_is c e s t z d)) (st_sum (st_mul (plus he) hs) (wk_mul (plus? hc) (weak ht)))

-- ---- a dart that crosses s t nearer to t than the place c : e
abbrev pub size : ℤ → ℤ
size z = pos (nat_abs z)

abbrev pub nearer : ℤ → ℤ → Vector → Vector → Vector → Vector → Bool
nearer c e s t u v = and (crossing (node s) (node t) (node u) (node v)) (lt_z (c *ℤ size (turn u v t)) (size (turn u v s) *ℤ e))

pub size_pos : (z : ℤ) → pos 0 <ℤ z → size z ≡ z
size_pos (pos n) h = refl
size_pos (negsuc n) h = absurd (omega (arith, ints))

pub size_neg : (z : ℤ) → pos 0 <ℤ neg_ℤ z → size z ≡ neg_ℤ z
size_neg (pos n) h = absurd (omega (arith, ints))
size_neg (negsuc n) h = refl

size_minus : (z : ℤ) → size (neg_ℤ z) ≡ size z
size_minus (pos zero) = refl
size_minus (pos (suc n)) = refl
size_minus (negsuc n) = refl

-- from lo to hi, right to left of s t: the turn to s is greater than that to t
falls : (lo hi s t : Vector) → turn lo hi s -ℤ turn lo hi t ≡ turn s t hi -ℤ turn s t lo
falls lo hi s t = ring (lo.x ∷ lo.y ∷ hi.x ∷ hi.y ∷ s.x ∷ s.y ∷ t.x ∷ t.y ∷ [])
    (sub (turnᵉ A B C) (turnᵉ A B F)) (sub (turnᵉ C F B) (turnᵉ C F A)) tt

pub numbers : (c e p q : ℤ) → pos 0 ≤ℤ c → pos 0 <ℤ e → q <ℤ p → (bp bq : Bool) → St bp p → St bq q
    → xor (lt_z (pos 0) (e *ℤ p +ℤ c *ℤ q)) bq ≡ and (xor bp bq) (lt_z (c *ℤ size q) (size p *ℤ e))
numbers c e p q hc he down true true hp hq = ap (λ b. xor b true) (tells (st_sum (st_mul (plus he) hp) (wk_mul (plus? hc) (weak hq))))
numbers c e p q hc he down false false hp hq = ap (λ b. xor b false) (tells (st_sum (st_mul (plus he) hp) (wk_mul (plus? hc) (weak hq))))
numbers c e p q hc he down false true hp hq = absurd (odd p q down hp.is hq.is)
  where
    odd : (p q : ℤ) → q <ℤ p → pos 0 <ℤ neg_ℤ p → pos 0 <ℤ q → ⊥
    odd p q h k l = omega (arith, ints)
numbers c e p q hc he down true false hp hq = go (lt_z (pos 0) (e *ℤ p +ℤ c *ℤ q)) (lt_z (c *ℤ size q) (size p *ℤ e)) refl refl
    (ap (λ w. c *ℤ w) (size_neg q hq.is) ∙ mul_neg c q) (ap (λ w. w *ℤ e) (size_pos p hp.is) ∙ *ℤ_comm p e)
  where
    go : (l r : Bool) → lt_z (pos 0) (e *ℤ p +ℤ c *ℤ q) ≡ l → lt_z (c *ℤ size q) (size p *ℤ e) ≡ r → c *ℤ size q ≡ neg_ℤ (c *ℤ q) → size p *ℤ e ≡ e *ℤ p → xor l false ≡ r
    go true true f g i j = refl
    go false false f g i j = refl
    go true false f g i j = absurd (omega (arith, ints))
    go false true f g i j = absurd (omega (arith, ints))

less : (x y a b : ℤ) → x -ℤ y ≡ b -ℤ a → pos 0 <ℤ neg_ℤ a → pos 0 <ℤ b → y <ℤ x
less x y a b e h k = omega (arith, ints)

left_place : (lo hi s t : Vector) (c e : ℤ) → L (node lo) (node hi) (place c e s t) ≡ lt_z (pos 0) (e *ℤ turn lo hi s +ℤ c *ℤ turn lo hi t)
unfolding L
left_place lo hi s t c e = ap (lt_z (pos 0)) (det_place lo hi s t c e)

-- a dart from lo right of s t to hi left of it
pub near_count : (c e : ℤ) (s t lo hi : Vector) → pos 0 ≤ℤ c → pos 0 <ℤ e → St false (turn s t lo) → St true (turn s t hi)
    → Off (node lo) (node hi) (node s) → Off (node lo) (node hi) (node t)
    → xor (L (node lo) (node hi) (place c e s t)) (L (node lo) (node hi) (node t))
    ≡ and (xor (L (node lo) (node hi) (node s)) (L (node lo) (node hi) (node t))) (lt_z (c *ℤ size (turn lo hi t)) (size (turn lo hi s) *ℤ e))
near_count c e s t lo hi hc he hlo hhi ns nt =
    ap (λ b. xor b (L (node lo) (node hi) (node t))) (left_place lo hi s t c e)
    ∙ numbers c e (turn lo hi s) (turn lo hi t) hc he (less (turn lo hi s) (turn lo hi t) (turn s t lo) (turn s t hi) (falls lo hi s t) hlo.is hhi.is)
    (L (node lo) (node hi) (node s)) (L (node lo) (node hi) (node t)) (turn_sign lo hi s ns) (turn_sign lo hi t nt)

xor_not : (a b : Bool) → xor (not a) (not b) ≡ xor a b
xor_not true true = refl
xor_not true false = refl
xor_not false true = refl
xor_not false false = refl

pub near_twin : (c e : ℤ) (s t u v : Vector) → Off (node u) (node v) (node s) → Off (node u) (node v) (node t)
    → and (xor (L (node v) (node u) (node s)) (L (node v) (node u) (node t))) (lt_z (c *ℤ size (turn v u t)) (size (turn v u s) *ℤ e))
    ≡ and (xor (L (node u) (node v) (node s)) (L (node u) (node v) (node t))) (lt_z (c *ℤ size (turn u v t)) (size (turn u v s) *ℤ e))
near_twin c e s t u v ns nt = ap₂ and
    (ap₂ xor (qpr (node u) (node v) (node s) (left_sign (node u) (node v) (node s) ns)) (qpr (node u) (node v) (node t) (left_sign (node u) (node v) (node t) nt)) ∙ xor_not (L (node u) (node v) (node s)) (L (node u) (node v) (node t)))
    (ap₂ (λ p q. lt_z (c *ℤ p) (q *ℤ e)) (ap size (turn_swap u v t) ∙ size_minus (turn u v t)) (ap size (turn_swap u v s) ∙ size_minus (turn u v s)))

-- z's side of s t is z's side of the levels of s and of t
pub record Sided (d s t z : Vector) : Type 0 where
  pub off : Off (node s) (node t) (node z)
  pub by_s : St (L (node s) (node t) (node z)) (det (node s) (far d) (node z))
  pub by_t : St (L (node s) (node t) (node z)) (det (node t) (far d) (node z))

pub sided : (N : ℤ) (s t z : Vector) → Off (node s) (node t) (node z) → Within N (dot (diff t s) (diff z s)) → Within N (dot (diff t s) (diff z t)) → Sided (dir N s t) s t z
sided N s t z n ws wt = record { off = n; by_s = level_s N s t z n ws; by_t = level_t N s t z n wt }

two_hits : (bu bv w p p' q q' : Bool) → mixed3 bu (not bv) w ≡ true
    → xor (cond w (and (not bu) (and bv p)) (and (not bv) (and bu p'))) (cond w (and (not bu) (and bv q)) (and (not bv) (and bu q')))
    ≡ and (xor bu bv) (cond bv (xor p q) (xor p' q'))
two_hits true true true p p' q q' e = refl
two_hits true true false p p' q q' e = refl
two_hits true false true p p' q q' e = absurd (subst T (sym e) tt)
two_hits true false false p p' q q' e = refl
two_hits false true true p p' q q' e = refl
two_hits false true false p p' q q' e = absurd (subst T (sym e) tt)
two_hits false false true p p' q q' e = refl
two_hits false false false p p' q q' e = refl

-- THE CROSSING COUNT: the hits of the place and of t, together, are the darts that cross nearer
pub count : (c e : ℤ) (d s t u v : Vector) → pos 0 ≤ℤ c → pos 0 <ℤ e → Sided d s t u → Sided d s t v
    → Off (node u) (node v) (node s) → Off (node u) (node v) (node t) → Off (node u) (node v) (far d)
    → xor (hit (far d) (place c e s t) (node u) (node v)) (hit (far d) (node t) (node u) (node v)) ≡ nearer c e s t u v
count c e d s t u v hc he hu hv ns nt nd =
    rw (
      prq (node u) (node v) (far d) (left_sign (node u) (node v) (far d) nd),
      rqp (place c e s t) (far d) (node u) xu,
      pqr (place c e s t) (far d) (node v) xv,
      rqp (place c e s t) (far d) (node v) xv,
      pqr (place c e s t) (far d) (node u) xu,
      rqp (node t) (far d) (node u) hu.by_t,
      pqr (node t) (far d) (node v) hv.by_t,
      rqp (node t) (far d) (node v) hv.by_t,
      pqr (node t) (far d) (node u) hu.by_t,
    )
    (two_hits (L (node s) (node t) (node u)) (L (node s) (node t) (node v)) (not (L (node u) (node v) (far d))) (L (node u) (node v) (place c e s t)) (L (node v) (node u) (place c e s t)) (L (node u) (node v) (node t)) (L (node v) (node u) (node t)) order ∙ last (L (node s) (node t) (node u)) (L (node s) (node t) (node v)) (turn_sign s t u hu.off) (turn_sign s t v hv.off))
  where
    xu : St (L (node s) (node t) (node u)) (det (place c e s t) (far d) (node u))
    xu = level_x c e s t u d hc he hu.by_s hu.by_t

    xv : St (L (node s) (node t) (node v)) (det (place c e s t) (far d) (node v))
    xv = level_x c e s t v d hc he hv.by_s hv.by_t

    one : pos 0 <ℤ pos 1
    one = record { lt = tt }

    order : mixed3 (L (node s) (node t) (node u)) (not (L (node s) (node t) (node v))) (not (L (node u) (node v) (far d))) ≡ true
    order = levels (node u) (node t) (node v) (far d) one one one refl
        (st_cycle (far d) (node u) (node t) (st_cycle (node t) (far d) (node u) hu.by_t))
        (weak (st_cycle (far d) (node t) (node v) (st_swap (node t) (far d) (node v) hv.by_t)))
        (weak (left_sign (node u) (node v) (far d) nd))

    last : (bu bv : Bool) → St bu (turn s t u) → St bv (turn s t v)
        → and (xor bu bv) (cond bv (xor (L (node u) (node v) (place c e s t)) (L (node u) (node v) (node t))) (xor (L (node v) (node u) (place c e s t)) (L (node v) (node u) (node t))))
        ≡ and (and (xor bu bv) (xor (L (node u) (node v) (node s)) (L (node u) (node v) (node t)))) (lt_z (c *ℤ size (turn u v t)) (size (turn u v s) *ℤ e))
    last true true su sv = refl
    last false false su sv = refl
    last false true su sv = near_count c e s t u v hc he su sv ns nt
    last true false su sv = near_count c e s t v u hc he sv su (off_swap (node u) (node v) (node s) ns) (off_swap (node u) (node v) (node t) nt) ∙ near_twin c e s t u v ns nt
