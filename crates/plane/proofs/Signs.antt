-- A Boolean as the sign of an integer, strictly (St) or with 0 allowed (Wk), and the rules that relations between integers give
use mathlib.Core.Path.{◌≡◌, refl, sym, ◌∙◌, ap, subst}
use mathlib.Core.Bool.{Bool, true, false, not}
use Prim.Native.Nat.{zero, suc}
use native.Mathlib.Omega.{arith}
use lib.IntN.{ℤ, pos, negsuc, ◌+ℤ◌, ◌*ℤ◌, neg_ℤ, zero-*ℤ}
use lib.Signed.{◌<ℤ◌, ◌≤ℤ◌, lt_z}
use borrow.Author.Differences.{ints, true_is_lt, false_is_lt}
use Rattle.plane.proofs.Sites.{Site, det, xor, or}
use Rattle.plane.proofs.Positive.{mul_pos, mul_nonneg, lt_le}
use Rattle.plane.proofs.Integers.{mul_neg, neg_mul}
use Rattle.plane.proofs.Determinants.{det_cycle, det_swap, plücker₅, weights}

abbrev pub Strict : Bool → ℤ → Type 0
Strict true z = pos 0 <ℤ z
Strict false z = pos 0 <ℤ neg_ℤ z

abbrev pub Weak : Bool → ℤ → Type 0
Weak true z = pos 0 ≤ℤ z
Weak false z = pos 0 ≤ℤ neg_ℤ z

-- records, so that the Boolean is inferred
pub record St (b : Bool) (z : ℤ) : Type 0 where
  pub is : Strict b z

pub record Wk (b : Bool) (z : ℤ) : Type 0 where
  pub is : Weak b z

abbrev pub eqB : Bool → Bool → Bool
eqB true b = b
eqB false b = not b

abbrev pub mixed3 : Bool → Bool → Bool → Bool
mixed3 a b c = or (xor a b) (xor b c)

abbrev pub mixed4 : Bool → Bool → Bool → Bool → Bool
mixed4 a b c d = or (xor a b) (or (xor b c) (xor c d))

pub weak : {b : Bool} {z : ℤ} → St b z → Wk b z
weak {b = b} {z = z} s = go b s.is
  where
    go : (b : Bool) → Strict b z → Wk b z
    go true h = record { is = lt_le h }
    go false h = record { is = lt_le h }

-- the test tells the sign
pub sure : (z : ℤ) → ¬ (z ≡ pos 0) → St (lt_z (pos 0) z) z
sure (pos zero) n = absurd (n refl)
sure (pos (suc m)) n = go (lt_z (pos 0) (pos (suc m))) refl
  where
    go : (t : Bool) → lt_z (pos 0) (pos (suc m)) ≡ t → St t (pos (suc m))
    go true e = record { is = omega (arith, ints) }
    go false e = absurd (omega (arith, ints))
sure (negsuc m) n = record { is = omega (arith, ints) }

pub tells : {b : Bool} {z : ℤ} → St b z → lt_z (pos 0) z ≡ b
tells {b = b} {z = z} s = go b s.is
  where
    go : (b : Bool) → Strict b z → lt_z (pos 0) z ≡ b
    go true h = sym (true_is_lt (pos 0) z (omega (arith, ints)))
    go false h = sym (false_is_lt (pos 0) z (omega (arith, ints)))

pub st_neg : {b : Bool} {z : ℤ} → St b z → St (not b) (neg_ℤ z)
st_neg {b = b} {z = z} s = go b s.is
  where
    go : (b : Bool) → Strict b z → St (not b) (neg_ℤ z)
    go true h = record { is = omega (arith, ints) }
    go false h = record { is = h }

pub wk_neg : {b : Bool} {z : ℤ} → Wk b z → Wk (not b) (neg_ℤ z)
wk_neg {b = b} {z = z} s = go b s.is
  where
    go : (b : Bool) → Weak b z → Wk (not b) (neg_ℤ z)
    go true h = record { is = omega (arith, ints) }
    go false h = record { is = h }

pub neg_mul_neg : (y z : ℤ) → neg_ℤ y *ℤ neg_ℤ z ≡ y *ℤ z
neg_mul_neg y z = mul_neg (neg_ℤ y) z ∙ ap neg_ℤ (neg_mul y z) ∙ neg_neg (y *ℤ z)
  where
    neg_neg : (w : ℤ) → neg_ℤ (neg_ℤ w) ≡ w
    neg_neg w = omega (arith, ints)

pub st_mul : {a b : Bool} {y z : ℤ} → St a y → St b z → St (eqB a b) (y *ℤ z)
st_mul {a = a} {b = b} {y = y} {z = z} s t = go a b s.is t.is
  where
    go : (a b : Bool) → Strict a y → Strict b z → St (eqB a b) (y *ℤ z)
    go true true h k = record { is = mul_pos h k }
    go true false h k = record { is = subst (λ w. pos 0 <ℤ w) (mul_neg y z) (mul_pos h k) }
    go false true h k = record { is = subst (λ w. pos 0 <ℤ w) (neg_mul y z) (mul_pos h k) }
    go false false h k = record { is = subst (λ w. pos 0 <ℤ w) (neg_mul_neg y z) (mul_pos h k) }

pub wk_mul : {a b : Bool} {y z : ℤ} → Wk a y → Wk b z → Wk (eqB a b) (y *ℤ z)
wk_mul {a = a} {b = b} {y = y} {z = z} s t = go a b s.is t.is
  where
    go : (a b : Bool) → Weak a y → Weak b z → Wk (eqB a b) (y *ℤ z)
    go true true h k = record { is = mul_nonneg h k }
    go true false h k = record { is = subst (λ w. pos 0 ≤ℤ w) (mul_neg y z) (mul_nonneg h k) }
    go false true h k = record { is = subst (λ w. pos 0 ≤ℤ w) (neg_mul y z) (mul_nonneg h k) }
    go false false h k = record { is = subst (λ w. pos 0 ≤ℤ w) (neg_mul_neg y z) (mul_nonneg h k) }

-- a sum that is 0: not all alike, if one term is not 0
pub three : {a b c : Bool} {x y z : ℤ} → x +ℤ y +ℤ z ≡ pos 0 → Wk a x → St b y → Wk c z → mixed3 a b c ≡ true
three {a = a} {b = b} {c = c} {x = x} {y = y} {z = z} e p q r = go a b c p.is q.is r.is
  where
    go : (a b c : Bool) → Weak a x → Strict b y → Weak c z → mixed3 a b c ≡ true
    go true true true p q r = absurd (omega (arith, ints))
    go true true false p q r = refl
    go true false true p q r = refl
    go true false false p q r = refl
    go false true true p q r = refl
    go false true false p q r = refl
    go false false true p q r = refl
    go false false false p q r = absurd (omega (arith, ints))

pub four : {a b c d : Bool} {x y z w : ℤ} → x +ℤ y +ℤ z +ℤ w ≡ pos 0 → Wk a x → St b y → Wk c z → Wk d w → mixed4 a b c d ≡ true
four {a = a} {b = b} {c = c} {d = d} {x = x} {y = y} {z = z} {w = w} e p q r s = go a b c d p.is q.is r.is s.is
  where
    go : (a b c d : Bool) → Weak a x → Strict b y → Weak c z → Weak d w → mixed4 a b c d ≡ true
    go true true true true p q r s = absurd (omega (arith, ints))
    go true true true false p q r s = refl
    go true true false d p q r s = refl
    go true false c d p q r s = refl
    go false true c d p q r s = refl
    go false false true d p q r s = refl
    go false false false true p q r s = refl
    go false false false false p q r s = absurd (omega (arith, ints))

-- ---- of sites: a sign read in another order
pub st_cycle : {b : Bool} (p q r : Site) → St b (det p q r) → St b (det q r p)
st_cycle {b = b} p q r s = subst (λ w. St b w) (sym (det_cycle p q r)) s

pub st_swap : {b : Bool} (p q r : Site) → St b (det p q r) → St (not b) (det q p r)
st_swap {b = b} p q r s = subst (λ w. St (not b) w) (sym (det_swap p q r)) (st_neg s)

pub wk_cycle : {b : Bool} (p q r : Site) → Wk b (det p q r) → Wk b (det q r p)
wk_cycle {b = b} p q r s = subst (λ w. Wk b w) (sym (det_cycle p q r)) s

pub wk_swap : {b : Bool} (p q r : Site) → Wk b (det p q r) → Wk (not b) (det q p r)
wk_swap {b = b} p q r s = subst (λ w. Wk (not b) w) (sym (det_swap p q r)) (wk_neg s)

-- ---- THE SIGN RULES
-- seen from p: the three terms of Plücker are not all alike
pub seen : (p q r s t : Site) {b1 b2 b3 b4 b5 b6 : Bool} → Wk b1 (det p q r) → Wk b2 (det p s t) → St b3 (det p q s) → St b4 (det p r t) → Wk b5 (det p q t) → Wk b6 (det p r s)
    → mixed3 (eqB b1 b2) (not (eqB b3 b4)) (eqB b5 b6) ≡ true
seen p q r s t h1 h2 h3 h4 h5 h6 = three (plücker₅ p q r s t) (wk_mul h1 h2) (st_neg (st_mul h3 h4)) (wk_mul h5 h6)

positive : {z : ℤ} → pos 0 <ℤ z → St true z
positive h = record { is = h }

-- four sites of positive weight
pub flat4 : (a b c d : Site) {b1 b2 b3 b4 : Bool} → pos 0 <ℤ a.h → pos 0 <ℤ b.h → pos 0 <ℤ c.h → pos 0 <ℤ d.h
    → Wk b1 (det a b c) → St b2 (det a b d) → Wk b3 (det b c d) → Wk b4 (det a c d) → mixed4 (not b1) b2 b3 (not b4) ≡ true
flat4 a b c d ha hb hc hd h1 h2 h3 h4 = four (weights a b c d)
    (wk_neg (wk_mul (weak (positive hd)) h1)) (st_mul (positive hc) h2) (wk_mul (weak (positive ha)) h3) (wk_neg (wk_mul (weak (positive hb)) h4))

-- three sites of positive weight and a direction: "higher" has no cycle of three
pub levels : (a b c o : Site) {b1 b2 b3 : Bool} → pos 0 <ℤ a.h → pos 0 <ℤ b.h → pos 0 <ℤ c.h → o.h ≡ pos 0
    → St b1 (det a b o) → Wk b2 (det b c o) → Wk b3 (det a c o) → mixed3 b1 b2 (not b3) ≡ true
levels a b c o {b1 = b1} {b2 = b2} {b3 = b3} ha hb hc e h1 h2 h3 = fall b1 b2 b3 (four (weights a b c o)
    zeroth (st_mul (positive hc) h1) (wk_mul (weak (positive ha)) h2) (wk_neg (wk_mul (weak (positive hb)) h3)))
  where
    none : (z w : ℤ) → z ≡ pos 0 → z *ℤ w ≡ pos 0
    none z w e = ap (λ t. t *ℤ w) e ∙ zero-*ℤ w

    weigh : (z : ℤ) → z ≡ pos 0 → (b : Bool) → Wk b (neg_ℤ z)
    weigh z e true = record { is = omega (arith, ints) }
    weigh z e false = record { is = omega (arith, ints) }

    zeroth : Wk b1 (neg_ℤ (o.h *ℤ det a b c))
    zeroth = weigh (o.h *ℤ det a b c) (none o.h (det a b c) e) b1

    fall : (x y z : Bool) → mixed4 x x y (not z) ≡ true → mixed3 x y (not z) ≡ true
    fall true y z k = k
    fall false y z k = k
