-- Equations of ℤ by computing: an equation between two polynomials holds if their difference, multiplied out, is zero
use mathlib.Core.Path.{◌≡◌, refl, sym, ◌∙◌, ap, ap₂}
use mathlib.Core.Bool.{Bool, true, false}
use mathlib.Core.List.{List, [], ◌∷◌}
use Prim.Native.Nat.{ℕ, zero, suc}
use lib.Dec.{T}
use lib.IntN.{ℤ, pos, negsuc, ◌+ℤ◌, ◌*ℤ◌, neg_ℤ, +ℤ_assoc, +ℤ_comm, +ℤ_idl, +ℤ_idr, *ℤ_comm, zero-*ℤ, *ℤ-zero}
use Rattle.plane.proofs.Integers.{mul_add, add_mul, mul_assoc, neg_one_mul, one_mul, swap4, zero_diff}

-- ---- expressions, and what they mean
pub data E : Type 0 where
  var : ℕ → E
  lit : ℤ → E
  add : E → E → E
  mul : E → E → E
  neg : E → E

abbrev pub sub : E → E → E
sub a b = add a (neg b)

abbrev pub first : List ℤ → ℤ
first [] = pos 0
first (x ∷ ρ) = x

abbrev pub rest : List ℤ → List ℤ
rest [] = []
rest (x ∷ ρ) = ρ

abbrev pub nth : List ℤ → ℕ → ℤ
nth ρ zero = first ρ
nth ρ (suc i) = nth (rest ρ) i

abbrev pub den : E → List ℤ → ℤ
den (var i) ρ = nth ρ i
den (lit c) ρ = c
den (add a b) ρ = den a ρ +ℤ den b ρ
den (mul a b) ρ = den a ρ *ℤ den b ρ
den (neg a) ρ = neg_ℤ (den a ρ)

-- ---- polynomials: `node p q` is p + x·q, where x is the first variable, which p does not have
pub data P : Type 0 where
  nil : P
  con : ℤ → P
  node : P → P → P

abbrev pub ev : P → List ℤ → ℤ
ev nil ρ = pos 0
ev (con c) ρ = c
ev (node p q) ρ = ev p (rest ρ) +ℤ first ρ *ℤ ev q ρ

abbrev pub addc : ℤ → P → P
addc c nil = con c
addc c (con b) = con (c +ℤ b)
addc c (node p q) = node (addc c p) q

abbrev pub plus : P → P → P
plus nil r = r
plus (con a) r = addc a r
plus (node p q) nil = node p q
plus (node p q) (con b) = node (addc b p) q
plus (node p q) (node r s) = node (plus p r) (plus q s)

abbrev pub scale : ℤ → P → P
scale c nil = nil
scale c (con b) = con (c *ℤ b)
scale c (node p q) = node (scale c p) (scale c q)

abbrev pub low : (P → P) → P → P
low f nil = nil
low f (con c) = node (f (con c)) nil
low f (node r s) = node (f r) (low f s)

abbrev pub shift : P → P
shift nil = nil
shift (con c) = node nil (con c)
shift (node p q) = node nil (node p q)

abbrev pub times : P → P → P
times nil r = nil
times (con a) r = scale a r
times (node p q) r = plus (low (λ t. times p t) r) (shift (times q r))

abbrev pub varP : ℕ → P
varP zero = node nil (con (pos 1))
varP (suc i) = node (varP i) nil

abbrev pub norm : E → P
norm (var i) = varP i
norm (lit c) = con c
norm (add a b) = plus (norm a) (norm b)
norm (mul a b) = times (norm a) (norm b)
norm (neg a) = scale (negsuc 0) (norm a)

-- ---- that the polynomial means what the expression means
ev_addc : (c : ℤ) (p : P) (ρ : List ℤ) → ev (addc c p) ρ ≡ c +ℤ ev p ρ
ev_addc c nil ρ = sym (+ℤ_idr c)
ev_addc c (con b) ρ = refl
ev_addc c (node p q) ρ = ap (λ z. z +ℤ first ρ *ℤ ev q ρ) (ev_addc c p (rest ρ)) ∙ +ℤ_assoc c (ev p (rest ρ)) (first ρ *ℤ ev q ρ)

ev_plus : (p r : P) (ρ : List ℤ) → ev (plus p r) ρ ≡ ev p ρ +ℤ ev r ρ
ev_plus nil r ρ = sym (+ℤ_idl (ev r ρ))
ev_plus (con a) r ρ = ev_addc a r ρ
ev_plus (node p q) nil ρ = sym (+ℤ_idr (ev (node p q) ρ))
ev_plus (node p q) (con b) ρ = ev_addc b (node p q) ρ ∙ +ℤ_comm b (ev (node p q) ρ)
ev_plus (node p q) (node r s) ρ =
    ap₂ (λ y z. y +ℤ first ρ *ℤ z) (ev_plus p r (rest ρ)) (ev_plus q s ρ)
    ∙ ap (λ z. ev p (rest ρ) +ℤ ev r (rest ρ) +ℤ z) (mul_add (first ρ) (ev q ρ) (ev s ρ))
    ∙ swap4 (ev p (rest ρ)) (ev r (rest ρ)) (first ρ *ℤ ev q ρ) (first ρ *ℤ ev s ρ)

left_comm : (a b c : ℤ) → a *ℤ (b *ℤ c) ≡ b *ℤ (a *ℤ c)
left_comm a b c = sym (mul_assoc a b c) ∙ ap (λ z. z *ℤ c) (*ℤ_comm a b) ∙ mul_assoc b a c

ev_scale : (c : ℤ) (p : P) (ρ : List ℤ) → ev (scale c p) ρ ≡ c *ℤ ev p ρ
ev_scale c nil ρ = sym (*ℤ-zero c)
ev_scale c (con b) ρ = refl
ev_scale c (node p q) ρ =
    ap₂ (λ y z. y +ℤ first ρ *ℤ z) (ev_scale c p (rest ρ)) (ev_scale c q ρ)
    ∙ ap (λ z. c *ℤ ev p (rest ρ) +ℤ z) (left_comm (first ρ) c (ev q ρ))
    ∙ sym (mul_add c (ev p (rest ρ)) (first ρ *ℤ ev q ρ))

ev_low : (f : P → P) (m : ℤ) (ρ : List ℤ) → ((r : P) → ev (f r) (rest ρ) ≡ m *ℤ ev r (rest ρ)) → (conm : (c : ℤ) → ev (f (con c)) (rest ρ) ≡ m *ℤ c) → (r : P) → ev (low f r) ρ ≡ m *ℤ ev r ρ
ev_low f m ρ h k nil = sym (*ℤ-zero m)
ev_low f m ρ h k (con c) = ap₂ ◌+ℤ◌ (k c) (*ℤ-zero (first ρ)) ∙ +ℤ_idr (m *ℤ c)
ev_low f m ρ h k (node r s) =
    ap₂ (λ y z. y +ℤ first ρ *ℤ z) (h r) (ev_low f m ρ h k s)
    ∙ ap (λ z. m *ℤ ev r (rest ρ) +ℤ z) (left_comm (first ρ) m (ev s ρ))
    ∙ sym (mul_add m (ev r (rest ρ)) (first ρ *ℤ ev s ρ))

ev_shift : (p : P) (ρ : List ℤ) → ev (shift p) ρ ≡ first ρ *ℤ ev p ρ
ev_shift nil ρ = sym (*ℤ-zero (first ρ))
ev_shift (con c) ρ = +ℤ_idl (first ρ *ℤ c)
ev_shift (node p q) ρ = +ℤ_idl (first ρ *ℤ ev (node p q) ρ)

ev_times : (p r : P) (ρ : List ℤ) → ev (times p r) ρ ≡ ev p ρ *ℤ ev r ρ
ev_times nil r ρ = sym (zero-*ℤ (ev r ρ))
ev_times (con a) r ρ = ev_scale a r ρ
ev_times (node p q) r ρ =
    ev_plus (low (λ t. times p t) r) (shift (times q r)) ρ
    ∙ ap₂ ◌+ℤ◌
    (ev_low (λ t. times p t) (ev p (rest ρ)) ρ (λ t. ev_times p t (rest ρ)) (λ c. ev_times p (con c) (rest ρ)) r)
    (ev_shift (times q r) ρ ∙ ap (λ z. first ρ *ℤ z) (ev_times q r ρ) ∙ sym (mul_assoc (first ρ) (ev q ρ) (ev r ρ)))
    ∙ sym (add_mul (ev p (rest ρ)) (first ρ *ℤ ev q ρ) (ev r ρ))

ev_var : (i : ℕ) (ρ : List ℤ) → ev (varP i) ρ ≡ nth ρ i
ev_var zero ρ = +ℤ_idl (first ρ *ℤ pos 1) ∙ *ℤ_comm (first ρ) (pos 1) ∙ one_mul (first ρ)
ev_var (suc i) ρ = ap₂ ◌+ℤ◌ (ev_var i (rest ρ)) (*ℤ-zero (first ρ)) ∙ +ℤ_idr (nth (rest ρ) i)

norm_sound : (e : E) (ρ : List ℤ) → ev (norm e) ρ ≡ den e ρ
norm_sound (var i) ρ = ev_var i ρ
norm_sound (lit c) ρ = refl
norm_sound (add a b) ρ = ev_plus (norm a) (norm b) ρ ∙ ap₂ ◌+ℤ◌ (norm_sound a ρ) (norm_sound b ρ)
norm_sound (mul a b) ρ = ev_times (norm a) (norm b) ρ ∙ ap₂ ◌*ℤ◌ (norm_sound a ρ) (norm_sound b ρ)
norm_sound (neg a) ρ = ev_scale (negsuc 0) (norm a) ρ ∙ neg_one_mul (ev (norm a) ρ) ∙ ap neg_ℤ (norm_sound a ρ)

-- ---- the test
abbrev pub none : ℤ → Bool
none (pos zero) = true
none (pos (suc n)) = false
none (negsuc n) = false

abbrev pub both : Bool → Bool → Bool
both true b = b
both false b = false

abbrev pub vanishes : P → Bool
vanishes nil = true
vanishes (con c) = none c
vanishes (node p q) = both (vanishes p) (vanishes q)

none_is : (c : ℤ) → T (none c) → c ≡ pos 0
none_is (pos zero) t = refl
none_is (pos (suc n)) t = absurd t
none_is (negsuc n) t = absurd t

both_is : (a b : Bool) → T (both a b) → T a × T b
both_is true b t = (tt, t)
both_is false b t = absurd t

ev_vanishes : (p : P) (ρ : List ℤ) → T (vanishes p) → ev p ρ ≡ pos 0
ev_vanishes nil ρ t = refl
ev_vanishes (con c) ρ t = none_is c t
ev_vanishes (node p q) ρ t =
    let (u, v) = both_is (vanishes p) (vanishes q) t in
    ap₂ (λ y z. y +ℤ first ρ *ℤ z) (ev_vanishes p (rest ρ) u) (ev_vanishes q ρ v)
    ∙ +ℤ_idl (first ρ *ℤ pos 0) ∙ *ℤ-zero (first ρ)

-- ---- THE THEOREM
pub ring : (ρ : List ℤ) (l r : E) → T (vanishes (norm (sub l r))) → den l ρ ≡ den r ρ
ring ρ l r t = zero_diff (den l ρ) (den r ρ) (sym (norm_sound (sub l r) ρ) ∙ ev_vanishes (norm (sub l r)) ρ t)
