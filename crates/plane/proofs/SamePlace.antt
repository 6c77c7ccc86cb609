-- Same place, same link: two links that cross s t at one place cross each other, unless they share an end
use mathlib.Core.Path.{◌≡◌, refl, sym, ◌∙◌, ap, ap₂, subst}
use mathlib.Core.Bool.{Bool, true, false, not}
use mathlib.Core.List.{[], ◌∷◌}
use native.Mathlib.Omega.{arith}
use lib.Dec.{T}
use lib.IntN.{ℤ, pos, ◌-ℤ◌, ◌*ℤ◌, neg_ℤ, *ℤ-zero, *ℤ_comm}
use lib.Signed.{lt_z}
use borrow.Author.Differences.{ints}
use Rattle.plane.proofs.Vectors.{Vector, turn}
use Rattle.plane.proofs.Sites.{node, L, xor, crossing}
use Rattle.plane.proofs.Ring.{var, mul, sub, lit, ring}
use Rattle.plane.proofs.Identities.{Vectorᵉ, turnᵉ}
use Rattle.plane.proofs.Integers.{mul_neg, neg_mul}
use Rattle.plane.proofs.Signs.{St, Strict, tells, st_mul, eqB, neg_mul_neg}
use Rattle.plane.proofs.SignTable.{and_first, and_second, and_both}
use Rattle.plane.proofs.Strip.{Off}
use Rattle.plane.proofs.Discs.{turn_sign}
use Rattle.plane.proofs.Nearer.{size, size_pos, size_neg}

abbrev A : Vectorᵉ
A = record { x = var 0; y = var 1 }

abbrev B : Vectorᵉ
B = record { x = var 2; y = var 3 }

abbrev C : Vectorᵉ
C = record { x = var 4; y = var 5 }

abbrev D : Vectorᵉ
D = record { x = var 6; y = var 7 }

abbrev F : Vectorᵉ
F = record { x = var 8; y = var 9 }

abbrev G : Vectorᵉ
G = record { x = var 10; y = var 11 }

-- (Meet), seen from any p q
pub meet : (s t u v p q : Vector) → turn s t v *ℤ turn p q u -ℤ turn s t u *ℤ turn p q v ≡ turn u v s *ℤ turn p q t -ℤ turn u v t *ℤ turn p q s
meet s t u v p q = ring (s.x ∷ s.y ∷ t.x ∷ t.y ∷ u.x ∷ u.y ∷ v.x ∷ v.y ∷ p.x ∷ p.y ∷ q.x ∷ q.y ∷ [])
    (sub (mul (turnᵉ A B D) (turnᵉ F G C)) (mul (turnᵉ A B C) (turnᵉ F G D)))
    (sub (mul (turnᵉ C D A) (turnᵉ F G B)) (mul (turnᵉ C D B) (turnᵉ F G A))) tt

equal : (w x y z : ℤ) → w -ℤ x ≡ y -ℤ z → y ≡ z → w ≡ x
equal w x y z e h = omega (arith, ints)

-- at one place of s t: the ends of u v lie on different sides of p q
pub sides : (s t u v p q : Vector) → turn u v s *ℤ turn p q t ≡ turn u v t *ℤ turn p q s
    → Off (node s) (node t) (node u) → Off (node s) (node t) (node v) → Off (node p) (node q) (node u) → Off (node p) (node q) (node v)
    → xor (L (node s) (node t) (node u)) (L (node s) (node t) (node v)) ≡ true → xor (L (node p) (node q) (node u)) (L (node p) (node q) (node v)) ≡ true
sides s t u v p q e su sv pu pv h = go (L (node s) (node t) (node u)) (L (node s) (node t) (node v)) (L (node p) (node q) (node u)) (L (node p) (node q) (node v)) h
    (sym (tells (st_mul (turn_sign s t v sv) (turn_sign p q u pu))) ∙ ap (lt_z (pos 0)) (equal (turn s t v *ℤ turn p q u) (turn s t u *ℤ turn p q v) (turn u v s *ℤ turn p q t) (turn u v t *ℤ turn p q s) (meet s t u v p q) e) ∙ tells (st_mul (turn_sign s t u su) (turn_sign p q v pv)))
  where
    go : (a b c d : Bool) → xor a b ≡ true → eqB b c ≡ eqB a d → xor c d ≡ true
    go true true c d h k = absurd (subst T (sym h) tt)
    go false false c d h k = absurd (subst T (sym h) tt)
    go true false true d h k = ap not (sym k)
    go true false false d h k = sym k
    go false true true d h k = sym k
    go false true false d h k = odd d k
      where
        odd : (d : Bool) → false ≡ not d → d ≡ true
        odd true k = refl
        odd false k = k

-- sizes of turns of different signs
sizes : (w x y z : ℤ) (a b c d : Bool) → St a w → St b x → St c y → St d z → xor a b ≡ true → xor c d ≡ true → size w *ℤ size z ≡ size x *ℤ size y → w *ℤ z ≡ x *ℤ y
sizes w x y z true true c d hw hx hy hz h k e = absurd (subst T (sym h) tt)
sizes w x y z false false c d hw hx hy hz h k e = absurd (subst T (sym h) tt)
sizes w x y z true false true true hw hx hy hz h k e = absurd (subst T (sym k) tt)
sizes w x y z true false false false hw hx hy hz h k e = absurd (subst T (sym k) tt)
sizes w x y z false true true true hw hx hy hz h k e = absurd (subst T (sym k) tt)
sizes w x y z false true false false hw hx hy hz h k e = absurd (subst T (sym k) tt)
sizes w x y z true false true false hw hx hy hz h k e = cancel (w *ℤ z) (x *ℤ y)
    (sym (mul_neg w z) ∙ ap₂ ◌*ℤ◌ (sym (size_pos w hw.is)) (sym (size_neg z hz.is)) ∙ e ∙ ap₂ ◌*ℤ◌ (size_neg x hx.is) (size_pos y hy.is) ∙ neg_mul x y)
  where
    cancel : (m n : ℤ) → neg_ℤ m ≡ neg_ℤ n → m ≡ n
    cancel m n e = omega (arith, ints)
sizes w x y z true false false true hw hx hy hz h k e =
    ap₂ ◌*ℤ◌ (sym (size_pos w hw.is)) (sym (size_pos z hz.is)) ∙ e ∙ ap₂ ◌*ℤ◌ (size_neg x hx.is) (size_neg y hy.is) ∙ neg_mul_neg x y
sizes w x y z false true true false hw hx hy hz h k e =
    sym (neg_mul_neg w z) ∙ ap₂ ◌*ℤ◌ (sym (size_neg w hw.is)) (sym (size_neg z hz.is)) ∙ e ∙ ap₂ ◌*ℤ◌ (size_pos x hx.is) (size_pos y hy.is)
sizes w x y z false true false true hw hx hy hz h k e = cancel (w *ℤ z) (x *ℤ y)
    (sym (neg_mul w z) ∙ ap₂ ◌*ℤ◌ (sym (size_neg w hw.is)) (sym (size_pos z hz.is)) ∙ e ∙ ap₂ ◌*ℤ◌ (size_pos x hx.is) (size_neg y hy.is) ∙ mul_neg x y)
  where
    cancel : (m n : ℤ) → neg_ℤ m ≡ neg_ℤ n → m ≡ n
    cancel m n e = omega (arith, ints)

-- the places of u v and of p q on s t are equal: size s-turn to size t-turn
abbrev pub Level : Vector → Vector → Vector → Vector → Vector → Vector → Type 0
Level s t u v p q = size (turn u v s) *ℤ size (turn p q t) ≡ size (turn u v t) *ℤ size (turn p q s)

-- SAME PLACE, four different ends: the links cross
pub same_place : (s t u v p q : Vector)
    → Off (node s) (node t) (node u) → Off (node s) (node t) (node v) → Off (node s) (node t) (node p) → Off (node s) (node t) (node q)
    → Off (node u) (node v) (node s) → Off (node u) (node v) (node t) → Off (node p) (node q) (node s) → Off (node p) (node q) (node t)
    → Off (node u) (node v) (node p) → Off (node u) (node v) (node q) → Off (node p) (node q) (node u) → Off (node p) (node q) (node v)
    → crossing (node s) (node t) (node u) (node v) ≡ true → crossing (node s) (node t) (node p) (node q) ≡ true → Level s t u v p q
    → crossing (node u) (node v) (node p) (node q) ≡ true
same_place s t u v p q su sv sp sq us ut ps pt up uq pu pv h k e =
    let l : turn u v s *ℤ turn p q t ≡ turn u v t *ℤ turn p q s = sizes (turn u v s) (turn u v t) (turn p q s) (turn p q t) _ _ _ _
    (turn_sign u v s us) (turn_sign u v t ut) (turn_sign p q s ps) (turn_sign p q t pt) (and_second _ _ h) (and_second _ _ k) e in
    and_both
    (sides s t p q u v (*ℤ_comm (turn p q s) (turn u v t) ∙ sym l ∙ *ℤ_comm (turn u v s) (turn p q t)) sp sq up uq (and_first _ _ k))
    (sides s t u v p q l su sv pu pv (and_first _ _ h))

-- SAME PLACE, a shared end u: no
pub same_place_shared : (s t u v q : Vector)
    → Off (node s) (node t) (node u) → Off (node u) (node v) (node s) → Off (node u) (node v) (node t) → Off (node u) (node q) (node s) → Off (node u) (node q) (node t) → Off (node u) (node q) (node v)
    → crossing (node s) (node t) (node u) (node v) ≡ true → crossing (node s) (node t) (node u) (node q) ≡ true → Level s t u v u q → ⊥
same_place_shared s t u v q su us ut qs qt qv h k e =
    let l : turn u v s *ℤ turn u q t ≡ turn u v t *ℤ turn u q s = sizes (turn u v s) (turn u v t) (turn u q s) (turn u q t) _ _ _ _
    (turn_sign u v s us) (turn_sign u v t ut) (turn_sign u q s qs) (turn_sign u q t qt) (and_second _ _ h) (and_second _ _ k) e in
    let z : turn s t u *ℤ turn u q v ≡ pos 0 = sym (equal (turn s t v *ℤ turn u q u) (turn s t u *ℤ turn u q v) (turn u v s *ℤ turn u q t) (turn u v t *ℤ turn u q s) (meet s t u v u q) l) ∙ ap (λ w. turn s t v *ℤ w) (still u q) ∙ *ℤ-zero (turn s t v) in
    product (turn s t u *ℤ turn u q v) (st_mul (turn_sign s t u su) (turn_sign u q v qv)) z
  where
    still : (u q : Vector) → turn u q u ≡ pos 0
    still u q = ring (u.x ∷ u.y ∷ q.x ∷ q.y ∷ []) (turnᵉ A B A) (lit (pos 0)) tt

    product : (z : ℤ) {b : Bool} → St b z → z ≡ pos 0 → ⊥
    product z {b = b} s e = no_zero b s.is
      where
        no_zero : (b : Bool) → Strict b z → ⊥
        no_zero true h = omega (arith, ints)
        no_zero false h = omega (arith, ints)
