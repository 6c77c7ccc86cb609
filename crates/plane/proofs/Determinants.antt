-- The identities of `det`: cyclic, alternating, Plücker seen from p, and the relation of the weights
use mathlib.Core.Path.{◌≡◌}
use mathlib.Core.List.{List, [], ◌∷◌}
use lib.IntN.{ℤ, pos, ◌+ℤ◌, ◌*ℤ◌, neg_ℤ}
use Rattle.plane.proofs.Vectors.{Vector, cross, diff, turn}
use Rattle.plane.proofs.Sites.{Site, det, node, far, place}
use Rattle.plane.proofs.Ring.{E, var, add, mul, neg, sub, lit, ring}
use Rattle.plane.proofs.Identities.{Vectorᵉ, crossᵉ, diffᵉ, turnᵉ}

pub record Siteᵉ : Type 0 where
  pub x : E
  pub y : E
  pub h : E

abbrev pub detᵉ : Siteᵉ → Siteᵉ → Siteᵉ → E
detᵉ p q r = add (add (mul p.h (sub (mul q.x r.y) (mul q.y r.x))) (mul q.h (sub (mul r.x p.y) (mul r.y p.x)))) (mul r.h (sub (mul p.x q.y) (mul p.y q.x)))

abbrev pub P : Siteᵉ
P = record { x = var 0; y = var 1; h = var 2 }

abbrev pub Q : Siteᵉ
Q = record { x = var 3; y = var 4; h = var 5 }

abbrev pub R : Siteᵉ
R = record { x = var 6; y = var 7; h = var 8 }

abbrev pub S : Siteᵉ
S = record { x = var 9; y = var 10; h = var 11 }

abbrev pub U : Siteᵉ
U = record { x = var 12; y = var 13; h = var 14 }

abbrev pub env : Site → Site → Site → Site → Site → List ℤ
env p q r s t = p.x ∷ p.y ∷ p.h ∷ q.x ∷ q.y ∷ q.h ∷ r.x ∷ r.y ∷ r.h ∷ s.x ∷ s.y ∷ s.h ∷ t.x ∷ t.y ∷ t.h ∷ []

pub det_cycle : (p q r : Site) → det q r p ≡ det p q r
det_cycle p q r = ring (env p q r r r) (detᵉ Q R P) (detᵉ P Q R) tt

pub det_swap : (p q r : Site) → det q p r ≡ neg_ℤ (det p q r)
det_swap p q r = ring (env p q r r r) (detᵉ Q P R) (neg (detᵉ P Q R)) tt

pub det_flip : (p q r : Site) → det p r q ≡ neg_ℤ (det p q r)
det_flip p q r = ring (env p q r r r) (detᵉ P R Q) (neg (detᵉ P Q R)) tt

pub det_same : (p q : Site) → det p p q ≡ pos 0
det_same p q = ring (env p q q q q) (detᵉ P P Q) (lit (pos 0)) tt

-- the three terms of Plücker, seen from p
pub plücker₅ : (p q r s t : Site) → det p q r *ℤ det p s t +ℤ neg_ℤ (det p q s *ℤ det p r t) +ℤ det p q t *ℤ det p r s ≡ pos 0
plücker₅ p q r s t = ring (env p q r s t)
    (add (add (mul (detᵉ P Q R) (detᵉ P S U)) (neg (mul (detᵉ P Q S) (detᵉ P R U)))) (mul (detᵉ P Q U) (detᵉ P R S))) (lit (pos 0)) tt

-- four sites and their weights
pub weights : (a b c d : Site) → neg_ℤ (d.h *ℤ det a b c) +ℤ c.h *ℤ det a b d +ℤ a.h *ℤ det b c d +ℤ neg_ℤ (b.h *ℤ det a c d) ≡ pos 0
weights a b c d = ring (env a b c d d)
    (add (add (add (neg (mul S.h (detᵉ P Q R))) (mul R.h (detᵉ P Q S))) (mul P.h (detᵉ Q R S))) (neg (mul Q.h (detᵉ P R S)))) (lit (pos 0)) tt

-- of nodes it is the turn, of a direction the cross product
abbrev A : Vectorᵉ
A = record { x = var 0; y = var 1 }

abbrev B : Vectorᵉ
B = record { x = var 2; y = var 3 }

abbrev C : Vectorᵉ
C = record { x = var 4; y = var 5 }

abbrev nodeᵉ : Vectorᵉ → Siteᵉ
nodeᵉ p = record { x = p.x; y = p.y; h = lit (pos 1) }

abbrev farᵉ : Vectorᵉ → Siteᵉ
farᵉ p = record { x = p.x; y = p.y; h = lit (pos 0) }

abbrev env₃ : Vector → Vector → Vector → List ℤ
env₃ a b c = a.x ∷ a.y ∷ b.x ∷ b.y ∷ c.x ∷ c.y ∷ []

pub det_turn : (a b c : Vector) → det (node a) (node b) (node c) ≡ turn a b c
det_turn a b c = ring (env₃ a b c) (detᵉ (nodeᵉ A) (nodeᵉ B) (nodeᵉ C)) (turnᵉ A B C) tt

pub det_far : (a d c : Vector) → det (node a) (far d) (node c) ≡ cross d (diff c a)
det_far a d c = ring (env₃ a d c) (detᵉ (nodeᵉ A) (farᵉ B) (nodeᵉ C)) (crossᵉ B (diffᵉ C A)) tt

-- the divided point: its weighted turn
abbrev F : Vectorᵉ
F = record { x = var 6; y = var 7 }

abbrev placeᵉ : E → E → Vectorᵉ → Vectorᵉ → Siteᵉ
placeᵉ c e s t = record { x = add (mul e s.x) (mul c t.x); y = add (mul e s.y) (mul c t.y); h = add e c }

pub det_place : (u v s t : Vector) (c e : ℤ) → det (node u) (node v) (place c e s t) ≡ e *ℤ turn u v s +ℤ c *ℤ turn u v t
det_place u v s t c e = ring (u.x ∷ u.y ∷ v.x ∷ v.y ∷ s.x ∷ s.y ∷ t.x ∷ t.y ∷ c ∷ e ∷ [])
    (detᵉ (nodeᵉ A) (nodeᵉ B) (placeᵉ (var 8) (var 9) C F)) (add (mul (var 9) (turnᵉ A B C)) (mul (var 8) (turnᵉ A B F))) tt
