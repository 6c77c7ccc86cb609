-- Sums over a face
use mathlib.Core.Path.{◌≡◌, refl, sym, ap, ◌∙◌}
use mathlib.Core.Bool.{Bool, true, ◌&&◌}
use Prim.Native.Nat.{ℕ, zero, suc}
use Rattle.orbit.specs.Walks.{In, ◌⊕◌, parity, walk}
use Rattle.orbit.proofs.Parity.{parity_shift}
use Rattle.orbit.proofs.Orbit.{Turning, face, size, face_is, face_closed, face_next, face_start, face_size, face_inside}
use Rattle.orbit.proofs.ParityLaw.{Turns, ends, winding, law, law_between}

module _ {A : Type 0} (p : Turning A) where
  open p use {same, all, next, closed, injective}

  -- all that the law asks of a face
  pub face_turns : (d : A) → In d all → Turns next (face p d)
  face_turns d i h = rw face_is (parity_shift next h (size p d) d (face_closed p d i))

  parity_walk_next : (h : A → Bool) (n : ℕ) (d : A) → parity h (walk next n (next d)) ≡ parity (λ x. h (next x)) (walk next n d)
  parity_walk_next h zero d = refl
  parity_walk_next h (suc n) d = ap (◌⊕◌ (h (next d))) (parity_walk_next h n (next d))

  parity_next : (h : A → Bool) (d : A) → In d all → parity h (face p (next d)) ≡ parity h (face p d)
  parity_next h d i =
      ap (parity h) (face_is p (next d) ∙ ap (λ (n : ℕ). walk next n (next d)) (face_size p d (next d) i (face_next p d d i (face_start p d i))))
      ∙ parity_walk_next h (size p d) d ∙ sym (parity_shift next h (size p d) d (face_closed p d i)) ∙ ap (parity h) (sym (face_is p d))

  -- the two laws at a face, from identities of all darts
  module _ {N : Type 0} (tail head : A → N) (joint : (x : A) → In x all → tail (next x) ≡ head x) where
    pub face_law : (is_a is_b inside sideA sideB : N → Bool) (hitA hitB turned : A → Bool)
        → ((x : A) → In x all → (inside (tail x) ⊕ inside (head x)) ⊕ (hitA x ⊕ hitB x) ≡ ends tail head is_a sideA x ⊕ ends tail head is_b sideB x)
        → ((x : A) → In x all → is_a (head x) ≡ true → sideA (tail x) ⊕ sideA (head (next x)) ≡ is_b (tail x) ⊕ turned x)
        → ((x : A) → In x all → is_b (head x) ≡ true → sideB (tail x) ⊕ sideB (head (next x)) ≡ is_a (head (next x)) ⊕ turned x)
        → (d : A) → In d all → winding head turned (face p d) hitA is_a ≡ winding head turned (face p d) hitB is_b
    face_law is_a is_b inside sideA sideB hitA hitB turned dart cornerA cornerB d i =
        law next tail head (face p d) (face_turns d i) (λ x j. joint x (face_inside p d i x j)) is_a is_b inside sideA sideB hitA hitB turned
        (λ x j. dart x (face_inside p d i x j)) (λ x j. cornerA x (face_inside p d i x j)) (λ x j. cornerB x (face_inside p d i x j))

    pub face_law_between : (is_a is_b inside sideA : N → Bool) (hitA hitX turned : A → Bool)
        → ((x : A) → In x all → (inside (tail x) ⊕ inside (head x)) ⊕ (hitA x ⊕ hitX x) ≡ ends tail head is_a sideA x)
        → ((x : A) → In x all → is_a (head x) ≡ true → sideA (tail x) ⊕ sideA (head (next x)) ≡ is_b (tail x) ⊕ turned x)
        → (d : A) → In d all → parity hitX (face p d) ≡ winding head turned (face p d) hitA is_a ⊕ parity (λ x. is_a (head x) && is_b (tail x)) (face p d)
    face_law_between is_a is_b inside sideA hitA hitX turned dart corner d i =
        law_between next tail head (face p d) (face_turns d i) (λ x j. joint x (face_inside p d i x j)) is_a is_b inside sideA hitA hitX turned
        (λ x j. dart x (face_inside p d i x j)) (λ x j. corner x (face_inside p d i x j))
