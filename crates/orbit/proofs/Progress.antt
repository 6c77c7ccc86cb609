-- How many darts of a closed walk are nearer than the entry: odd exactly when the walk is at the entry
use mathlib.Core.Path.{◌≡◌, ap, ◌∙◌}
use mathlib.Core.Bool.{Bool, false, ◌&&◌}
use mathlib.Core.List.{List}
use native.Mathlib.Omega.{arith}
use Rattle.orbit.specs.Walks.{In, ◌⊕◌, parity}
use Rattle.orbit.proofs.Parity.{parity_same, parity_add, parity_none}
use Rattle.orbit.proofs.ParityLaw.{winding}

module _ {A : Type 0} {N : Type 0} (tail head : A → N) (xs : List A) (turned : A → Bool) where
  -- a node to which no dart leads winds by its hits alone
  pub winding_off : (hit : A → Bool) (is : N → Bool) → ((x : A) → In x xs → is (head x) ≡ false) → winding head turned xs hit is ≡ parity hit xs
  winding_off hit is off = join (parity_none (λ x. is (head x) && turned x) xs (λ x i. ap (λ (b : Bool). b && turned x) (off x i)))
    where
      join : {c : Bool} → c ≡ false → parity hit xs ⊕ c ≡ parity hit xs
      join {c} e = grind arith

  module _ (near hitE hitT : A → Bool) (isT : N → Bool)
      (apart : (x : A) → In x xs → near x ≡ hitE x ⊕ hitT x) (off : (x : A) → In x xs → isT (head x) ≡ false) where
    nearer : parity near xs ≡ parity hitE xs ⊕ parity hitT xs
    nearer = parity_same near (λ x. hitE x ⊕ hitT x) xs apart ∙ parity_add hitE hitT xs

    -- the entry is a node that winds as the target does
    pub progress_at_node : (isS : N → Bool) → winding head turned xs hitE isS ≡ winding head turned xs hitT isT
        → parity near xs ≡ parity (λ x. isS (head x) && turned x) xs
    progress_at_node isS w = nearer ∙ solve (parity hitE xs) (parity hitT xs) (parity (λ x. isS (head x) && turned x) xs) (w ∙ winding_off hitT isT off)
      where
        solve : (e t c : Bool) → e ⊕ c ≡ t → e ⊕ t ≡ c
        solve e t c h = grind arith

    -- the entry is a point of the link of a, where a winds as the target does
    pub progress_at_link : (is_a is_b : N → Bool) (hitA : A → Bool)
        → parity hitE xs ≡ winding head turned xs hitA is_a ⊕ parity (λ x. is_a (head x) && is_b (tail x)) xs
        → winding head turned xs hitA is_a ≡ winding head turned xs hitT isT
        → parity near xs ≡ parity (λ x. is_a (head x) && is_b (tail x)) xs
    progress_at_link is_a is_b hitA e w = nearer ∙ solve (parity hitE xs) (parity hitT xs) (winding head turned xs hitA is_a) (parity (λ x. is_a (head x) && is_b (tail x)) xs) e (w ∙ winding_off hitT isT off)
      where
        solve : (e t a c : Bool) → e ≡ a ⊕ c → a ≡ t → e ⊕ t ≡ c
        solve e t a c h k = grind arith
