-- Mending the bits of one node, pair by pair.
use Rattle.std.proofs.Common.{◌≡◌, ℕ, ◌+◌, ◌<◌, Bool, cond, ◌||◌, eqb, ◌≢◌, arith}
use Rattle.std.proofs.lemmas.Grind.{common_steps}
use Rattle.floor.specs.Meaning.{Meaning, neighbours, is_among}
use Rattle.host.specs.Questions.{with_mark}
use Rattle.host.proofs.Links.{among_marked}

-- the bits of i below k are w's, and those that are not of i as they were
pub record MendedBelow (before bits : ℕ → ℕ → Bool) (i k : ℕ) (w : ℕ → Bool) : Type 0 where
  pub own : (b : ℕ) → b < k → bits i b ≡ w b
  pub others : (a : ℕ) → a < k → bits a i ≡ w a
  pub else_same : (a b : ℕ) → a ≢ i → b ≢ i → bits a b ≡ before a b

-- bit j of row i written
abbrev pub Written : (ℕ → ℕ → Bool) → (ℕ → ℕ → Bool) → ℕ → ℕ → Bool → Type 0
Written f g i j on = record { there : g i j ≡ on; else_same : (a b : ℕ) → (a ≡ i → b ≢ j) → g a b ≡ f a b }

pub mended_more : (before f g h : ℕ → ℕ → Bool) (i k : ℕ) (w : ℕ → Bool) (on : Bool) → MendedBelow before f i k w → on ≡ w k → Written f g i k on → Written g h k i on → MendedBelow before h i (k + 1) w
mended_more before f g h i k w on m is there back = record {
  own = λ b lt. grind (arith, common_steps);
  others = λ a lt. grind (arith, common_steps);
  else_same = λ a b ai bi. grind (arith, common_steps);
}

-- all rows are right after a switching once those of the switched node are mended
pub right_switched : (before bits : ℕ → ℕ → Bool) (m switched : Meaning) (i : ℕ) (mark : Bool)
    → switched ≡ with_mark m i mark
    → ((a b : ℕ) → (a < 64) × (b < 64) → before a b ≡ is_among (neighbours m a) b)
    → ((a b : ℕ) → (a < 64) × (b < 64) → bits a b ≡ cond (eqb a i || eqb b i) (is_among (neighbours switched a) b) (before a b))
    → (a b : ℕ) → (a < 64) × (b < 64) → bits a b ≡ is_among (neighbours switched a) b
right_switched before bits m switched i mark e right mended a b h = grind (arith, common_steps, among_marked)
