-- Numbers and repetition, as the other files speak of them.
use Rattle.std.specs.Prelude.{ℕ, zero, suc, Bool, not, ◌==◌}

abbrev pub differ : ℕ → ℕ → Bool
differ i j = not (i == j)

abbrev pub iterate : {A : Type 0} → ℕ → (A → A) → A → A
iterate zero f x = x
iterate (suc n) f x = let y = iterate n f x in f y
