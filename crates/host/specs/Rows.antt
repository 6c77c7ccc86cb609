-- Rows of 64 bits, one for each node.
use Rattle.std.specs.Prelude.{◌≡◌, ℕ, ◌/◌, ◌%◌, ◌^◌, ◌<◌, ◌≤◌, Bool, true, false, cond, ◌||◌, List, Some, None, Option, ◌==◌, slice_index}
use Rattle.floor.specs.Meaning.{Meaning, neighbours, is_among}

-- bit j of row i is set
abbrev pub bit : List ℕ → ℕ → ℕ → Bool
bit rows i j = slice_index rows i / 2 ^ j % 2 == 1

-- each row has the neighbours of its node
abbrev pub RowsRight : Meaning → List ℕ → Type 0
RowsRight m rows = (i j : ℕ) → (i < 64) × (j < 64) → bit rows i j ≡ is_among (neighbours m i) j

-- the bits of node i, its own row and its bit in every other, say who its neighbours are, and every other bit is as it was
abbrev pub Mended : Meaning → ℕ → List ℕ → List ℕ → Type 0
Mended m i before after = (a b : ℕ) → (a < 64) × (b < 64) → bit after a b ≡ cond (a == i || b == i) (is_among (neighbours m a) b) (bit before a b)

-- the first place from j on of a bit that is set in row i
abbrev pub NextBit : List ℕ → ℕ → ℕ → Option ℕ → Type 0
NextBit rows i j None = (k : ℕ) → i < 64 → j ≤ k → k < 64 → bit rows i k ≡ false
NextBit rows i j (Some n) = (i < 64) × (j ≤ n) × (n < 64) × (bit rows i n ≡ true) × ((k : ℕ) → j ≤ k → k < n → bit rows i k ≡ false)
