-- A list in lent memory: what it holds, and what an append answers and leaves.
use Rattle.std.specs.Prelude.{◌≡◌, ℕ, ◌+◌, Bool, cond, List, [], ◌∷◌, ◌++◌, length, take, drop, Ok, Err, Result, nat_lt, slice_set}
use Rattle.network.specs.declared.list.AppendRefusal.{AppendRefusal}
use Rattle.network.specs.declared.list.AppendRefusal.TheVariants.{Full}

-- the number of each refusal
abbrev pub append_number : AppendRefusal → ℕ
append_number Full = 51

-- the elements: the front of the memory that is in use
abbrev pub items : {T : Type 0} → List T → ℕ → List T
items memory len = take len memory

abbrev pub has_room : {T : Type 0} → List T → ℕ → Bool
has_room memory len = nat_lt len (length memory)

-- the answer to an append: refused exactly when the memory is full
abbrev pub appending : {T : Type 0} → List T → ℕ → Result (Unit {0}) AppendRefusal
appending memory len = cond (has_room memory len) (Ok tt) (Err Full)

-- after x was offered: one element more, or all as it was
abbrev pub length_after : {T : Type 0} → List T → ℕ → ℕ
length_after memory len = cond (has_room memory len) (len + 1) len

abbrev pub memory_after : {T : Type 0} → List T → ℕ → T → List T
memory_after memory len x = cond (has_room memory len) (slice_set memory len x) memory

abbrev pub items_after : {T : Type 0} → List T → ℕ → T → List T
items_after memory len x = cond (has_room memory len) (items memory len ++ x ∷ []) (items memory len)

-- so many elements were appended, and the rest of the memory is as it was
pub record Extended {T : Type 0} (memory : List T) (len : ℕ) (added : List T) (memory' : List T) (len' : ℕ) : Type 0 where
  pub longer : len' ≡ len + length added
  pub holds : items memory' len' ≡ items memory len ++ added
  pub rest : drop len' memory' ≡ drop len' memory
