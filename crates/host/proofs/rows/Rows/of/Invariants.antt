use Rattle.std.proofs.Common.{◌≡◌, ℕ, ◌<◌}
use Rattle.floor.specs.Meaning.{neighbours, is_among}
use Rattle.host.specs.Rows.{bit}
use Rattle.host.specs.Storeys.{meaning_of}
use Rattle.host.proofs.rows.Rows.of.Given as goal

abbrev pub invariant-loop-i : goal.invariant-loop-i
invariant-loop-i l = (a b : ℕ) → a < l.i → b < 64 → bit l.rows.row a b ≡ is_among (neighbours (meaning_of l.storey) a) b
