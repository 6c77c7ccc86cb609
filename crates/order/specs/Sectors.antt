-- The parts of a turn, by number.
use Rattle.std.specs.Prelude.{ℕ}
use Rattle.order.specs.declared.direction.Sector.{Sector}
use Rattle.order.specs.declared.direction.Sector.TheVariants.{Start, Before, Half, Beyond, Full}

abbrev pub rank : Sector → ℕ
rank Start = 0
rank Before = 1
rank Half = 2
rank Beyond = 3
rank Full = 4
