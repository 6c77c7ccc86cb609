-- How a packet stands, by number.
use Rattle.std.specs.Prelude.{ℕ}
use Rattle.face.specs.declared.record.End.{End}
use Rattle.face.specs.declared.record.End.TheVariants.{UnderWay, Delivered, Unreachable}

-- the number of each end
abbrev pub end_number : End → ℕ
end_number UnderWay = 0
end_number Delivered = 1
end_number Unreachable = 2
