-- What ends and phases print.
use Rattle.std.specs.Prelude.{ℕ, List, codes}
use Rattle.face.specs.declared.record.End.{End}
use Rattle.face.specs.declared.record.End.TheVariants.{UnderWay, Delivered, Unreachable}
use Rattle.face.specs.declared.record.Phase.{Phase}
use Rattle.face.specs.declared.record.Phase.TheVariants.{Round, Ahead, Back}

abbrev pub end_text : End → List ℕ
end_text UnderWay = codes "under way"
end_text Delivered = codes "delivered"
end_text Unreachable = codes "unreachable"

abbrev pub phase_text : Phase → List ℕ
phase_text Round = codes "Round"
phase_text Ahead = codes "Ahead"
phase_text Back = codes "Back"
