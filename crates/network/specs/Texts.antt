-- What stopped a carry, as it prints.
use Rattle.std.specs.Prelude.{ℕ, List, codes}
use Rattle.network.specs.declared.types.Stopper.{Stopper}
use Rattle.network.specs.declared.types.Stopper.TheVariants.{Ended, Budget, Full}

abbrev pub stopper_text : Stopper → List ℕ
stopper_text Ended = codes "the end"
stopper_text Budget = codes "the budget"
stopper_text Full = codes "the full list"
