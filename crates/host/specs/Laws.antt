-- What holds of switchings.
use Rattle.std.specs.Prelude.{◌≡◌, ℕ, Bool, Some}
use Rattle.floor.specs.declared.node.Radio.{Radio}
use Rattle.floor.specs.Meaning.{Meaning, radio}
use Rattle.host.specs.Questions.{with_mark}

-- a node switched and then switched back: everything is as it was
abbrev pub SwitchedBack : Type 0
SwitchedBack = (m : Meaning) (i : ℕ) (mark : Bool) (p : Radio) → radio m i ≡ Some p → with_mark (with_mark m i mark) i p.serving ≡ m
