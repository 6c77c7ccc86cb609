-- The planarisers that can be picked at run time.
use Rattle.std.specs.Prelude.{ℕ, cond, ◌==◌, List, Ok, Err, Result, codes}
use Rattle.floor.specs.declared.planariser.rule.Rule.{Rule}
use Rattle.floor.specs.declared.planariser.rule.Rule.TheVariants.{Gabriel, Relative}
use Rattle.floor.specs.declared.planariser.rule.UnknownRule.{UnknownRule}
use Rattle.floor.specs.Planar.{Blocks, Lawful, gabriel, relative}
use Rattle.floor.specs.BothLawful.{gabriel_lawful, relative_lawful}

abbrev pub blocking_of : Rule → Blocks
blocking_of Gabriel = gabriel
blocking_of Relative = relative

pub lawful_rule : (rule : Rule) → Lawful (blocking_of rule)
lawful_rule Gabriel = gabriel_lawful
lawful_rule Relative = relative_lawful

-- the number of each, as lines of digits name it
abbrev pub rule_number : Rule → ℕ
rule_number Gabriel = 1
rule_number Relative = 2

-- the planariser of a number
abbrev pub rule_of : ℕ → Result Rule UnknownRule
rule_of n =
    cond (n == rule_number Gabriel) (Ok Gabriel)
    (cond (n == rule_number Relative) (Ok Relative)
    (Err (record {})))

-- its name
abbrev pub name_of : Rule → List ℕ
name_of Gabriel = codes "Gabriel"
name_of Relative = codes "relative"
