use Rattle.std.proofs.Common.{rules, ◌≡◌, sym, ap, ◌∙◌}
use denote.Enum.Bare.{same_true}
use Rattle.order.specs.Directions.{part}
use Rattle.order.specs.Sectors.{rank}
use Rattle.order.specs.contracts.direction.Sector.{the_type}
use Rattle.order.proofs.direction.DirectionOrder.comes_before.Goals as goal

pub returns-then-eq : goal.returns-then-eq
returns-then-eq c =
    let tied = same_true the_type (search rules) _ _ (sym c.if-eq.ensures) in
    let parts : part c.args.self.now ≡ part c.args.other.now = sym c.sector-i.ensures ∙ ap rank tied ∙ c.sector-j.ensures in
    search rules
