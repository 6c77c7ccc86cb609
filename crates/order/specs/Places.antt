-- Places along the way from a source to a target.
use Rattle.std.specs.Prelude.{◌*◌, Bool, nat_lt}
use Rattle.order.specs.declared.Place.{Place}

-- p is nearer the target than q
abbrev pub nearer : Place → Place → Bool
nearer p q = nat_lt (q.above * p.below) (p.above * q.below)
