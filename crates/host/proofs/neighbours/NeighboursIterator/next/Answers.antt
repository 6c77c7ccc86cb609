use Rattle.std.proofs.Common.{rules, length, ap, arith}
use Rattle.host.proofs.Asking.{asked_none, asked_some}
use Rattle.host.proofs.neighbours.NeighboursIterator.next.Goals as goal

pub overflow_add-self : goal.overflow_add-self
overflow_add-self g c =
    let s = c.args.self.now in
    let few = (g.met.R.Reading.mapped s.host.now).few in
    let found = asked_some (g.R.Reading.meaning s.host.now) s.of s.from c.in-Some.node c.in-Some.ensures in
    omega (arith, few, found.2)

pub returns-in-Some-clause-steps : goal.returns-in-Some-clause-steps
returns-in-Some-clause-steps g c =
    let s = c.args.self.now in
    (asked_some (g.R.Reading.meaning s.host.now) s.of s.from c.in-Some.node c.in-Some.ensures).0

pub returns-in-Some-clause-goes : goal.returns-in-Some-clause-goes
returns-in-Some-clause-goes g c =
    let s = c.args.self.now in
    let one_less = ap length (asked_some (g.R.Reading.meaning s.host.now) s.of s.from c.in-Some.node c.in-Some.ensures).0 in
    search (rules, one_less)

pub returns-in_default-clause-steps : goal.returns-in_default-clause-steps
returns-in_default-clause-steps g c =
    let s = c.args.self.now in
    let none_left = asked_none (g.R.Reading.meaning s.host.now) s.of s.from c.in_default.ensures in
    rw c.in_default.is (none_left, none_left)
