use Rattle.std.proofs.Common.{◌≡◌, [], Option, sym, ap, ◌∙◌, subst, arith, take_all, MatchOption}
use Rattle.order.specs.Foremost.{foremost, First}
use Rattle.order.proofs.Firsts.{foremost_next, foremost_cases}
use Rattle.order.proofs.keeper.foremost_of.Goals as goal

pub loop-x-preserved : goal.loop-x-preserved
loop-x-preserved g c = (
  omega arith,
  foremost_next g.T.Order.before c.args.row.now c.loop-x.x-index c.x-item.result c.loop-x.keeper.held c.offer-back.new.self.held
      c.loop-x-test.true c.x-item.is c.loop-x.invariant.1 c.offer-back.ensures.after,
)

pub returns : goal.returns
returns g c =
    let before = g.T.Order.before in
    let met = g.met.T.Order in
    let row = c.args.row.now in
    let e = c.into_held.ensures ∙ c.loop-x.invariant.1 ∙ ap (foremost before) (take_all _ _ c.loop-x-test.false) in
    let P : Option g.row.T.Denot → Type 0 = λ r. MatchOption r (row ≡ []) (λ w. First before row w) in
    record {
      value = e;
      first = λ all. subst P (sym e) (foremost_cases before g.T.Order.proper (record { irreflexive = met.irreflexive; transitive = met.transitive; alike = met.alike }) row all);
    }
