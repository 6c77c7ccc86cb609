use Rattle.std.proofs.Common.{is_err, sym, ap, ◌∙◌}
use Rattle.network.proofs.Carrying.{finished, one_more}
use Rattle.network.proofs.sending.carry_on.Goals as goal

pub returns-in_default : goal.returns-in_default
returns-in_default g c =
    let done = finished _ _ _ _ _ _ _ _ _ _ c.loop-hops.invariant.0 c.in_default.is in
    record { packet = done.packet; answer = done.answer; list = done.list; lent = c.loop-hops.invariant.1 }

pub loop-hops-preserved : goal.loop-hops-preserved
loop-hops-preserved g c =
    let a = c.append.ensures in (
      one_more _ _ _ _ _ _ _ _ _ _ c.loop-hops.invariant.0 c.in-Some.link _ _ _ c.in-Some.is c.loop-hops-test.true
          (ap is_err (sym a.answer) ∙ sym c.if-is_err.ensures.value) a.len a.memory a.holds c.send.ensures,
      a.lent ∙ c.loop-hops.invariant.1,
    )
