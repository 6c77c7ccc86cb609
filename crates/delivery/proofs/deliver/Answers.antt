use Rattle.std.proofs.Common.{◌≡◌, ℕ, ◌+◌, ◌-◌, Err, sym, ap, ◌∙◌, subst, arith}
use Rattle.std.proofs.lemmas.Result.{err_from_is_err_and}
use Rattle.face.specs.declared.packet.Packet.TheVariants.{Ended}
use Rattle.face.specs.declared.packet.Refusal.{Refusal}
use Rattle.face.specs.Hand.{open_told}
use Rattle.delivery.specs.Run.{gone_on, run_told}
use Rattle.delivery.proofs.Running.{every, in_service, run_refused, Sent, sent_none, sent_more, sent_rest, run_done, run_right, ok_not_err}
use Rattle.delivery.proofs.deliver.Goals as goal

pub loop-sent-init : goal.loop-sent-init
loop-sent-init g c =
    sent_none (g.P.Planariser.blocking c.args.graph.planariser.now) (g.R.Reading.meaning c.args.graph.host.now) c.args.source c.args.target c.args.budget
    c.in_ok-packet.packet c.in_ok-packet.ensures

pub loop-sent-preserved : goal.loop-sent-preserved
loop-sent-preserved g c =
    sent_more (g.P.Planariser.blocking c.args.graph.planariser.now) (g.R.Reading.meaning c.args.graph.host.now) c.args.source c.args.target c.args.budget
    (g.met.P.Planariser.lawful c.args.graph.planariser.now) (in_service _ (g.met.R.Reading.mapped c.args.graph.host.now))
    c.loop-sent._sent c.loop-sent.packet c.go_on.result c.loop-sent.invariant (c.go_on.ensures ∙ ap (gone_on (g.P.Planariser.blocking c.args.graph.planariser.now) (g.R.Reading.meaning c.args.graph.host.now)) (sym c.in-Held.is))

pub returns-in_err-packet : goal.returns-in_err-packet
returns-in_err-packet g c =
    let p = err_from_is_err_and c.from_residual.result c.from_residual.ensures.1 in
    record {
      answer = ap run_told p.1
          ∙ run_refused (g.P.Planariser.blocking c.args.graph.planariser.now) (g.R.Reading.meaning c.args.graph.host.now) c.args.source c.args.target c.args.budget
          p.0 (ap (λ (w : Refusal). open_told (Err w)) p.2 ∙ c.in_err-packet.ensures);
      rightly = λ d e. absurd (ok_not_err d p.0 (sym e ∙ p.1));
      always = every;
    }

pub returns : goal.returns
returns g c =
    let b = g.P.Planariser.blocking c.args.graph.planariser.now in
    let m = g.R.Reading.meaning c.args.graph.host.now in
    let l = g.met.P.Planariser.lawful c.args.graph.planariser.now in
    let all : c.loop-sent._sent ≡ c.args.budget = omega arith in
    let w = subst (λ (i : ℕ). Sent b m c.args.source c.args.target c.args.budget i c.loop-sent.packet) all c.loop-sent.invariant in
    record {
      answer = run_done b m c.args.source c.args.target c.args.budget l (in_service _ (g.met.R.Reading.mapped c.args.graph.host.now)) c.loop-sent.packet c.put_by.result w c.put_by.ensures;
      rightly = λ d e. run_right b m c.args.source c.args.target c.args.budget l (in_service _ (g.met.R.Reading.mapped c.args.graph.host.now)) c.loop-sent.packet c.put_by.result d w c.put_by.ensures e;
      always = every;
    }

pub returns-in-Ended : goal.returns-in-Ended
returns-in-Ended g c =
    let b = g.P.Planariser.blocking c.args.graph.planariser.now in
    let m = g.R.Reading.meaning c.args.graph.host.now in
    let l = g.met.P.Planariser.lawful c.args.graph.planariser.now in
    let i = c.loop-sent._sent in
    let n = c.args.budget in
    let here : Sent b m c.args.source c.args.target n i (Ended c.in-Ended.ended) = subst (Sent b m c.args.source c.args.target n i) c.in-Ended.is c.loop-sent.invariant in
    let rest = sent_rest b m c.args.source c.args.target n l (in_service _ (g.met.R.Reading.mapped c.args.graph.host.now)) i c.in-Ended.ended here (n - i) in
    let all : n - i + i ≡ n = omega arith in
    let w = subst (λ (k : ℕ). Sent b m c.args.source c.args.target n k (Ended c.in-Ended.ended)) all rest in
    record {
      answer = run_done b m c.args.source c.args.target n l (in_service _ (g.met.R.Reading.mapped c.args.graph.host.now)) (Ended c.in-Ended.ended) c.file.result w c.file.ensures;
      rightly = λ d e. run_right b m c.args.source c.args.target n l (in_service _ (g.met.R.Reading.mapped c.args.graph.host.now)) (Ended c.in-Ended.ended) c.file.result d w c.file.ensures e;
      always = every;
    }
