use Rattle.std.proofs.Common.{◌≡◌, ℕ, Bool, true, false, cond, Some, None, sym, refl, ◌∙◌, arith}
use Rattle.std.specs.Bool.{then_some}
use Rattle.floor.specs.declared.node.Node.{Node}
use Rattle.kept.proofs.Rounding.{known_there, unknown_there, known_elsewhere}
use Rattle.kept.proofs.view.ViewSurroundings.known.Goals as goal

pub returns-in_err-node : goal.returns-in_err-node
returns-in_err-node g c =
    record {
      found = c.from_residual.ensures
          ∙ unknown_there (g.P.Planariser.blocking c.args.self.now.graph.planariser.now) (g.R.Reading.meaning c.args.self.now.graph.host.now) c.args.self.now.number c.args.number
          c.in_err-node.ensures;
      elsewhere = λ n e. let z : ◌≡◌ {A = ℕ} 0 1 = cc (c.from_residual.ensures, e) in absurd (omega arith);
    }

given_if : (t : Bool) (w : Node) → then_some t w ≡ cond t (Some w) None
given_if true w = refl
given_if false w = refl

pub returns : goal.returns
returns g c =
    let m = g.R.Reading.meaning c.args.self.now.graph.host.now in
    let i = c.args.self.now.number in
    record {
      found = c.then_some.ensures ∙ given_if c.is_kept_as.result c.in_ok-node.node
          ∙ known_there (g.P.Planariser.blocking c.args.self.now.graph.planariser.now) m i c.args.number
          c.in_ok-node.node c.node.result c.is_kept_as.result c.node.ensures c.is_kept_as.ensures c.in_ok-node.ensures;
      elsewhere = λ n e. known_elsewhere m (g.met.R.Reading.mapped c.args.self.now.graph.host.now) i c.args.number c.in_ok-node.node c.in_ok-node.ensures c.is_kept_as.result n (sym (c.then_some.ensures ∙ given_if c.is_kept_as.result c.in_ok-node.node) ∙ e);
    }
