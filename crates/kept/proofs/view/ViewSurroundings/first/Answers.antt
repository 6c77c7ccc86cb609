use Rattle.std.proofs.Common.{◌≡◌, ℕ, true, false, ◌∷◌, ◌≢◌, List, Some, None, sym, ap, ◌∙◌, subst, refl, inl, arith, rules}
use Rattle.floor.specs.declared.node.Node.{Node}
use Rattle.floor.specs.Meaning.{neighbours}
use Rattle.host.specs.Remaining.{remaining_of}
use Rattle.kept.specs.Kept.{blocked, node_at}
use Rattle.kept.specs.declared.bearing.Bearing.{Bearing}
use Rattle.order.specs.Foremost.{taken}
use Rattle.order.specs.Directions.{earlier}
use Rattle.kept.proofs.Rounding.{ForemostBut, foremost_at_first, foremost_past, foremost_offered, foremost_untaken, taken_held, blocked_there, given_there, given}
use Rattle.kept.proofs.view.ViewSurroundings.first.Goals as goal
use Rattle.kept.proofs.view.ViewSurroundings.first.Goals.{else-would_take-via-then-would_take+else-not-is_blocked, else-would_take-via-else-would_take}

pub loop-w-init : goal.loop-w-init
loop-w-init g c =
    let m = g.R.Reading.meaning c.args.self.now.graph.host.now in
    let all : remaining_of g.R.Reading.meaning c.into_iter-w-iterator.result ≡ neighbours m c.args.self.now.number = search rules in
    foremost_at_first _ m _ _ _ _ (g.met.R.Reading.mapped c.args.self.now.graph.host.now) _ _ all c.new-keeper.ensures

pub loop-w-preserved-then-not-is_blocked : goal.loop-w-preserved-then-not-is_blocked
loop-w-preserved-then-not-is_blocked g c =
    let b = g.P.Planariser.blocking c.args.self.now.graph.planariser.now in
    let m = g.R.Reading.meaning c.args.self.now.graph.host.now in
    let i = c.args.self.now.number in
    let w = c.in-Some.w in
    let far : c.args.towards ≢ (node_at m i).point = λ e.
    let here : c.args.towards ≡ c.node-here.result.point = e ∙ ap (λ (n : Node). n.point) (sym c.node-here.ensures) in
    search rules in
    let front : remaining_of g.R.Reading.meaning c.loop-w.w-iterator ≡ w ∷ remaining_of g.R.Reading.meaning c.next.new.self = c.in-Some.ensures.steps in
    let held = subst (λ (ns : List Node). ForemostBut b m i c.args.sense c.args.start c.args.towards ns c.loop-w.keeper.held) front c.loop-w.invariant in
    let bearing : c.bearing_of.result ≡ Some (given b m i c.args.sense c.args.start c.args.towards w) =
    given_there m i c.args.sense c.args.start c.args.towards w c.bearing_of.result c.node-here.result c.node-here.ensures c.bearing_of.ensures far (held.apart w (inl refl)) in
    let found : Some c.in-Some-bearing_of.bearing ≡ Some (given b m i c.args.sense c.args.start c.args.towards w) = sym c.in-Some-bearing_of.is ∙ bearing in
    let same : c.in-Some-bearing_of.bearing ≡ given b m i c.args.sense c.args.start c.args.towards w = cc in
    let free : blocked b (node_at m i).point w (neighbours m i) ≡ false = sym (blocked_there b m i w c.node-here.result c.is_blocked.result c.node-here.ensures c.is_blocked.ensures) ∙ c.if-not-is_blocked.true in
    let first : taken (λ (x y : Bearing). earlier x.direction y.direction) c.loop-w.keeper.held (given b m i c.args.sense c.args.start c.args.towards w) ≡ true =
    sym (c.would_take.ensures ∙ ap (taken (λ (x y : Bearing). earlier x.direction y.direction) c.loop-w.keeper.held) same) ∙ c.if-would_take.true in
    subst (ForemostBut b m i c.args.sense c.args.start c.args.towards (remaining_of g.R.Reading.meaning c.next.new.self))
    (sym (c.replace.ensures.after ∙ ap (λ (x : Bearing). Some x) same
    ∙ sym (taken_held b m i c.args.sense c.args.start c.args.towards c.loop-w.keeper.held (given b m i c.args.sense c.args.start c.args.towards w) first)))
    (foremost_offered b m i c.args.sense c.args.start c.args.towards far _ _ w held free)

pub loop-w-preserved-else-would_take : goal.loop-w-preserved-else-would_take
loop-w-preserved-else-would_take g c =
    let b = g.P.Planariser.blocking c.args.self.now.graph.planariser.now in
    let m = g.R.Reading.meaning c.args.self.now.graph.host.now in
    let i = c.args.self.now.number in
    let w = c.in-Some.w in
    let far : c.args.towards ≢ (node_at m i).point = λ e.
    let here : c.args.towards ≡ c.node-here.result.point = e ∙ ap (λ (n : Node). n.point) (sym c.node-here.ensures) in
    search rules in
    let front : remaining_of g.R.Reading.meaning c.loop-w.w-iterator ≡ w ∷ remaining_of g.R.Reading.meaning c.next.new.self = c.in-Some.ensures.steps in
    let held = subst (λ (ns : List Node). ForemostBut b m i c.args.sense c.args.start c.args.towards ns c.loop-w.keeper.held) front c.loop-w.invariant in
    let bearing : c.bearing_of.result ≡ Some (given b m i c.args.sense c.args.start c.args.towards w) =
    given_there m i c.args.sense c.args.start c.args.towards w c.bearing_of.result c.node-here.result c.node-here.ensures c.bearing_of.ensures far (held.apart w (inl refl)) in
    let found : Some c.in-Some-bearing_of.bearing ≡ Some (given b m i c.args.sense c.args.start c.args.towards w) = sym c.in-Some-bearing_of.is ∙ bearing in
    let same : c.in-Some-bearing_of.bearing ≡ given b m i c.args.sense c.args.start c.args.towards w = cc in
    elim c.else-would_take.branch [
      | else-would_take-via-then-would_take+else-not-is_blocked v ↦
          let shut : blocked b (node_at m i).point w (neighbours m i) ≡ true = sym (blocked_there b m i w c.node-here.result v.is_blocked.result c.node-here.ensures v.is_blocked.ensures) ∙ v.if-not-is_blocked.false in
          foremost_past b m i c.args.sense c.args.start c.args.towards _ _ w held shut
      | else-would_take-via-else-would_take v ↦
          let left : taken (λ (x y : Bearing). earlier x.direction y.direction) c.loop-w.keeper.held (given b m i c.args.sense c.args.start c.args.towards w) ≡ false =
          sym (c.would_take.ensures ∙ ap (taken (λ (x y : Bearing). earlier x.direction y.direction) c.loop-w.keeper.held) same) ∙ v.if-would_take.false in
          foremost_untaken b m i c.args.sense c.args.start c.args.towards far _ _ w held left
    ]

pub loop-w-preserved : goal.loop-w-preserved
loop-w-preserved g c =
    let b = g.P.Planariser.blocking c.args.self.now.graph.planariser.now in
    let m = g.R.Reading.meaning c.args.self.now.graph.host.now in
    let i = c.args.self.now.number in
    let w = c.in-Some.w in
    let far : c.args.towards ≢ (node_at m i).point = λ e.
    let here : c.args.towards ≡ c.node-here.result.point = e ∙ ap (λ (n : Node). n.point) (sym c.node-here.ensures) in
    search rules in
    let front : remaining_of g.R.Reading.meaning c.loop-w.w-iterator ≡ w ∷ remaining_of g.R.Reading.meaning c.next.new.self = c.in-Some.ensures.steps in
    let held = subst (λ (ns : List Node). ForemostBut b m i c.args.sense c.args.start c.args.towards ns c.loop-w.keeper.held) front c.loop-w.invariant in
    let bearing : c.bearing_of.result ≡ Some (given b m i c.args.sense c.args.start c.args.towards w) =
    given_there m i c.args.sense c.args.start c.args.towards w c.bearing_of.result c.node-here.result c.node-here.ensures c.bearing_of.ensures far (held.apart w (inl refl)) in
    let none : None ≡ Some (given b m i c.args.sense c.args.start c.args.towards w) = sym c.in_default.is ∙ bearing in
    let nothing : ◌≡◌ {A = ℕ} 0 1 = cc in
    absurd (omega arith)
