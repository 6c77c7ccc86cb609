use Rattle.std.proofs.Common.{◌≡◌, true, sym, ap, ◌∙◌, rules}
use Rattle.floor.specs.Meaning.{neighbours}
use Rattle.kept.specs.Kept.{kept, node_at}
use Rattle.face.specs.Hand.{in_hand, opened_from}
use Rattle.face.proofs.Hosts.{target_apart}
use Rattle.face.proofs.packet.Packet.open.Goals as goal

pub returns : goal.returns
returns g c =
    let m = g.R.Reading.meaning c.args.graph.host.now in
    let b = g.P.Planariser.blocking c.args.graph.planariser.now in
    let s = c.args.source in
    let t = c.args.target in
    let p = c.in-Some-Some.from in
    let q = c.in-Some-Some.to in
    let from = sym c.in-Some-Some.ensures in
    let to = sym c.in-Some-Some.ensures' in
    let from_serves : p.serving ≡ true = search rules in
    let to_serves : q.serving ≡ true = search rules in
    let seen = simp (c.node.ensures, c.view-view.ensures.host, c.view-view.ensures.planariser, c.view-view.ensures.number) at c.opened.ensures.value in
    let made : c.opened.result ≡ opened_from (node_at m s) (record { number = t; point = q.point }) (kept b (node_at m s).point (neighbours m s))
    = seen (target_apart m s t p q from to (g.met.R.Reading.mapped c.args.graph.host.now)) in
    let packet = c.take_up.ensures ∙ ap in_hand made in
    simp (packet, from, to, from_serves, to_serves)
