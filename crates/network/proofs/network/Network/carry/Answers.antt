use Rattle.std.proofs.Common.{◌≡◌, true, rules, tests, List, Ok, Option, is_some, sym, refl, ap, subst}
use Rattle.face.specs.declared.record.Record.{Record}
use Rattle.network.specs.Calls.{net, CarryDoes}
use Rattle.network.proofs.CarryCall.{carry_made}
use Rattle.network.proofs.network.Network.carry.Goals as goal

pub returns : goal.returns
returns g c =
    let b = g.P.Planariser.blocking c.args.self.now.planariser in
    let m = g.H.Reading.meaning c.args.self.now.host in
    let n = net m c.args.self.now.lines.records in
    let list = c.args.list.now in
    let carried = c.carry_on-carried in
    let some : is_some c.in_ok-packet.packet.hand ≡ true = search (rules, tests) in
    record {
      call = subst
          (λ (ls : List (Option Record)). CarryDoes b n c.args.line c.args.budget list.memory.now list.len (net m ls) (Ok carried.result) carried.new.list.memory.now carried.new.list.len)
          (sym c.put.ensures)
          (carry_made b n c.args.line c.args.budget list.memory.now list.len c.in_ok-packet.packet c.in_ok-packet.ensures
          some carried.new.packet carried.result _ _
          (simp (c.graph.ensures.host, c.graph.ensures.planariser) at carried.ensures.packet)
          (simp (c.graph.ensures.host, c.graph.ensures.planariser) at carried.ensures.answer)
          (simp (c.graph.ensures.host, c.graph.ensures.planariser) at carried.ensures.list));
      lent = carried.ensures.lent;
      floor = (refl, refl);
    }
