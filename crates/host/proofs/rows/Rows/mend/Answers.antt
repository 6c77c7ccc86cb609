use Rattle.std.proofs.Common.{arith}
use Rattle.std.proofs.lemmas.Grind.{common_steps}
use Rattle.floor.specs.Meaning.{neighbours, is_among}
use Rattle.host.specs.Rows.{bit}
use Rattle.host.specs.Storeys.{meaning_of}
use Rattle.host.proofs.Links.{among_back}
use Rattle.host.proofs.Mending.{mended_more}
use Rattle.host.proofs.rows.Rows.mend.Goals as goal

pub loop-k-preserved : goal.loop-k-preserved
loop-k-preserved c =
    let near = is_among (neighbours (meaning_of c.args.storey.now) c.args.i) in
    mended_more (bit c.args.self.now.row) (bit c.loop-k.self.row) (bit c.put.new.self.row) (bit c.put-in-loop-k.new.self.row)
    c.args.i c.loop-k.k near c.links-on.result c.loop-k.invariant c.links-on.ensures c.put.ensures c.put-in-loop-k.ensures

pub returns : goal.returns
returns c = let back = among_back (meaning_of c.args.storey.now) c.args.i in grind (arith, common_steps)
