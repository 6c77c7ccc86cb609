use Rattle.host.specs.Rows.{bit}
use Rattle.host.specs.Storeys.{meaning_of}
use Rattle.host.proofs.Mending.{right_switched}
use Rattle.host.proofs.table.TableHostSwitching.switch.Goals as goal

pub invariant_of-self : goal.invariant_of-self
invariant_of-self c = record {
  right = right_switched (bit c.args.self.now.rows.row) (bit c.mend.new.self.row) (meaning_of c.args.self.now.storey) (meaning_of c.mark.new.self)
      c.args.i c.args.serving c.mark.ensures c.args.self.now.right c.mend.ensures;
}
