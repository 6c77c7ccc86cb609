use Rattle.std.proofs.Common.{rules}
use Rattle.frame.proofs.Laws.{reads_back}
use Rattle.frame.proofs.write_line.Goals as goal

pub returns-clause-reads_back : goal.returns-clause-reads_back
returns-clause-reads_back c =
    reads_back c.args.frame c.args.buf.now c.write_row.new.buf c.write_row.result (search rules) (search rules) c.row_of.ensures.bytes c.row_of.ensures.back
