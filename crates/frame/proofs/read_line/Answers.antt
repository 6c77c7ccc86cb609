use Rattle.std.proofs.Common.{rules}
use Rattle.frame.proofs.Laws.{only_text}
use Rattle.frame.proofs.read_line.Goals as goal

pub returns-clause-only_text : goal.returns-clause-only_text
returns-clause-only_text c = only_text c.args.line.now c.read_row.result (search rules)
