use Rattle.std.proofs.Common.{◌≡◌, ◌+◌, ◌%◌, fold, ◌∙◌, rules}
use Rattle.frame.proofs.Rows.{wrapped_sum}
use Rattle.frame.proofs.row.check_byte.Goals as goal

pub returns : goal.returns
returns c =
    let folded : c.fold.result ≡ fold (λ a b. (a + b) % 256) 0 c.args.row.now = search rules in
    folded ∙ wrapped_sum c.args.row.now
