use Rattle.std.proofs.Common.{not, sym, ap, ◌∙◌}
use Rattle.std.proofs.lemmas.Bool.{eq-eqb}
use Rattle.host.specs.Storeys.{meaning_of}
use Rattle.host.proofs.Links.{among_apart, among_self, among_past}
use Rattle.host.proofs.storey.Storey.links.Goals as goal

pub returns-in_default : goal.returns-in_default
returns-in_default c = sym (among_past (meaning_of c.args.self.now) c.args.i c.args.k (sym c.in_default.ensures'))

pub returns-then-i-k : goal.returns-then-i-k
returns-then-i-k c =
    let both = c.in-Some-Some in
    c.hears.ensures
    ∙ sym (among_apart (meaning_of c.args.self.now) c.args.i c.args.k both.p both.q (sym both.ensures) (sym both.ensures') c.if-i-k.true)

pub returns-else-i-k : goal.returns-else-i-k
returns-else-i-k c =
    let same = c.if-i-k.false in
    ap not (eq-eqb c.args.i c.args.k same) ∙ sym (among_self (meaning_of c.args.self.now) c.args.i c.args.k same)
