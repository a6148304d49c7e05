use Rattle.std.proofs.Common.{◌≡◌, ◌+◌, IfOk, subst}
use Rattle.vocabularies.specs.Ends.{exit_width, plain_vocabulary, terms_below}
use Rattle.vocabularies.specs.Harvest.{harvest_of}
use Rattle.vocabularies.proofs.ends.pair_of.Goals as goal

pub returns : goal.returns
unfolding Rattle.vocabularies.specs.Ends.pair_of
returns c =
    subst (λ n. IfOk c.ends_of.result (λ voc. voc ≡ plain_vocabulary c.args.program.now (n + exit_width c.args.program.now c.args.p.now) (terms_below n (harvest_of c.args.p.now.body))))
    c.entry_width-entry.ensures
    (subst (λ m. IfOk c.ends_of.result (λ voc. voc ≡ plain_vocabulary c.args.program.now (c.entry_width-entry.result + m) (terms_below c.entry_width-entry.result (harvest_of c.args.p.now.body))))
    c.exit_width.ensures c.ends_of.ensures)
