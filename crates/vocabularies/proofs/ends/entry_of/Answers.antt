use Rattle.std.proofs.Common.{◌≡◌, IfOk, subst}
use Rattle.vocabularies.specs.Ends.{plain_vocabulary, terms_below}
use Rattle.vocabularies.specs.Harvest.{harvest_of}
use Rattle.vocabularies.proofs.ends.entry_of.Goals as goal

pub returns : goal.returns
unfolding Rattle.vocabularies.specs.Ends.entry_of
returns c =
    subst (λ n. IfOk c.ends_of.result (λ voc. voc ≡ plain_vocabulary c.args.program.now n (terms_below n (harvest_of c.args.p.now.body))))
    c.entry_width-columns.ensures c.ends_of.ensures
