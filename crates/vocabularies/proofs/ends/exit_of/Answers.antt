use Rattle.std.proofs.Common.{◌≡◌, length, IfOk, subst}
use Rattle.vocabularies.specs.Ends.{plain_vocabulary, terms_below}
use Rattle.vocabularies.specs.Harvest.{harvest_of}
use Rattle.vocabularies.proofs.ends.exit_of.Goals as goal

pub returns : goal.returns
unfolding Rattle.vocabularies.specs.Ends.exit_of
returns c =
    subst (λ n. IfOk c.ends_of.result (λ voc. voc ≡ plain_vocabulary c.args.program.now n (terms_below (length c.args.program.now.globals) (harvest_of c.args.p.now.body))))
    c.exit_width-columns.ensures
    (subst (λ m. IfOk c.ends_of.result (λ voc. voc ≡ plain_vocabulary c.args.program.now c.exit_width-columns.result (terms_below m (harvest_of c.args.p.now.body))))
    c.len-globals.ensures c.ends_of.ensures)
