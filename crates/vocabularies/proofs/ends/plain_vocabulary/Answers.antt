use Rattle.std.proofs.Common.{sym, subst}
use Rattle.polyhedra.specs.Vocabulary.{IsVocabulary}
use Rattle.vocabularies.proofs.Columns.{IsVocabulary-plain}
use Rattle.vocabularies.proofs.ends.plain_vocabulary.Goals as goal

pub from_parts-requires : goal.from_parts-requires
from_parts-requires c =
    subst IsVocabulary
    (λ i. record { columns = c.args.columns; named = sym c.in_ok-named.ensures i; harvested = c.args.terms; rule = c.args.program.now.rule; extra = sym c.new-extra.ensures i })
    (IsVocabulary-plain c.args.program.now c.args.columns c.args.terms c.requires.few c.requires.terms)
