use Rattle.std.proofs.Common.{◌+◌, ap, sym, subst, ◌∙◌}
use Rattle.polyhedra.specs.Vocabulary.{IsVocabulary}
use Rattle.vocabularies.specs.Harvest.{harvest_of}
use Rattle.vocabularies.proofs.Columns.{IsVocabulary-full}
use Rattle.vocabularies.proofs.ends.full_of.Goals as goal

pub from_parts-requires : goal.from_parts-requires
unfolding Rattle.vocabularies.specs.Ends.full_of
from_parts-requires c =
    subst IsVocabulary
    (λ i. record {
      columns = sym c.len.ensures i + sym c.len-2.ensures i + 1;
      named = sym c.in_ok-named.ensures i;
      harvested = sym (c.in_ok-harvested.ensures ∙ ap harvest_of c.as_slice.ensures) i;
      rule = c.args.program.now.rule;
      extra = sym c.new-extra.ensures i;
    })
    (IsVocabulary-full c.args.program.now c.args.p.now c.requires.fit)
