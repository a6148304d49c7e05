use Rattle.std.proofs.Common.{◌+◌, ◌++◌, ap, subst, sym, ◌∙◌}
use Rattle.std.specs.List.{range_with_len}
use Rattle.polyhedra.specs.Vocabulary.{IsVocabulary}
use Rattle.point_steps.proofs.PointColumns.{IsVocabulary-with_named}
use Rattle.point_steps.proofs.ends.with_named_columns.Goals as goal

pub from_parts-requires : goal.from_parts-requires
from_parts-requires c =
    let columns = c.columns-columns.ensures.columns in
    let named =
    c.in_ok-append.ensures.ok ∙ (λ i. (c.in_ok-named.ensures ∙ c.named_columns.ensures) i ++ (c.in_ok-columns_from.ensures ∙ ap (λ n. range_with_len n c.args.more) columns) i) in
    subst IsVocabulary
    (λ i. record {
      columns = sym columns i + c.args.more;
      named = sym named i;
      harvested = sym (c.in_ok-harvested.ensures ∙ c.harvested_terms.ensures) i;
      rule = sym c.rule.ensures i;
      extra = sym c.new-extra.ensures i;
    })
    (IsVocabulary-with_named c.args.more c.args.voc.now c.columns-columns.ensures.valid)

pub returns : goal.returns
returns c =
    let columns = c.columns-columns.ensures.columns in
    let named =
    c.in_ok-append.ensures.ok ∙ (λ i. (c.in_ok-named.ensures ∙ c.named_columns.ensures) i ++ (c.in_ok-columns_from.ensures ∙ ap (λ n. range_with_len n c.args.more) columns) i) in
    c.from_parts.ensures
    ∙ (λ i. record {
      columns = columns i + c.args.more;
      named = named i;
      harvested = (c.in_ok-harvested.ensures ∙ c.harvested_terms.ensures) i;
      rule = c.rule.ensures i;
      extra = c.new-extra.ensures i;
    })
