use Rattle.std.proofs.Common.{◌∙◌, ◌++◌, sym, ap, subst}
use Rattle.polyhedra.specs.Vocabulary.{IsVocabulary}
use Rattle.phases.proofs.FacetStars.{along-vocabulary}
use Rattle.phases.proofs.facet_star.along.Goals as goal

pub from_parts-requires : goal.from_parts-requires
from_parts-requires c =
    let columns = sym c.columns-columns.ensures.columns in
    let named = sym (c.in_ok-named.ensures ∙ c.named_columns.ensures) in
    let harvested = sym (c.in_ok-harvested.ensures ∙ c.harvested_terms.ensures) in
    let rule = sym c.rule.ensures in
    let extra = sym (c.in_ok-append.ensures.ok ∙ ap (λ ds. ds ++ c.args.directions) (c.in_ok-extra.ensures ∙ c.extra.ensures)) in
    subst IsVocabulary (λ i. record { columns = columns i; named = named i; harvested = harvested i; rule = rule i; extra = extra i })
    (along-vocabulary c.args.voc.now c.args.directions c.columns-columns.ensures.valid c.requires)
