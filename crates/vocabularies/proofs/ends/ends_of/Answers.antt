use Rattle.std.proofs.Common.{◌≤◌, List, length, sym, subst, ◌∙◌, ap}
use Rattle.std.specs.List.{AllByRecursion}
use Rattle.linear_terms.specs.Polynomial.{Polynomial}
use Rattle.polyhedra.specs.Vocabulary.{IsDirectionOver}
use Rattle.vocabularies.specs.Ends.{terms_below}
use Rattle.vocabularies.specs.Harvest.{harvest_of}
use Rattle.vocabularies.proofs.Columns.{IsVocabulary-below}
use Rattle.vocabularies.proofs.ends.ends_of.Goals as goal

pub plain_vocabulary-requires-clause-few : goal.plain_vocabulary-requires-clause-few
plain_vocabulary-requires-clause-few c =
    let made = c.in_ok-terms.ensures ∙ ap (terms_below c.args.fewer) (c.in_ok-harvested.ensures ∙ ap harvest_of c.as_slice.ensures) in
    let whole = IsVocabulary-below c.args.program.now c.args.p.now c.args.fewer c.args.columns c.requires.fit c.requires.fewer in
    subst (λ (terms : List Polynomial). length terms ≤ 32) (sym made) whole.few

pub plain_vocabulary-requires-clause-terms : goal.plain_vocabulary-requires-clause-terms
plain_vocabulary-requires-clause-terms c =
    let made = c.in_ok-terms.ensures ∙ ap (terms_below c.args.fewer) (c.in_ok-harvested.ensures ∙ ap harvest_of c.as_slice.ensures) in
    let whole = IsVocabulary-below c.args.program.now c.args.p.now c.args.fewer c.args.columns c.requires.fit c.requires.fewer in
    subst (λ (terms : List Polynomial). AllByRecursion (IsDirectionOver c.args.columns) terms) (sym made) whole.harvested
