use Rattle.std.proofs.Common.{◌≡◌, [], refl, ap, ◌∙◌}
use Rattle.std.specs.Prelude.{if◌then◌else◌}
use Rattle.posing.proofs.Following.{stops}
use Rattle.posing.proofs.Steps.{value_first, error_first}
use Rattle.recurrence.specs.Products.{has_products, products_in, products}
use Rattle.recurrence.specs.Strata.{strata}
use Rattle.recurrence.specs.Words.{rows_by_strata}
use Rattle.recurrence.proofs.turning.rows_by_strata.Goals as goal

pub strata_of-requires : goal.strata_of-requires
strata_of-requires g c = record { ends = c.requires.starred.same_ends; movement = c.requires.movement }

pub rows_of-requires : goal.rows_of-requires
rows_of-requires g c =
    let is : c.as_slice-monos.result.now ≡ products c.args.body.formula.now c.args.voc.now =
    c.as_slice-monos.ensures ∙ c.in_ok-products.ensures ∙ (λ i. if has_products c.args.voc.now.rule then products_in (c.requires.movement.cases i) else []) in
    record { starred = c.requires.starred; movement = c.requires.movement; products = is }

pub returns-in_err-products : goal.returns-in_err-products
returns-in_err-products g c = stops _ _ _ _ _ _ refl c.from_residual.ensures.1

pub returns-in_err-strata : goal.returns-in_err-strata
unfolding rows_by_strata
returns-in_err-strata g c =
    let is : c.as_slice-monos.result.now ≡ products c.args.body.formula.now c.args.voc.now =
    c.as_slice-monos.ensures ∙ c.in_ok-products.ensures ∙ (λ i. if has_products c.args.voc.now.rule then products_in (c.requires.movement.cases i) else []) in
    error_first _ c.in_err-strata.ensures (ap (strata c.args.body.formula.now) is) c.from_residual-in_err-strata.ensures.1

pub returns : goal.returns
unfolding rows_by_strata
returns g c =
    let is : c.as_slice-monos.result.now ≡ products c.args.body.formula.now c.args.voc.now =
    c.as_slice-monos.ensures ∙ c.in_ok-products.ensures ∙ (λ i. if has_products c.args.voc.now.rule then products_in (c.requires.movement.cases i) else []) in
    value_first _ c.in_ok-strata.ensures (ap (strata c.args.body.formula.now) is) c.rows_of.ensures
