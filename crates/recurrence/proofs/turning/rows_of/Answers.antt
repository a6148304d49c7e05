use Rattle.std.proofs.Common.{◌≡◌, true, [], ◌∷◌, ◌++◌, map, length, refl, sym, ap, subst, ◌∙◌, arith}
use Rattle.linear_terms.specs.declared.col.Col.TheVariants.{Aux}
use Rattle.posing.specs.Posing.{each}
use Rattle.posing.proofs.Following.{stops}
use Rattle.posing.proofs.Steps.{value_first, error_first, in_other_words}
use Rattle.polyhedra.specs.Bounds.{with_row}
use Rattle.polyhedra.specs.Changes.{modified_variables, moving}
use Rattle.polyhedra.proofs.Coverage.{modified-few}
use Rattle.recurrence.specs.Products.{products}
use Rattle.recurrence.specs.Star.{after_from, terms_with_row}
use Rattle.recurrence.specs.Words.{Ascend, row_of_term, turn_row, bound_rows}
use Rattle.recurrence.proofs.Parts.{rows-parts, noted_rows}
use Rattle.recurrence.proofs.RisingNumbers.{moving-ascends}
use Rattle.recurrence.proofs.turning.rows_of.Goals as goal

pub equations-requires-clause-few : goal.equations-requires-clause-few
equations-requires-clause-few g c =
    let few = modified-few true c.args.body.formula.now in let long = ap length (c.as_slice-modified.ensures ∙ c.requires.movement.modified) in let most = c.requires.starred.few in omega arith

pub equations-requires-clause-ascending : goal.equations-requires-clause-ascending
equations-requires-clause-ascending g c =
    let us = c.as_slice-modified.ensures ∙ c.requires.movement.modified in
    let vs = c.as_slice-moving.ensures ∙ c.requires.movement.moving in
    subst Ascend (sym (λ i. map (after_from 0 (us i)) (vs i))) (moving-ascends c.args.body.formula.now)

pub with_some_turn-requires : goal.with_some_turn-requires
with_some_turn-requires g c =
    let few = modified-few true c.args.body.formula.now in let long = ap length (c.as_slice-modified.ensures ∙ c.requires.movement.modified) in let most = c.requires.starred.few in omega arith

pub bound_rows-requires-clause-modified : goal.bound_rows-requires-clause-modified
bound_rows-requires-clause-modified g c =
    record {
      are = c.as_slice-modified.ensures ∙ c.requires.movement.modified;
      few = let few = modified-few true c.args.body.formula.now in let long = ap length (c.as_slice-modified.ensures ∙ c.requires.movement.modified) in let most = c.requires.starred.few in omega arith;
    }

pub bound_rows-requires-clause-starred : goal.bound_rows-requires-clause-starred
bound_rows-requires-clause-starred g c = c.requires.starred

pub with_progressions-requires : goal.with_progressions-requires
with_progressions-requires g c = record { movement = c.requires.movement; few = c.requires.starred.few }

pub returns-in_err-terms : goal.returns-in_err-terms
returns-in_err-terms g c = stops _ _ _ _ _ _ refl c.from_residual.ensures.1

pub returns-in_err-equations : goal.returns-in_err-equations
returns-in_err-equations g c = stops _ _ _ _ _ _ c.in_err-equations.ensures.noted c.from_residual-in_err-equations.ensures.1

pub returns-in_err-started : goal.returns-in_err-started
returns-in_err-started g c =
    let body = c.args.body.formula.now in
    let us : c.as_slice-modified.result.now ≡ modified_variables true body = c.as_slice-modified.ensures ∙ c.requires.movement.modified in
    let vs : c.as_slice-moving.result.now ≡ moving true body = c.as_slice-moving.ensures ∙ c.requires.movement.moving in
    let ts : c.as_slice.result.now ≡ terms_with_row (products body c.args.voc.now) c.args.strata.now = c.as_slice.ensures ∙ c.in_ok-terms.ensures ∙ ap (λ ms. terms_with_row ms c.args.strata.now) c.requires.products in
    in_other_words (rows-parts body c.args.voc.now c.args.strata.now)
    (value_first _ (noted_rows (row_of_term c.args.monos.now c.as_slice-modified.result.now c.as_slice-moving.result.now) g.O.Oracle.asking _ c.as_slice.result.now _ _ c.in_ok-equations.equations c.in_ok-equations.ensures.noted c.in_ok-equations.ensures.exact)
    (λ i. each (λ rows t. with_row rows (row_of_term (c.requires.products i) (us i) (vs i) t)) [] (ts i))
    (stops _ _ _ _ _ _ refl c.from_residual-in_err-started.ensures.1))

pub returns-in_err-bounds : goal.returns-in_err-bounds
returns-in_err-bounds g c =
    let body = c.args.body.formula.now in
    let us : c.as_slice-modified.result.now ≡ modified_variables true body = c.as_slice-modified.ensures ∙ c.requires.movement.modified in
    let vs : c.as_slice-moving.result.now ≡ moving true body = c.as_slice-moving.ensures ∙ c.requires.movement.moving in
    let ts : c.as_slice.result.now ≡ terms_with_row (products body c.args.voc.now) c.args.strata.now = c.as_slice.ensures ∙ c.in_ok-terms.ensures ∙ ap (λ ms. terms_with_row ms c.args.strata.now) c.requires.products in
    let started = c.in_ok-started.ensures ∙ (λ i. c.in_ok-equations.equations ++ turn_row (Aux (length (us i))) ∷ []) in
    in_other_words (rows-parts body c.args.voc.now c.args.strata.now)
    (value_first _ (noted_rows (row_of_term c.args.monos.now c.as_slice-modified.result.now c.as_slice-moving.result.now) g.O.Oracle.asking _ c.as_slice.result.now _ _ c.in_ok-equations.equations c.in_ok-equations.ensures.noted c.in_ok-equations.ensures.exact)
    (λ i. each (λ rows t. with_row rows (row_of_term (c.requires.products i) (us i) (vs i) t)) [] (ts i))
    (error_first _ c.in_err-bounds.ensures (ap (bound_rows body c.args.voc.now) started) c.from_residual-in_err-bounds.ensures.1))

pub returns : goal.returns
returns g c =
    let body = c.args.body.formula.now in
    let us : c.as_slice-modified.result.now ≡ modified_variables true body = c.as_slice-modified.ensures ∙ c.requires.movement.modified in
    let vs : c.as_slice-moving.result.now ≡ moving true body = c.as_slice-moving.ensures ∙ c.requires.movement.moving in
    let ts : c.as_slice.result.now ≡ terms_with_row (products body c.args.voc.now) c.args.strata.now = c.as_slice.ensures ∙ c.in_ok-terms.ensures ∙ ap (λ ms. terms_with_row ms c.args.strata.now) c.requires.products in
    let started = c.in_ok-started.ensures ∙ (λ i. c.in_ok-equations.equations ++ turn_row (Aux (length (us i))) ∷ []) in
    in_other_words (rows-parts body c.args.voc.now c.args.strata.now)
    (value_first _ (noted_rows (row_of_term c.args.monos.now c.as_slice-modified.result.now c.as_slice-moving.result.now) g.O.Oracle.asking _ c.as_slice.result.now _ _ c.in_ok-equations.equations c.in_ok-equations.ensures.noted c.in_ok-equations.ensures.exact)
    (λ i. each (λ rows t. with_row rows (row_of_term (c.requires.products i) (us i) (vs i) t)) [] (ts i))
    (value_first _ c.in_ok-bounds.ensures (ap (bound_rows body c.args.voc.now) started) c.with_progressions.ensures))
