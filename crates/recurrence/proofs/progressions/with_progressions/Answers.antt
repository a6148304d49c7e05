use Rattle.std.proofs.Common.{◌≡◌, ◌<◌, ℕ, Bool, All, true, length, refl, sym, ap, subst, ◌∙◌, arith}
use Rattle.std.specs.Prelude.{not, ◌&&◌}
use Rattle.std.specs.List.{filter}
use Rattle.std.proofs.lemmas.List.Elements.{All-from_recursion}
use Rattle.linear_terms.specs.declared.col.Col.TheVariants.{Aux}
use Rattle.linear_terms.specs.declared.row.Case.{Case}
use Rattle.posing.specs.Posing.{each}
use Rattle.posing.proofs.Following.{stops}
use Rattle.posing.proofs.Steps.{at_end, in_other_words}
use Rattle.polyhedra.specs.Changes.{modified_variables}
use Rattle.polyhedra.proofs.Coverage.{modified-few, posts-long}
use Rattle.polyhedra.proofs.Lists.{each-filter}
use Rattle.recurrence.specs.Progressions.{is_term, open_variables, progressions_of, bounded_progression}
use Rattle.recurrence.specs.Strata.{all_terms}
use Rattle.recurrence.specs.Words.{is_among, change_over_turns_by}
use Rattle.recurrence.proofs.Parts.{no-progressions, all-progressions}
use Rattle.recurrence.proofs.RisingNumbers.{modified-below}
use Rattle.recurrence.proofs.progressions.with_progressions.Goals as goal

pub returns-then-rule-le1 : goal.returns-then-rule-le1
returns-then-rule-le1 g c = in_other_words (no-progressions c.args.body.formula.now c.args.voc.now c.args.strata.now c.args.rows (omega (arith, c.rule.ensures, c.if-rule-le1.true))) (at_end refl)

pub returns-in_err-variables : goal.returns-in_err-variables
returns-in_err-variables g c = stops _ _ _ _ _ _ refl c.from_residual.ensures.1

pub with_variables-requires-clause-turns : goal.with_variables-requires-clause-turns
with_variables-requires-clause-turns g c =
    let body = c.args.body.formula.now in
    let few = modified-few true body in
    let long = ap length (c.as_slice-modified.ensures ∙ c.requires.movement.modified) in
    let most = c.requires.few in
    record {
      posts = subst (λ n. All (λ (case : Case). length case.post ≡ n) c.cases-cases.result.now) (sym c.to-to.ensures) (posts-long body.from body.to c.cases-cases.result.now c.cases-cases.ensures.fit);
      few = omega arith;
    }

pub with_variables-requires-clause-low : goal.with_variables-requires-clause-low
with_variables-requires-clause-low g c =
    let body = c.args.body.formula.now in
    let test : ℕ → Bool = λ v. is_among c.named_columns.result.now v && not (is_term c.args.body.movement.now.moving (all_terms c.args.strata.now) v) in
    let are = c.as_slice.ensures ∙ c.in_ok-variables.ensures ∙ (λ i. filter test (c.requires.movement.modified i)) in
    subst (All (λ v. v < c.to-to.result)) (sym are)
    (subst (λ n. All (λ v. v < n) (filter test (modified_variables true body))) (sym c.to-to.ensures)
    (All-from_recursion (λ v. v < body.to) (filter test (modified_variables true body)) (each-filter (λ v. v < body.to) test (modified_variables true body) (modified-below body))))

pub returns : goal.returns
returns g c =
    let body = c.args.body.formula.now in
    let are : c.as_slice.result.now ≡ open_variables body c.args.voc.now c.args.strata.now =
    c.as_slice.ensures ∙ c.in_ok-variables.ensures
    ∙ (λ i. filter (λ v. is_among (c.named_columns.ensures i) v && not (is_term (c.requires.movement.moving i) (all_terms c.args.strata.now) v)) (c.requires.movement.modified i)) in
    in_other_words
    ((λ i. let us = (c.as_slice-modified.ensures ∙ c.requires.movement.modified) i in each (λ made v. each (bounded_progression (c.cases-cases.ensures.cases i) (change_over_turns_by us) (Aux (length us))) made (progressions_of (c.as_slice-terms.ensures i) v)) c.args.rows (are i))
    ∙ all-progressions body c.args.voc.now c.args.strata.now c.args.rows (omega (arith, c.rule.ensures, c.if-rule-le1.false)))
    c.with_variables.ensures
