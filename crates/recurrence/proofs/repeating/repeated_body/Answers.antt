use Rattle.std.proofs.Common.{◌≢◌, List, length, [], refl, sym, ap, subst, ◌∙◌}
use Rattle.std.specs.Prelude.{option_to_list, ◌==◌}
use Rattle.linear_terms.specs.declared.row.Case.{Case}
use Rattle.transition_formula.specs.Transition.{IsTransition}
use Rattle.posing.proofs.Following.{stops}
use Rattle.posing.proofs.Steps.{value_first, error_first, at_end, in_other_words, value_has}
use Rattle.recurrence.proofs.Parts.{some-turns}
use Rattle.recurrence.proofs.Whole.{IsPut, turns-put, SmallLeft, finished-small, left-fits}
use Rattle.recurrence.proofs.repeating.repeated_body.Goals as goal

pub finish-requires : goal.finish-requires
finish-requires g c = (value_has (IsPut c.args.body.now c.args.voc.now c.requires) c.in_ok-case.ensures (turns-put c.args.body.now c.args.voc.now c.requires)).solvable

pub returns-in_err-case : goal.returns-in_err-case
returns-in_err-case g c =
    let body = c.args.body.now in
    let some : body.cases ≢ [] = λ e. let f = c.is_empty.ensures ∙ ap (λ (cs : List Case). length cs == 0) (c.cases.ensures.cases ∙ e) in let n = c.if-is_empty.false in cc in
    in_other_words (some-turns body c.args.voc.now some) (error_first _ c.in_err-case.ensures refl c.from_residual-in_err-case.ensures.1)

pub returns-in_err-left : goal.returns-in_err-left
returns-in_err-left g c =
    let body = c.args.body.now in
    let some : body.cases ≢ [] = λ e. let f = c.is_empty.ensures ∙ ap (λ (cs : List Case). length cs == 0) (c.cases.ensures.cases ∙ e) in let n = c.if-is_empty.false in cc in
    in_other_words (some-turns body c.args.voc.now some) (value_first _ c.in_ok-case.ensures refl (error_first _ c.in_err-left.ensures refl c.from_residual-in_err-left.ensures.1))

pub with_identity-requires-clause-fits : goal.with_identity-requires-clause-fits
with_identity-requires-clause-fits g c =
    let body = c.args.body.now in
    let put = value_has (IsPut body c.args.voc.now c.requires) c.in_ok-case.ensures (turns-put body c.args.voc.now c.requires) in
    let small = value_has (SmallLeft body.to) c.in_ok-left.ensures (finished-small body c.in_ok-case.case put.fit) in
    subst (λ n. IsTransition n body.to (option_to_list c.in_ok-left.left)) (sym c.requires.same_ends) (left-fits body.to c.in_ok-left.left small)

pub returns-in_err-made : goal.returns-in_err-made
returns-in_err-made g c =
    let body = c.args.body.now in
    let some : body.cases ≢ [] = λ e. let f = c.is_empty.ensures ∙ ap (λ (cs : List Case). length cs == 0) (c.cases.ensures.cases ∙ e) in let n = c.if-is_empty.false in cc in
    in_other_words (some-turns body c.args.voc.now some)
    (value_first _ c.in_ok-case.ensures refl (value_first _ c.in_ok-left.ensures refl (stops _ _ _ _ _ _ refl c.from_residual-in_err-made.ensures.1)))

pub returns : goal.returns
returns g c =
    let body = c.args.body.now in
    let some : body.cases ≢ [] = λ e. let f = c.is_empty.ensures ∙ ap (λ (cs : List Case). length cs == 0) (c.cases.ensures.cases ∙ e) in let n = c.if-is_empty.false in cc in
    in_other_words (some-turns body c.args.voc.now some) (value_first _ c.in_ok-case.ensures refl (value_first _ c.in_ok-left.ensures refl (at_end c.in_ok-made.ensures)))
