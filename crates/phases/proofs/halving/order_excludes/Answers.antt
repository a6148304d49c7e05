use Rattle.std.proofs.Common.{refl, sym, subst, ap, ◌∙◌}
use Rattle.linear_terms.specs.declared.row.Case.{Case}
use Rattle.transition_formula.specs.Rounds.{in_order}
use Rattle.transition_formula.specs.Transition.{IsSolvable}
use Rattle.posing.specs.Logs.{loss_notes}
use Rattle.posing.proofs.Following.{stops}
use Rattle.posing.proofs.Steps.{at_end, in_other_words, notes_first}
use Rattle.phases.specs.Phases.{left_excludes}
use Rattle.phases.proofs.halving.order_excludes.Goals as goal

pub returns-in_err-whole : goal.returns-in_err-whole
returns-in_err-whole g c = stops _ _ _ _ _ _ refl c.from_residual.ensures.1

pub solve_noted-requires : goal.solve_noted-requires
solve_noted-requires g c = subst IsSolvable (sym c.in_ok-whole.ensures) c.requires

pub returns-in_err-solve_noted : goal.returns-in_err-solve_noted
returns-in_err-solve_noted g c = stops _ _ _ _ _ _ c.in_err-solve_noted.ensures.noted c.from_residual-in_err-solve_noted.ensures.1

pub returns-in-None : goal.returns-in-None
returns-in-None g c =
    notes_first c.in_ok-solve_noted.ensures.noted (ap (λ (k : Case). loss_notes (in_order k).losses) c.in_ok-whole.ensures)
    (in_other_words (ap left_excludes (sym c.in-None.is ∙ c.in_ok-solve_noted.ensures.exact ∙ ap (λ (k : Case). (in_order k).left) c.in_ok-whole.ensures)) (at_end refl))

pub returns : goal.returns
returns g c =
    notes_first c.in_ok-solve_noted.ensures.noted (ap (λ (k : Case). loss_notes (in_order k).losses) c.in_ok-whole.ensures)
    (in_other_words (ap left_excludes (sym c.in-Some.is ∙ c.in_ok-solve_noted.ensures.exact ∙ ap (λ (k : Case). (in_order k).left) c.in_ok-whole.ensures)) c.rows_exclude.ensures)
