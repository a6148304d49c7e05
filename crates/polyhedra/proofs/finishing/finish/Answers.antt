use Rattle.std.proofs.Common.{refl, sym, ap, Some, ◌∙◌}
use Rattle.linear_terms.specs.declared.row.Case.{Case}
use Rattle.polyhedra.specs.Finish.{cut, finished_left, finish_of_case}
use Rattle.posing.specs.Posing.{◌>>=◌}
use Rattle.posing.proofs.Following.{stops}
use Rattle.posing.proofs.Steps.{value_first, error_first, notes_first, at_end, in_other_words}
use Rattle.polyhedra.proofs.finishing.finish.Goals as goal

pub returns-in-None : goal.returns-in-None
unfolding finish_of_case
returns-in-None g c =
    notes_first c.in_ok-solve_noted.ensures.noted refl
    (in_other_words (ap finished_left (sym c.in-None.is ∙ c.in_ok-solve_noted.ensures.exact)) (at_end refl))

pub returns-in_err-thinned-in-Some : goal.returns-in_err-thinned-in-Some
unfolding finish_of_case
returns-in_err-thinned-in-Some g c =
    notes_first c.in_ok-solve_noted.ensures.noted refl
    (in_other_words (ap finished_left (sym c.in-Some.is ∙ c.in_ok-solve_noted.ensures.exact)) (error_first _ c.in_err-thinned-in-Some.ensures refl c.from_residual-in_err-thinned-in-Some.ensures.1))

pub returns-in_err-kept-in-Some : goal.returns-in_err-kept-in-Some
unfolding finish_of_case
returns-in_err-kept-in-Some g c =
    notes_first c.in_ok-solve_noted.ensures.noted refl
    (in_other_words (ap finished_left (sym c.in-Some.is ∙ c.in_ok-solve_noted.ensures.exact))
    (value_first _ c.in_ok-thinned-in-Some.ensures refl (stops _ _ _ _ _ _ c.in_err-kept-in-Some.ensures.noted c.from_residual-in_err-kept-in-Some.ensures.1)))

pub returns-in_ok-kept-in-Some : goal.returns-in_ok-kept-in-Some
unfolding finish_of_case cut ◌>>=◌
returns-in_ok-kept-in-Some g c =
    notes_first c.in_ok-solve_noted.ensures.noted refl
    (in_other_words (ap finished_left (sym c.in-Some.is ∙ c.in_ok-solve_noted.ensures.exact))
    (value_first _ c.in_ok-thinned-in-Some.ensures refl (notes_first c.in_ok-kept-in-Some.ensures.noted refl (at_end (ap (λ (kept : Case). Some kept) c.in_ok-kept-in-Some.ensures.exact)))))
