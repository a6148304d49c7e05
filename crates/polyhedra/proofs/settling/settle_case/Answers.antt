use Rattle.std.proofs.Common.{refl, sym, ap, ◌∙◌}
use Rattle.polyhedra.specs.Settle.{settled_case, feasible_left}
use Rattle.posing.proofs.Steps.{notes_first, at_end, in_other_words}
use Rattle.polyhedra.proofs.settling.settle_case.Goals as goal

pub returns-in-None : goal.returns-in-None
unfolding settled_case
returns-in-None g c =
    notes_first c.in_ok-solve_noted.ensures.noted refl
    (in_other_words (ap feasible_left (sym c.in-None.is ∙ c.in_ok-solve_noted.ensures.exact)) (at_end refl))
