use Rattle.std.proofs.Common.{[], ◌∷◌, ◌++◌, true, ap, refl, subst, sym, ◌∙◌}
use Rattle.transition_formula.specs.Transition.{IsTransition, fits}
use Rattle.transition_formula.proofs.ColumnTests.{both_true}
use Rattle.point_verdicts.proofs.failures.formula_of_case.Goals as goal

pub from_cases-requires : goal.from_cases-requires
from_cases-requires c =
    subst (IsTransition c.args.from c.args.to) (sym (c.in_ok-push.ensures.ok ∙ ap (λ l. l ++ c.args.case ∷ []) c.new-cases.ensures)) (both_true (fits c.args.from c.args.to c.args.case) true c.requires refl)
