use Rattle.std.proofs.Common.{◌≡◌, true, false, sym, ap, ◌∙◌}
use Rattle.std.specs.Prelude.{if◌then◌else◌}
use Rattle.transition_formula.specs.Transition.{Transition, is_fitted}
use Rattle.posing.specs.Posing.{Done}
use Rattle.posing.proofs.Steps.{at_end, in_other_words}
use Rattle.polyhedra.specs.Squash.{noted_squash, fitted_formula}
use Rattle.polyhedra.specs.Vocabulary.{Vocabulary}
use Rattle.polyhedra.proofs.fitting.fitted_formula.Goals as goal

small : (f : Transition) (from to : Vocabulary) → is_fitted f.cases ≡ true → Done f ≡ fitted_formula f from to
unfolding fitted_formula
small f from to e = ap (λ b. if b then Done f else noted_squash f from to) (sym e)

large : (f : Transition) (from to : Vocabulary) → is_fitted f.cases ≡ false → noted_squash f from to ≡ fitted_formula f from to
unfolding fitted_formula
large f from to e = ap (λ b. if b then Done f else noted_squash f from to) (sym e)

pub returns-then-is_fitted : goal.returns-then-is_fitted
returns-then-is_fitted g c = in_other_words (small c.args.f.now c.args.from.now c.args.to.now (sym c.is_fitted.ensures ∙ c.if-is_fitted.true)) (at_end c.in_ok-copy.ensures.cases)

pub returns : goal.returns
returns g c = in_other_words (large c.args.f.now c.args.from.now c.args.to.now (sym c.is_fitted.ensures ∙ c.if-is_fitted.false)) c.noted_squash.ensures
