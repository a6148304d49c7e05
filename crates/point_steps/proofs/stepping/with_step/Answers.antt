use Rattle.std.proofs.Common.{◌++◌, ap, refl, sym, subst}
use Rattle.transition_formula.specs.Transition.{AreSolvable, Transition}
use Rattle.posing.specs.Posing.{Done}
use Rattle.posing.proofs.Following.{stops}
use Rattle.posing.proofs.Steps.{at_end, error_first, notes_first, value_first}
use Rattle.polyhedra.specs.Settle.{settled_formula}
use Rattle.point_steps.specs.Steps.{step_of, with_step}
use Rattle.point_steps.proofs.StepFormulas.{step-solvable}
use Rattle.point_steps.proofs.StepLaws.{made-behind, made-covers}
use Rattle.point_steps.proofs.stepping.with_step.Goals as goal

pub settle-requires : goal.settle-requires
settle-requires g c =
    subst (λ (f : Transition). AreSolvable f.cases) (sym c.in_ok-f.ensures.exact)
    (step-solvable c.args.point.columns c.args.point.places.now c.args.point.state.now c.requires.state c.args.out.now.formula c.requires.out.formula c.args.out.now.target c.requires.out.there)

pub returns-clause-follows : goal.returns-clause-follows
unfolding with_step
returns-clause-follows g c =
    notes_first c.in_ok-f.ensures.noted refl
    (value_first (λ f. Done (c.args.made ++ step_of c.args.out.now.target f f.cases)) c.in_ok-left.ensures.follows (ap settled_formula c.in_ok-f.ensures.exact) (at_end c.in_ok-all.ensures))

pub returns-clause-behind : goal.returns-clause-behind
returns-clause-behind g c = made-behind c.args.made c.in_ok-all.all c.args.out.now.target c.in_ok-left.left c.in_ok-all.ensures

pub returns-clause-covers : goal.returns-clause-covers
returns-clause-covers g c =
    made-covers c.args.point.columns c.args.point.places.now c.args.point.state.now c.args.made c.in_ok-all.all c.args.out.now c.in_ok-f.f c.in_ok-left.left c.in_ok-f.ensures.exact c.in_ok-left.ensures.covers c.in_ok-all.ensures

pub returns-in_err-left-clause-follows : goal.returns-in_err-left-clause-follows
unfolding with_step
returns-in_err-left-clause-follows g c =
    notes_first c.in_ok-f.ensures.noted refl
    (error_first (λ f. Done (c.args.made ++ step_of c.args.out.now.target f f.cases)) c.in_err-left.ensures.follows (ap settled_formula c.in_ok-f.ensures.exact) c.from_residual-in_err-left.ensures.1)

pub returns-in_err-all-clause-follows : goal.returns-in_err-all-clause-follows
unfolding with_step
returns-in_err-all-clause-follows g c =
    notes_first c.in_ok-f.ensures.noted refl
    (value_first (λ f. Done (c.args.made ++ step_of c.args.out.now.target f f.cases)) c.in_ok-left.ensures.follows (ap settled_formula c.in_ok-f.ensures.exact) (stops _ _ _ _ _ _ refl c.from_residual-in_err-all.ensures.1))
