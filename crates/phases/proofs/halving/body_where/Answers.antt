use Rattle.std.proofs.Common.{map, sym, subst, ap, ◌∙◌}
use Rattle.transition_formula.specs.Transition.{IsTransition}
use Rattle.phases.specs.Phases.{case_where}
use Rattle.phases.proofs.BodiesWhere.{where-fits}
use Rattle.phases.proofs.halving.body_where.Goals as goal

pub from_cases-requires : goal.from_cases-requires
from_cases-requires c =
    let fit : IsTransition c.args.body.now.from c.args.body.now.to c.in_ok-cases.cases =
    subst (IsTransition c.args.body.now.from c.args.body.now.to) (sym (c.in_ok-cases.ensures ∙ ap (map (case_where c.args.poly.now)) c.cases.ensures.cases))
    (where-fits c.args.body.now c.args.poly.now c.requires.splittable.fits c.requires.over) in
    rw (c.from.ensures, c.to.ensures) fit
