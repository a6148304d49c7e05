use Rattle.std.proofs.Common.{ap, subst, ◌∙◌}
use Rattle.transition_formula.specs.Meaning.{Covers}
use Rattle.transition_formula.specs.Transition.{IsTransition}
use Rattle.polyhedra.specs.Laws.{HaveCanonicalRows}
use Rattle.polyhedra.specs.Settle.{settled_formula, settled_cases}
use Rattle.posing.proofs.Steps.{value_first, error_first, at_end, value_has}
use Rattle.polyhedra.proofs.SettleLaws.{settled-covers, settled_cases-fit}
use Rattle.polyhedra.proofs.settling.settle.Goals as goal

pub returns-in_err-cases-clause-follows : goal.returns-in_err-cases-clause-follows
unfolding settled_formula
returns-in_err-cases-clause-follows g c = error_first _ c.in_err-cases.ensures (ap settled_cases c.cases-given.ensures.cases) c.from_residual.ensures.1

pub from_cases-requires : goal.from_cases-requires
from_cases-requires g c =
    let fit : IsTransition c.args.f.now.from c.args.f.now.to c.in_ok-cases.cases =
    value_has (IsTransition c.args.f.now.from c.args.f.now.to) c.in_ok-cases.ensures
    (settled_cases-fit c.args.f.now.from c.args.f.now.to c.cases-given.result.now c.cases-given.ensures.fit) in
    rw (c.from.ensures, c.to.ensures) fit

pub returns-clause-follows : goal.returns-clause-follows
unfolding settled_formula
returns-clause-follows g c =
    value_first _ c.in_ok-cases.ensures (ap settled_cases c.cases-given.ensures.cases)
    (at_end (c.from_cases.ensures ∙ (λ i. record { from = c.from.ensures i; to = c.to.ensures i; cases = c.in_ok-cases.cases })))

pub returns-clause-covers : goal.returns-clause-covers
returns-clause-covers g c =
    value_has (λ g. Covers g c.args.f.now) (returns-clause-follows g c) (settled-covers c.args.f.now (subst HaveCanonicalRows c.cases-given.ensures.cases c.see_cases.ensures) c.requires)
