use Rattle.std.proofs.Common.{◌≤◌, sym, subst}
use Rattle.std.specs.Prelude.{All}
use Rattle.linear_terms.specs.declared.row.Case.{Case}
use Rattle.transition_formula.specs.Transition.{IsTransition}
use Rattle.context.proofs.FurtherPosts.{extended-made-fits}
use Rattle.context.proofs.extending.extended_formula.Goals as goal

pub extended_cases-requires-clause-few : goal.extended_cases-requires-clause-few
extended_cases-requires-clause-few c = subst (All (λ (case : Case). case.aux ≤ 64)) (sym c.cases.ensures.cases) c.requires.few

pub from_cases-requires : goal.from_cases-requires
from_cases-requires c =
    extended-made-fits c.args.columns c.args.f.now _ _ _ c.in_ok-cases.cases c.requires.more c.to.ensures c.from.ensures (subst (IsTransition _ _) c.cases.ensures.cases c.cases.ensures.fit) c.cases.ensures.cases c.in_ok-cases.ensures
