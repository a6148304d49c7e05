use Rattle.std.proofs.Common.{◌≡◌, ◌+◌, ◌++◌, ◌∙◌, map, sym, subst}
use Rattle.linear_terms.specs.declared.row.Case.{Case}
use Rattle.transition_formula.specs.Transition.{IsTransition}
use Rattle.leaf_cases.specs.Guard.{with_posts}
use Rattle.newton_rounds.specs.Pairs.{carrying_case, columns_from}
use Rattle.newton_rounds.proofs.PostFormulas.{carrying-fits}
use Rattle.newton_rounds.proofs.stations.carrying.Goals as goal

pub from_cases-requires : goal.from_cases-requires
from_cases-requires c =
    let columns = c.args.columns in
    let more = c.args.more in
    let f = c.args.f.now in
    let states = c.requires.states in
    let back : c.as_slice.result.now ≡ columns_from columns more = c.as_slice.ensures ∙ c.in_ok-back.ensures in
    let made : c.in_ok-cases.cases ≡ map (carrying_case columns more) f.cases =
    c.in_ok-cases.ensures ∙ (λ i. map (λ (case : Case). with_posts (case.post ++ back i) case) (c.cases.ensures.cases i)) in
    subst (IsTransition (columns + more) (columns + more)) (sym made)
    (carrying-fits columns more f.cases
    (subst (λ n. IsTransition n columns f.cases) states.from (subst (λ n. IsTransition f.from n f.cases) states.to states.fits)))
