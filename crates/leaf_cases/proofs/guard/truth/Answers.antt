use Rattle.std.proofs.Common.{◌++◌, ap, ◌∙◌}
use Rattle.syntax_tree.specs.Term.{term_of}
use Rattle.leaf_cases.specs.Expression.{lists_of}
use Rattle.leaf_cases.specs.Guard.{guard_of}
use Rattle.leaf_cases.proofs.Guards.{truth_covered, truth_few, truth_holds, truth_held}
use Rattle.leaf_cases.proofs.guard.truth.Goals as goal

pub guard-requires : goal.guard-requires
guard-requires c = truth_covered c.args.columns (term_of c.args.e.now) c.as_slice.result.now c.in_ok-cases.cases c.requires.below c.in_ok-cases.ensures.exact c.as_slice.ensures

pub returns-clause-exact : goal.returns-clause-exact
returns-clause-exact c = c.in_ok-formula.ensures ∙ ap (guard_of c.args.columns) (c.as_slice.ensures ∙ c.in_ok-cases.ensures.exact)

pub returns-clause-few : goal.returns-clause-few
returns-clause-few c = truth_few c.args.columns (term_of c.args.e.now) c.in_ok-formula.formula c.requires.operators (c.in_ok-formula.ensures ∙ ap (guard_of c.args.columns) (c.as_slice.ensures ∙ c.in_ok-cases.ensures.exact))

pub returns-clause-at_least : goal.returns-clause-at_least
returns-clause-at_least c state long holds =
    truth_holds c.args.columns (term_of c.args.e.now) c.in_ok-formula.formula c.requires.below (c.in_ok-formula.ensures ∙ ap (guard_of c.args.columns) (c.as_slice.ensures ∙ c.in_ok-cases.ensures.exact)) state long holds

pub returns-clause-at_most : goal.returns-clause-at_most
returns-clause-at_most c before after kept holds =
    truth_held c.args.columns (term_of c.args.e.now) c.in_ok-formula.formula c.args.losses.now c.append.new.self c.requires.below
    (c.in_ok-formula.ensures ∙ ap (guard_of c.args.columns) (c.as_slice.ensures ∙ c.in_ok-cases.ensures.exact)) (c.in_ok-append.ensures.ok ∙ ap (λ more. c.args.losses.now ++ more) (c.in_ok-cases.ensures.noted ∙ ap (λ front. front ++ (lists_of (term_of c.args.e.now)).truth.lost) c.new-lost.ensures)) kept before after holds
