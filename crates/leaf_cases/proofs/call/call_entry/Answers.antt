use Rattle.std.proofs.Common.{◌++◌, map, take, sym, subst, ◌∙◌, arith}
use Rattle.std.proofs.lemmas.List.{length-map}
use Rattle.syntax_tree.specs.Term.{term_of}
use Rattle.transition_formula.specs.Meaning.{Holds}
use Rattle.leaf_cases.specs.Edges.{arguments_of, entering}
use Rattle.leaf_cases.proofs.Arguments.{arguments_fit_as}
use Rattle.leaf_cases.proofs.EdgeFits.{entering_few, first_is}
use Rattle.leaf_cases.proofs.EdgeMeanings.{entering_holds}
use Rattle.leaf_cases.proofs.call.call_entry.Goals as goal

pub entering-requires-clause-cases : goal.entering-requires-clause-cases
entering-requires-clause-cases c =
    arguments_fit_as c.args.columns c.args.args.now _ c.as_slice.result.now c.in_ok-values.values c.requires.below (omega arith) c.in_ok-values.ensures.exact c.as_slice.ensures

pub returns-clause-exact : goal.returns-clause-exact
returns-clause-exact c =
    first_is c.args.columns c.args.globals c.args.args.now _ c.as_slice.result.now c.in_ok-values.values c.in_ok-formula.formula (omega arith) c.in_ok-values.ensures.exact c.as_slice.ensures c.in_ok-formula.ensures
    ∙ (λ i. entering c.args.columns c.args.globals (length-map c.args.args.now term_of i) (arguments_of (map term_of c.args.args.now)).cases)

pub returns-clause-few : goal.returns-clause-few
returns-clause-few c =
    entering_few c.args.columns c.args.globals (map term_of c.args.args.now) c.in_ok-formula.formula c.requires.below c.requires.operators
    (first_is c.args.columns c.args.globals c.args.args.now _ c.as_slice.result.now c.in_ok-values.values c.in_ok-formula.formula (omega arith) c.in_ok-values.ensures.exact c.as_slice.ensures c.in_ok-formula.ensures)

pub returns-clause-at_least : goal.returns-clause-at_least
returns-clause-at_least c = λ state values long are.
    subst (λ f. Holds f state (take c.args.globals state ++ values))
    (sym (first_is c.args.columns c.args.globals c.args.args.now _ c.as_slice.result.now c.in_ok-values.values c.in_ok-formula.formula (omega arith) c.in_ok-values.ensures.exact c.as_slice.ensures c.in_ok-formula.ensures))
    (entering_holds c.args.columns c.args.globals (map term_of c.args.args.now) c.requires.globals c.requires.below state values long are)
