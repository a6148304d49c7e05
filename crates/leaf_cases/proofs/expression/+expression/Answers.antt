use Rattle.std.proofs.Common.{[], ◌∷◌, refl}
use Rattle.syntax_tree.specs.Term.{term_of}
use Rattle.leaf_cases.specs.declared.expression.Sought.TheVariants as sought
use Rattle.leaf_cases.specs.declared.step.Arithmetic.TheVariants.{Negate}
use Rattle.leaf_cases.specs.declared.step.CaseStep.TheVariants.{Value}
use Rattle.leaf_cases.proofs.Ready.{found_ready, found_few, stepped_few, pairs_few, calculated_few}
use Rattle.leaf_cases.proofs.expression.+expression.Goals as goal

pub calculation_cases-cases_by-requires : goal.calculation_cases-cases_by-requires
calculation_cases-cases_by-requires t c = pairs_few (term_of c.args.left.now) (term_of c.args.right.now) c.requires.left c.requires.right c.as_slice.result.now c.in_ok-pairs.pairs c.in_ok-pairs.ensures.exact c.as_slice.ensures

pub calculation_cases-number_cases-requires : goal.calculation_cases-number_cases-requires
calculation_cases-number_cases-requires t c =
    calculated_few (term_of c.args.left.now) (term_of c.args.right.now) c.requires.left c.requires.right c.args.step c.as_slice.result.now c.in_ok-pairs.pairs c.in_ok-values.values c.in_ok-pairs.ensures.exact c.as_slice.ensures c.in_ok-values.ensures.exact

pub cases_of_comparison-tests_by-requires : goal.cases_of_comparison-tests_by-requires
cases_of_comparison-tests_by-requires t c = pairs_few (term_of c.args.left.now) (term_of c.args.right.now) c.requires.left c.requires.right c.as_slice.result.now c.in_ok-pairs.pairs c.in_ok-pairs.ensures.exact c.as_slice.ensures

pub joint_cases-both-requires-clause-firsts : goal.joint_cases-both-requires-clause-firsts
joint_cases-both-requires-clause-firsts t c = found_ready (term_of c.args.left.now) c.args.first c.as_slice.result.now c.in_ok-firsts.firsts c.requires.left c.in_ok-firsts.ensures.exact c.as_slice.ensures

pub joint_cases-both-requires-clause-seconds : goal.joint_cases-both-requires-clause-seconds
joint_cases-both-requires-clause-seconds t c = found_ready (term_of c.args.right.now) c.args.second c.as_slice-2.result.now c.in_ok-seconds.seconds c.requires.right c.in_ok-seconds.ensures.exact c.as_slice-2.ensures

pub sign_cases-number_cases-requires : goal.sign_cases-number_cases-requires
sign_cases-number_cases-requires t c = found_few (term_of c.args.inner.now) sought.Value c.in_ok-values-in-Plus.values c.in_ok-values-in-Plus.values c.requires c.in_ok-values-in-Plus.ensures.exact refl

pub sign_cases-cases_by-requires : goal.sign_cases-cases_by-requires
sign_cases-cases_by-requires t c = found_few (term_of c.args.inner.now) sought.Value c.as_slice.result.now c.in_ok-values-in-Minus.values c.requires c.in_ok-values-in-Minus.ensures.exact c.as_slice.ensures

pub sign_cases-number_cases-requires-in-Minus : goal.sign_cases-number_cases-requires-in-Minus
sign_cases-number_cases-requires-in-Minus t c =
    stepped_few (term_of c.args.inner.now) (Value Negate ∷ []) c.as_slice.result.now c.in_ok-values-in-Minus.values c.in_ok-turned-in-Minus.turned c.requires c.in_ok-values-in-Minus.ensures.exact c.as_slice.ensures c.in_ok-turned-in-Minus.ensures.exact
