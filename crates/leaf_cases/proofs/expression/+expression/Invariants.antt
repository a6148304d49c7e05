use Rattle.std.proofs.Common.{◌+◌, ◌*◌}
use Rattle.syntax_tree.specs.Term.{term_of}
use Rattle.syntax_tree.specs.WellFormed.{operators_of}
use Rattle.leaf_cases.proofs.expression.+expression.Given as goal

abbrev pub decreases-cases_of : goal.decreases-cases_of
decreases-cases_of l = 8 * operators_of (term_of l.e.now)

abbrev pub decreases-sign_cases : goal.decreases-sign_cases
decreases-sign_cases l = 8 * operators_of (term_of l.inner.now) + 1

abbrev pub decreases-operator_cases : goal.decreases-operator_cases
decreases-operator_cases l = 8 * (operators_of (term_of l.left.now) + operators_of (term_of l.right.now)) + 4

abbrev pub decreases-calculation_cases : goal.decreases-calculation_cases
decreases-calculation_cases l = 8 * (operators_of (term_of l.left.now) + operators_of (term_of l.right.now)) + 3

abbrev pub decreases-comparison_cases : goal.decreases-comparison_cases
decreases-comparison_cases l = 8 * (operators_of (term_of l.left.now) + operators_of (term_of l.right.now)) + 3

abbrev pub decreases-conjunction_cases : goal.decreases-conjunction_cases
decreases-conjunction_cases l = 8 * (operators_of (term_of l.left.now) + operators_of (term_of l.right.now)) + 3

abbrev pub decreases-disjunction_cases : goal.decreases-disjunction_cases
decreases-disjunction_cases l = 8 * (operators_of (term_of l.left.now) + operators_of (term_of l.right.now)) + 3

abbrev pub decreases-cases_of_comparison : goal.decreases-cases_of_comparison
decreases-cases_of_comparison l = 8 * (operators_of (term_of l.left.now) + operators_of (term_of l.right.now)) + 2

abbrev pub decreases-early_cases : goal.decreases-early_cases
decreases-early_cases l = 8 * (operators_of (term_of l.left.now) + operators_of (term_of l.right.now)) + 2

abbrev pub decreases-joint_cases : goal.decreases-joint_cases
decreases-joint_cases l = 8 * (operators_of (term_of l.left.now) + operators_of (term_of l.right.now)) + 1
