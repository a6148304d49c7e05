use Rattle.std.proofs.Common.{◌≡◌, length}
use Rattle.std.specs.Cmp.Lexicographic.{pointwise}
use Rattle.linear_terms.specs.Equality.{term_eq}
use Rattle.transition_formula.specs.Rows.{negated_terms}
use Rattle.transition_formula.proofs.tidy.have_opposite_terms.Given as goal

abbrev pub invariant-loop-first : goal.invariant-loop-first
invariant-loop-first l = pointwise term_eq (negated_terms l.left) l.right ≡ pointwise term_eq (negated_terms l.terms) l.others

abbrev pub decreases-loop-first : goal.decreases-loop-first
decreases-loop-first l = length l.left
