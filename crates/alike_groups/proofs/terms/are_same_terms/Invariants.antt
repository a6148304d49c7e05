use Rattle.std.proofs.Common.{◌≡◌, drop}
use Rattle.std.specs.Cmp.Lexicographic.{pointwise}
use Rattle.syntax_tree.specs.Term.{term_of}
use Rattle.alike_groups.specs.Tests.{is_same_term}
use Rattle.alike_groups.proofs.terms.are_same_terms.Given as goal

abbrev pub invariant-loop-place : goal.invariant-loop-place
invariant-loop-place l =
    pointwise (λ a b. is_same_term (term_of a) (term_of b)) l.terms l.others
    ≡ pointwise (λ a b. is_same_term (term_of a) (term_of b)) (drop l.place l.terms) (drop l.place l.others)
