use Rattle.std.proofs.Common.{◌≡◌, ◌++◌, drop}
use Rattle.transition_formula.specs.Rows.{negated_terms}
use Rattle.transition_formula.proofs.places.negated_terms.Given as goal

abbrev pub invariant-loop-mono : goal.invariant-loop-mono
invariant-loop-mono l = l.made ++ negated_terms (drop l.mono-index l.terms) ≡ negated_terms l.terms
