use Rattle.std.proofs.Common.{◌≡◌, drop}
use Rattle.transition_formula.specs.Order.{first_solved}
use Rattle.transition_formula.proofs.equations.first_solved.Given as goal

abbrev pub invariant-loop-mono : goal.invariant-loop-mono
invariant-loop-mono l = first_solved l.terms (drop l.mono-index l.terms) ≡ first_solved l.terms l.terms
