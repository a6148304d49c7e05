use Rattle.std.proofs.Common.{◌≡◌, ◌++◌, drop}
use Rattle.linear_terms.specs.Row.{divided_terms}
use Rattle.linear_terms.proofs.normalise.quotients.Given as goal

abbrev pub invariant-loop-mono : goal.invariant-loop-mono
invariant-loop-mono l = l.made ++ divided_terms l.divisor (drop l.mono-index l.terms) ≡ divided_terms l.divisor l.terms
