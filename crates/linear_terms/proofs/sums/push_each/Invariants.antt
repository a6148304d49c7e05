use Rattle.std.proofs.Common.{◌≡◌, ◌++◌, take}
use Rattle.linear_terms.proofs.sums.push_each.Given as goal

abbrev pub invariant-loop-term : goal.invariant-loop-term
invariant-loop-term l = l.made ≡ l.fn.made ++ take l.term-index l.terms
