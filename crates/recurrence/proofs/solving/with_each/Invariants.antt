use Rattle.std.proofs.Common.{◌≡◌, drop, fold}
use Rattle.recurrence.specs.Products.{with_term}
use Rattle.recurrence.proofs.solving.with_each.Given as goal

abbrev pub invariant-loop-term : goal.invariant-loop-term
invariant-loop-term l = fold (with_term l.variables) l.all (drop l.term-index l.terms) ≡ fold (with_term l.variables) l.fn.known l.terms
