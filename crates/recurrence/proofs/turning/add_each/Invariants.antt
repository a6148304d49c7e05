use Rattle.std.proofs.Common.{◌≡◌, drop, fold}
use Rattle.polyhedra.specs.Directions.{with_new}
use Rattle.recurrence.specs.Star.{same_term}
use Rattle.recurrence.proofs.turning.add_each.Given as goal

abbrev pub invariant-loop-term : goal.invariant-loop-term
invariant-loop-term l = fold (with_new same_term) l.made (drop l.term-index l.terms) ≡ fold (with_new same_term) l.initial.made l.terms
