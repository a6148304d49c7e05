use Rattle.std.proofs.Common.{drop}
use Rattle.posing.specs.Follows.{Leads}
use Rattle.posing.specs.Posing.{each}
use Rattle.recurrence.specs.Words.{by_term}
use Rattle.recurrence.proofs.progressions.with_terms.Given as goal

abbrev pub invariant-loop-term : goal.invariant-loop-term
invariant-loop-term g l =
    Leads g.O.Oracle.asking l.initial.oracle l.oracle l.initial.log l.log (each (by_term l.turns l.change) l.fn.rows l.turns.terms.now) (each (by_term l.turns l.change) l.made (drop l.term-index l.turns.terms.now))
