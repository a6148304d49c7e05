use Rattle.std.proofs.Common.{◌≡◌, ◌++◌, map, drop}
use Rattle.recurrence.specs.declared.terms.StratumTerm.{StratumTerm}
use Rattle.recurrence.proofs.stratifying.recurrences_of.Given as goal

abbrev pub invariant-loop-term : goal.invariant-loop-term
invariant-loop-term l = l.recurrences ++ map (λ (t : StratumTerm). t.recurrence) (drop l.term-index l.terms) ≡ map (λ (t : StratumTerm). t.recurrence) l.terms
