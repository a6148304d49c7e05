use Rattle.std.proofs.Common.{◌≡◌, ◌++◌, map, drop}
use Rattle.recurrence.specs.declared.terms.Recurrence.{Recurrence}
use Rattle.recurrence.proofs.stratifying.starts_of.Given as goal

abbrev pub invariant-loop-recurrence : goal.invariant-loop-recurrence
invariant-loop-recurrence l = l.starts ++ map (λ (r : Recurrence). r.start) (drop l.recurrence-index l.lower) ≡ map (λ (r : Recurrence). r.start) l.lower
