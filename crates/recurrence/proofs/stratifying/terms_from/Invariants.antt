use Rattle.std.proofs.Common.{◌≡◌, map}
use Rattle.std.specs.List.{filter}
use Rattle.recurrence.specs.Strata.{term_of, has_terms}
use Rattle.recurrence.proofs.stratifying.terms_from.Given as goal

abbrev pub invariant-loop-relation : goal.invariant-loop-relation
invariant-loop-relation l = l.terms ≡ map (term_of l.variables l.lower) (filter has_terms l.yielded)
