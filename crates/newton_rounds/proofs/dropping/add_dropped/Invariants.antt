use Rattle.std.proofs.Common.{◌≡◌, ◌++◌, drop}
use Rattle.newton_rounds.specs.Candidates.{drop_notes_in}
use Rattle.newton_rounds.proofs.dropping.add_dropped.Given as goal

abbrev pub invariant-loop-one : goal.invariant-loop-one
invariant-loop-one l = l.notes ++ drop_notes_in (l.place, drop l.one-index l.judged) ≡ l.initial.notes ++ drop_notes_in (l.place, l.judged)
