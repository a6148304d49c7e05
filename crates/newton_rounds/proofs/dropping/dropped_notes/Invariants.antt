use Rattle.std.proofs.Common.{◌≡◌, ◌++◌, drop}
use Rattle.std.specs.List.{flat_map}
use Rattle.newton_rounds.specs.Candidates.{drop_notes_in, dropped_notes}
use Rattle.newton_rounds.specs.Closure.{with_places_from}
use Rattle.newton_rounds.proofs.dropping.dropped_notes.Given as goal

abbrev pub invariant-loop-place : goal.invariant-loop-place
invariant-loop-place l = l.notes ++ flat_map drop_notes_in (with_places_from l.place (drop l.place l.judged)) ≡ dropped_notes l.judged
