use Rattle.std.proofs.Common.{◌≡◌, drop}
use Rattle.polyhedra.specs.Bounds.{goals_of, goals_behind}
use Rattle.recurrence.specs.Progressions.{excess}
use Rattle.recurrence.specs.Words.{plain_progression}
use Rattle.recurrence.proofs.progressions.goals_over.Given as goal

abbrev pub invariant-loop-case : goal.invariant-loop-case
invariant-loop-case l =
    goals_behind l.goals (goals_of (excess (plain_progression l.progression)) (drop l.case-index l.turns.cases.now))
    ≡ goals_of (excess (plain_progression l.progression)) l.turns.cases.now
