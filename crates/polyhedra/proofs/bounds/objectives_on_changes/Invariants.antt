use Rattle.std.proofs.Common.{◌≡◌, true, drop}
use Rattle.linear_terms.specs.Expressions.{put_into}
use Rattle.polyhedra.specs.Changes.{change}
use Rattle.polyhedra.specs.Bounds.{for_entries}
use Rattle.polyhedra.specs.Kept.{objectives_of, objectives_behind}
use Rattle.polyhedra.proofs.bounds.objectives_on_changes.Given as goal

abbrev pub invariant-loop-place : goal.invariant-loop-place
invariant-loop-place l =
    objectives_behind l.objectives (objectives_of (λ case. put_into (for_entries (change true case)) l.d) (drop l.place l.changes.cases.now)) ≡ objectives_of (λ case. put_into (for_entries (change true case)) l.d) l.changes.cases.now
