use Rattle.std.proofs.Common.{◌≡◌, drop}
use Rattle.polyhedra.specs.Bounds.{put_in_for}
use Rattle.polyhedra.specs.Kept.{objectives_of, objectives_behind}
use Rattle.polyhedra.proofs.bounds.objectives_after.Given as goal

abbrev pub invariant-loop-case : goal.invariant-loop-case
invariant-loop-case l = objectives_behind l.objectives (objectives_of (λ case. put_in_for case.post l.d) (drop l.case-index l.cases)) ≡ objectives_of (λ case. put_in_for case.post l.d) l.cases
