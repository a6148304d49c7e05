use Rattle.std.proofs.Common.{◌≡◌, Ok, drop}
use Rattle.polyhedra.specs.Kept.{objectives_of, objectives_behind}
use Rattle.polyhedra.proofs.bounds.objectives_before.Given as goal

abbrev pub invariant-loop-case : goal.invariant-loop-case
invariant-loop-case l = objectives_behind l.objectives (objectives_of (λ case. Ok l.d) (drop l._case-index l.cases)) ≡ objectives_of (λ case. Ok l.d) l.cases
