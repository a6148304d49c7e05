use Rattle.std.proofs.Common.{◌≡◌, ◌++◌, map, drop}
use Rattle.point_steps.specs.States.{told_case}
use Rattle.point_steps.proofs.telling.add_told.Given as goal

abbrev pub invariant-loop-case : goal.invariant-loop-case
invariant-loop-case l = l.cases ++ map (told_case l.front l.behind) (drop l.case-index l.case-items) ≡ l.initial.cases ++ map (told_case l.front l.behind) l.f.cases
