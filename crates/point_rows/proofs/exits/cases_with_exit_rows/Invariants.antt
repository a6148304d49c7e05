use Rattle.std.proofs.Common.{◌≡◌, ◌++◌, drop, map}
use Rattle.point_rows.specs.Exits.{case_with_exit_rows}
use Rattle.point_rows.proofs.exits.cases_with_exit_rows.Given as goal

abbrev pub invariant-loop-case : goal.invariant-loop-case
invariant-loop-case l =
    l.cases ++ map (case_with_exit_rows l.f.from l.rows) (drop l.case-index l.case-items) ≡ map (case_with_exit_rows l.f.from l.rows) l.f.cases
