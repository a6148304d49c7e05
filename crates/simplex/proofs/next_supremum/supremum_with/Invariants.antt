use Rattle.simplex.specs.Suprema.{frame_over, case_over}
use Rattle.simplex.proofs.next_supremum.supremum_with.Given as goal

abbrev pub ghost-ray_supremum : goal.ghost-ray_supremum
ghost-ray_supremum a = frame_over a.own.now a.goal.rows.now a.goal.objective.now

abbrev pub ghost-supremum_from_corner : goal.ghost-supremum_from_corner
ghost-supremum_from_corner a = case_over a.columns.now a.rows.now a.objective.now
