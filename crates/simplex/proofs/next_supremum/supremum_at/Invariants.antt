use Rattle.simplex.specs.Suprema.{frame_over}
use Rattle.simplex.proofs.next_supremum.supremum_at.Given as goal

abbrev pub ghost-ray_supremum : goal.ghost-ray_supremum
ghost-ray_supremum a = frame_over a.own.now a.goal.rows.now a.goal.objective.now
