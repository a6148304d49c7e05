use Rattle.simplex.specs.Suprema.{case_over}
use Rattle.simplex.proofs.next_supremum.supremum_over.Given as goal

abbrev pub ghost-supremum_from_corner : goal.ghost-supremum_from_corner
ghost-supremum_from_corner a = case_over a.columns.now a.rows.now a.objective.now
