use Rattle.std.proofs.Common.{rules, ◌≡◌, [], sym, subst}
use Rattle.farkas_check.specs.Columns.{columns, monos_of}
use Rattle.farkas_check.proofs.Walks.{IsOrdered, IsOrdered-columns}
use Rattle.simplex.proofs.next_supremum.corner_over.Goals as goal

pub stage_for_goal-requires-clause-ordered : goal.stage_for_goal-requires-clause-ordered
stage_for_goal-requires-clause-ordered c =
    let own : c.as_slice-2.result.now ≡ columns c.ending.inside.rows [] = search rules in
    subst IsOrdered (sym own) (IsOrdered-columns (monos_of c.ending.inside.rows []))
