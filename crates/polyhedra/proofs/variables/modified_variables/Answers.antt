use Rattle.std.proofs.Common.{sym, ◌∙◌}
use Rattle.polyhedra.specs.Tables.{is_moved_in}
use Rattle.polyhedra.proofs.ModifiedVariables.{filtered-with, filtered-without}
use Rattle.polyhedra.proofs.variables.modified_variables.Goals as goal
use Rattle.polyhedra.proofs.variables.modified_variables.Goals.{then-is_moved_in+in_ok-push, else-is_moved_in}

pub loop-v-preserved : goal.loop-v-preserved
loop-v-preserved c = elim c.if-is_moved_in.branch [
  | then-is_moved_in+in_ok-push w ↦ rw w.variables-is (filtered-with (is_moved_in c.args.tables.now) c.loop-v.v c.loop-v.variables _ c.loop-v.invariant (sym c.is_moved_in.ensures ∙ w.if-is_moved_in.true) w.in_ok-push.ensures.ok)
  | else-is_moved_in w ↦ rw w.variables-is (filtered-without (is_moved_in c.args.tables.now) c.loop-v.v c.loop-v.variables c.loop-v.invariant (sym c.is_moved_in.ensures ∙ w.if-is_moved_in.false))
]
