use Rattle.std.proofs.Common.{sym, ◌∙◌}
use Rattle.polyhedra.specs.Changes.{occurs_in}
use Rattle.polyhedra.proofs.ModifiedVariables.{filtered-with, filtered-without}
use Rattle.polyhedra.proofs.variables.occurring.Goals as goal
use Rattle.polyhedra.proofs.variables.occurring.Goals.{then-occurs_in+in_ok-push, else-occurs_in}

pub loop-v-preserved : goal.loop-v-preserved
loop-v-preserved c = elim c.if-occurs_in.branch [
  | then-occurs_in+in_ok-push w ↦ rw w.columns-is (filtered-with (occurs_in c.args.cases.now) c.loop-v.v c.loop-v.columns _ c.loop-v.invariant (sym c.occurs_in.ensures ∙ w.if-occurs_in.true) w.in_ok-push.ensures.ok)
  | else-occurs_in w ↦ rw w.columns-is (filtered-without (occurs_in c.args.cases.now) c.loop-v.v c.loop-v.columns c.loop-v.invariant (sym c.occurs_in.ensures ∙ w.if-occurs_in.false))
]
