use Rattle.std.proofs.Common.{[], subst, sym}
use Rattle.path_expr.specs.Elimination.{path_at}
use Rattle.checked_tree.specs.Plan.{ArePathsOf}
use Rattle.checked_tree.proofs.NumberedKeys.{cell-of}
use Rattle.checked_tree.proofs.plan.elimination_plan.Goals as goal

pub returns-in-Ok : goal.returns-in-Ok
returns-in-Ok c = record {
  order_is = c.in-Ok.ensures.run.answers [] (subst (λ ns. ArePathsOf c.new.result.keys [] ns) (sym c.new-2.ensures) tt);
  one_each = c.in-Ok.ensures.length;
  cells_are = λ node cell e.
      cell-of _ _ c.reach.new.algebra c.reach.new.algebra.keys.keys (path_at c.args.nodes c.args.links.now c.args.source node) cell c.args.source node (λ p n h. h)
      (c.in-Ok.ensures.cells.at node cell e);
}
