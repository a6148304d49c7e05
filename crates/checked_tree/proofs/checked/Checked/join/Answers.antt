use Rattle.std.specs.Prelude.{◌≤◌, length}
use Rattle.std.proofs.Common.{refl, sym, ap, subst, ◌∙◌}
use Rattle.checked_tree.specs.declared.mark.LogMark.{LogMark}
use Rattle.checked_tree.specs.Tree.{own_of, formula_of, tree_of}
use Rattle.checked_tree.specs.Tree as tree
use Rattle.checked_tree.proofs.LogGains.{made-by, new-by, notes-within, answers-within, fails, halts, as_value}
use Rattle.checked_tree.proofs.checked.Checked.join.Goals as goal

pub of_join-requires-clause-step : goal.of_join-requires-clause-step
of_join-requires-clause-step g c =
    record { from_is = refl; to_is = refl; starts = c.requires.starts; ends = c.requires.ends; made = made-by c.in_ok-formula.ensures.follows c.of-mark.result c.of-mark.ensures _ _ c.in_ok-formula.ensures.canonical }

pub of_join-requires-clause-notes : goal.of_join-requires-clause-notes
of_join-requires-clause-notes g c = subst (λ (m : LogMark). m.notes ≤ length c.either_of.new.log.notes) (sym c.of-mark.ensures) (notes-within c.in_ok-formula.ensures.follows)

pub of_join-requires-clause-answers : goal.of_join-requires-clause-answers
of_join-requires-clause-answers g c = subst (λ (m : LogMark). m.answers ≤ length c.either_of.new.log.answers) (sym c.of-mark.ensures) (answers-within c.in_ok-formula.ensures.follows)

pub returns-in_err-formula-clause-follows : goal.returns-in_err-formula-clause-follows
returns-in_err-formula-clause-follows g c = fails c.from_residual.result (λ t. formula_of (tree_of t)) c.in_err-formula.ensures.follows refl c.from_residual.ensures.1

pub returns-in_err-tree-clause-follows : goal.returns-in_err-tree-clause-follows
returns-in_err-tree-clause-follows g c = halts c.in_ok-formula.ensures.follows c.from_residual-in_err-tree.result (λ t. formula_of (tree_of t)) c.from_residual-in_err-tree.ensures.1

pub returns-clause-follows : goal.returns-clause-follows
returns-clause-follows g c = as_value (ap formula_of c.in_ok-tree.ensures.is) c.in_ok-formula.ensures.follows

pub returns-clause-is : goal.returns-clause-is
returns-clause-is g c = c.in_ok-tree.ensures.is ∙ (ap (tree.Join (tree_of c.args.left.now) (tree_of c.args.right.now)) (sym (ap own_of c.in_ok-tree.ensures.is)))

pub returns-clause-new : goal.returns-clause-new
returns-clause-new g c = new-by c.in_ok-formula.ensures.follows c.of-mark.result c.of-mark.ensures (tree_of c.in_ok-tree.tree) _ _ (ap own_of c.in_ok-tree.ensures.is) c.in_ok-tree.ensures.checked
