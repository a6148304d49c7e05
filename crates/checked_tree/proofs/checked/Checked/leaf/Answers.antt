use Rattle.std.specs.Prelude.{◌≤◌, length}
use Rattle.std.proofs.Common.{sym, ap, subst, ◌∙◌}
use Rattle.posing.proofs.Steps.{in_other_words}
use Rattle.polyhedra.specs.Laws.{HaveCanonicalRows}
use Rattle.checked_tree.specs.Evaluation.{leaf_formula}
use Rattle.checked_tree.specs.Law.{IsEnd, IsFrom}
use Rattle.checked_tree.specs.declared.mark.LogMark.{LogMark}
use Rattle.checked_tree.specs.Tree.{own_of, formula_of, tree_of}
use Rattle.checked_tree.specs.Tree as tree
use Rattle.checked_tree.proofs.LogGains.{made-by, new-by, notes-within, answers-within, fails, halts, as_value}
use Rattle.checked_tree.proofs.checked.Checked.leaf.Goals as goal

pub leaf-requires-clause-between : goal.leaf-requires-clause-between
leaf-requires-clause-between g c =
    subst (λ v. IsFrom v c.deref-2.result.now c.args.link.given.now) (sym c.deref.ensures)
    (subst (λ v. IsFrom c.args.link.from.now.value v c.args.link.given.now) (sym c.deref-2.ensures) c.requires.between)

pub leaf-requires-clause-start : goal.leaf-requires-clause-start
leaf-requires-clause-start g c = subst IsEnd (sym c.deref.ensures) c.requires.start

pub leaf-requires-clause-end : goal.leaf-requires-clause-end
leaf-requires-clause-end g c = subst IsEnd (sym c.deref-2.ensures) c.requires.end

pub of_leaf-requires-clause-step : goal.of_leaf-requires-clause-step
of_leaf-requires-clause-step g c = record {
  start = c.requires.start;
  end = c.requires.end;
  between = c.requires.between;
  solvable = c.requires.solvable;
  given_canonical = c.requires.canonical;
  made = made-by (in_other_words (λ i. leaf_formula c.args.link.given.now (c.deref.ensures i) (c.deref-2.ensures i)) c.in_ok-formula.ensures) c.of-mark.result c.of-mark.ensures _ _ (subst HaveCanonicalRows c.cases.ensures.cases c.see_cases.ensures);
}

pub returns-clause-from_is : goal.returns-clause-from_is
returns-clause-from_is g c = ap (λ t. (own_of t).from) c.in_ok-tree.ensures.is

pub returns-clause-to_is : goal.returns-clause-to_is
returns-clause-to_is g c = ap (λ t. (own_of t).to) c.in_ok-tree.ensures.is

pub of_leaf-requires-clause-notes : goal.of_leaf-requires-clause-notes
of_leaf-requires-clause-notes g c = subst (λ (m : LogMark). m.notes ≤ length c.leaf.new.log.notes) (sym c.of-mark.ensures) (notes-within (in_other_words (λ i. leaf_formula c.args.link.given.now (c.deref.ensures i) (c.deref-2.ensures i)) c.in_ok-formula.ensures))

pub of_leaf-requires-clause-answers : goal.of_leaf-requires-clause-answers
of_leaf-requires-clause-answers g c = subst (λ (m : LogMark). m.answers ≤ length c.leaf.new.log.answers) (sym c.of-mark.ensures) (answers-within (in_other_words (λ i. leaf_formula c.args.link.given.now (c.deref.ensures i) (c.deref-2.ensures i)) c.in_ok-formula.ensures))

pub returns-in_err-formula-clause-follows : goal.returns-in_err-formula-clause-follows
returns-in_err-formula-clause-follows g c = fails c.from_residual.result (λ t. formula_of (tree_of t)) c.in_err-formula.ensures (λ i. leaf_formula c.args.link.given.now (c.deref.ensures i) (c.deref-2.ensures i)) c.from_residual.ensures.1

pub returns-in_err-tree-clause-follows : goal.returns-in_err-tree-clause-follows
returns-in_err-tree-clause-follows g c = halts (in_other_words (λ i. leaf_formula c.args.link.given.now (c.deref.ensures i) (c.deref-2.ensures i)) c.in_ok-formula.ensures) c.from_residual-in_err-tree.result (λ t. formula_of (tree_of t)) c.from_residual-in_err-tree.ensures.1

pub returns-clause-follows : goal.returns-clause-follows
returns-clause-follows g c = as_value (ap formula_of c.in_ok-tree.ensures.is) (in_other_words (λ i. leaf_formula c.args.link.given.now (c.deref.ensures i) (c.deref-2.ensures i)) c.in_ok-formula.ensures)

pub returns-clause-is : goal.returns-clause-is
returns-clause-is g c = c.in_ok-tree.ensures.is ∙ (ap (tree.Leaf c.args.link.number c.args.link.given.now) (sym (ap own_of c.in_ok-tree.ensures.is)))

pub returns-clause-new : goal.returns-clause-new
returns-clause-new g c = new-by (in_other_words (λ i. leaf_formula c.args.link.given.now (c.deref.ensures i) (c.deref-2.ensures i)) c.in_ok-formula.ensures) c.of-mark.result c.of-mark.ensures (tree_of c.in_ok-tree.tree) _ _ (ap own_of c.in_ok-tree.ensures.is) c.in_ok-tree.ensures.checked
