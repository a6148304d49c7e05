use Rattle.std.proofs.Common.{◌∙◌, subst}
use Rattle.posing.proofs.Steps.{in_other_words}
use Rattle.polyhedra.specs.Laws.{HaveCanonicalRows}
use Rattle.checked_tree.specs.Evaluation.{sequence_formula}
use Rattle.checked_tree.specs.Tree.{tree_of}
use Rattle.checked_tree.proofs.LogGains.{seq-operands, error_in_other_words}
use Rattle.checked_tree.proofs.checked.Checked.sequence_of.Goals as goal

pub sequence-requires : goal.sequence-requires
sequence-requires g c =
    seq-operands (tree_of c.args.first.now) (tree_of c.args.second.now) _ _ _ _ (c.deref.ensures ∙ c.from-from.ensures) (c.deref-2.ensures ∙ c.to-to.ensures) c.formula-one.ensures.is c.formula-other.ensures.is
    c.formula-one.ensures.checked c.formula-other.ensures.checked c.requires

pub returns-in_err-formula-clause-follows : goal.returns-in_err-formula-clause-follows
returns-in_err-formula-clause-follows g c =
    error_in_other_words c.in_err-formula.ensures (let from = c.deref.ensures ∙ c.from-from.ensures in let to = c.deref-2.ensures ∙ c.to-to.ensures in λ i. sequence_formula (c.formula-one.ensures.is i) (c.formula-other.ensures.is i) (from i) (to i)) c.from_residual.ensures.1

pub returns-clause-follows : goal.returns-clause-follows
returns-clause-follows g c = in_other_words (let from = c.deref.ensures ∙ c.from-from.ensures in let to = c.deref-2.ensures ∙ c.to-to.ensures in λ i. sequence_formula (c.formula-one.ensures.is i) (c.formula-other.ensures.is i) (from i) (to i)) c.in_ok-formula.ensures

pub returns-clause-canonical : goal.returns-clause-canonical
returns-clause-canonical g c = subst HaveCanonicalRows c.cases.ensures.cases c.see_cases.ensures
