use Rattle.std.proofs.Common.{◌∙◌, subst}
use Rattle.posing.proofs.Steps.{in_other_words}
use Rattle.polyhedra.specs.Laws.{HaveCanonicalRows}
use Rattle.phases.specs.Repetition.{repetition}
use Rattle.checked_tree.specs.Tree.{tree_of}
use Rattle.checked_tree.proofs.LogGains.{star-operand, error_in_other_words}
use Rattle.checked_tree.proofs.checked.Checked.turns_of.Goals as goal

pub repetition-requires : goal.repetition-requires
repetition-requires g c =
    star-operand (tree_of c.args.turn.now) _ _ (c.deref.ensures ∙ c.from-voc.ensures) c.formula-body.ensures.is c.formula-body.ensures.checked c.requires

pub returns-in_err-formula-clause-follows : goal.returns-in_err-formula-clause-follows
returns-in_err-formula-clause-follows g c =
    error_in_other_words c.in_err-formula.ensures.follows (let voc = c.deref.ensures ∙ c.from-voc.ensures in λ i. repetition (c.formula-body.ensures.is i) (voc i)) c.from_residual.ensures.1

pub returns-clause-follows : goal.returns-clause-follows
returns-clause-follows g c = in_other_words (let voc = c.deref.ensures ∙ c.from-voc.ensures in λ i. repetition (c.formula-body.ensures.is i) (voc i)) c.in_ok-formula.ensures.follows

pub returns-clause-canonical : goal.returns-clause-canonical
returns-clause-canonical g c = subst HaveCanonicalRows c.cases.ensures.cases c.see_cases.ensures
