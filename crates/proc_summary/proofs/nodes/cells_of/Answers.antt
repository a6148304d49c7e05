use Rattle.std.proofs.Common.{refl, sym, ap, subst, ◌∙◌}
use Rattle.checked_tree.specs.Grown.{formulas_of}
use Rattle.checked_tree.specs.Law.{AreFittedCells}
use Rattle.checked_tree.proofs.LogGains.{error_in_other_words, as_value, halts_plain}
use Rattle.proc_summary.specs.Claims.{HoldsOfWalks}
use Rattle.proc_summary.specs.Subject.{graph_by, subject_of}
use Rattle.proc_summary.proofs.nodes.cells_of.Goals as goal

pub returns-in_err-trees-clause-follows : goal.returns-in_err-trees-clause-follows
returns-in_err-trees-clause-follows g c = λ p is. error_in_other_words (c.in_err-trees.ensures.follows p is) refl c.from_residual.ensures.1

pub returns-in_err-cells-clause-follows : goal.returns-in_err-cells-clause-follows
returns-in_err-cells-clause-follows g c = λ p is. halts_plain (c.in_ok-trees.ensures.follows p is) c.from_residual-in_err-cells.result c.from_residual-in_err-cells.ensures.1

pub returns-clause-follows : goal.returns-clause-follows
returns-clause-follows g c = λ p is. as_value (c.in_ok-cells.ensures ∙ ap formulas_of c.as_slice.ensures) (c.in_ok-trees.ensures.follows p is)

pub returns-clause-fits : goal.returns-clause-fits
returns-clause-fits g c = λ p is.
    subst (AreFittedCells (graph_by (subject_of c.args.own.program.now p c.args.own.known.now)) c.args.source)
    (sym (c.in_ok-cells.ensures ∙ ap formulas_of c.as_slice.ensures)) (c.in_ok-trees.ensures.fits p is)

pub returns-clause-holds : goal.returns-clause-holds
returns-clause-holds g c = λ p is.
    subst (HoldsOfWalks c.args.own.program.now p c.args.own.known.now c.args.source)
    (sym (c.in_ok-cells.ensures ∙ ap formulas_of c.as_slice.ensures)) (c.in_ok-trees.ensures.holds p is)
