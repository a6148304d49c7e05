use Rattle.std.proofs.Common.{refl, sym, ap, subst, ◌∙◌}
use Rattle.checked_tree.specs.Graph.{Graph}
use Rattle.checked_tree.specs.Grown.{formulas_of}
use Rattle.checked_tree.specs.Law.{AreFittedCells, CellsHold}
use Rattle.checked_tree.proofs.LogGains.{error_in_other_words, as_value, halts_plain}
use Rattle.checked_tree.proofs.evaluating.evaluate_formulas.Goals as goal

pub returns-in_err-cells-clause-follows : goal.returns-in_err-cells-clause-follows
returns-in_err-cells-clause-follows g c = error_in_other_words c.in_err-cells.ensures.follows refl c.from_residual.ensures.1

pub returns-in_err-formulas-clause-follows : goal.returns-in_err-formulas-clause-follows
returns-in_err-formulas-clause-follows g c = halts_plain c.in_ok-cells.ensures.follows c.from_residual-in_err-formulas.result c.from_residual-in_err-formulas.ensures.1

pub returns-clause-follows : goal.returns-clause-follows
returns-clause-follows g c = as_value (c.in_ok-formulas.ensures ∙ ap formulas_of c.as_slice.ensures) c.in_ok-cells.ensures.follows

pub returns-clause-holds : goal.returns-clause-holds
returns-clause-holds g c =
    let graph : Graph = record { links = c.args.links.now; leaves = c.args.leaves.now; nodes = c.args.nodes.now } in
    subst (CellsHold graph c.args.source) (sym (c.in_ok-formulas.ensures ∙ ap formulas_of c.as_slice.ensures)) c.in_ok-cells.ensures.holds

pub returns-clause-fits : goal.returns-clause-fits
returns-clause-fits g c =
    let graph : Graph = record { links = c.args.links.now; leaves = c.args.leaves.now; nodes = c.args.nodes.now } in
    subst (AreFittedCells graph c.args.source) (sym (c.in_ok-formulas.ensures ∙ ap formulas_of c.as_slice.ensures)) c.in_ok-cells.ensures.fits
