use Rattle.std.proofs.Common.{◌∙◌, subst, sym, refl}
use Rattle.syntax_tree.specs.WellFormed.{width_of}
use Rattle.posing.proofs.Steps.{at_end, value_first}
use Rattle.proc_summary.specs.Claims.{FitsIf}
use Rattle.proc_summary.specs.Flow.{formula_at}
use Rattle.newton_rounds.specs.Closure.{exit_from}
use Rattle.newton_rounds.proofs.Widths.{columns-are, some-nodes, states-at}
use Rattle.newton_rounds.proofs.exits.exit_from.Goals as goal

pub cells-requires-clause-source : goal.cells-requires-clause-source
cells-requires-clause-source g c = λ p is. some-nodes c.args.program.now c.args.proc p c.requires.formed is

pub returns-clause-follows : goal.returns-clause-follows
unfolding exit_from
returns-clause-follows g c = λ p is.
    let wide = c.columns_of-columns.ensures p is ∙ sym (columns-are c.args.program.now c.args.proc p c.requires.formed is c.args.known.now c.requires.known) in
    value_first _ (c.in_ok-cells.ensures.follows p is) refl
    (at_end (c.in_ok-formula_at.ensures ∙ (λ i. formula_at (wide i) (c.as_slice.ensures i) (c.in_ok-exit.ensures p is i))))

pub returns-clause-fits : goal.returns-clause-fits
returns-clause-fits g c = λ p is.
    let program = c.args.program.now in
    let proc = c.args.proc in
    let wide = c.columns_of-columns.ensures p is in
    subst (FitsIf (width_of program p)) (sym (c.in_ok-formula_at.ensures ∙ (λ i. formula_at (wide i) (c.as_slice.ensures i) c.in_ok-exit.exit)))
    (states-at program proc p c.requires.formed is c.args.known.now c.requires.known 0 c.in_ok-cells.cells (some-nodes program proc p c.requires.formed is) (c.in_ok-cells.ensures.fits p is) c.in_ok-exit.exit)
