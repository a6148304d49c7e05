use Rattle.linear_terms.specs.Auxiliaries.{occurs}
use Rattle.transition_formula.proofs.Loops.{any_item}
use Rattle.transition_formula.proofs.numbering.rows_renumbered.Goals as goal

pub renumbered_poly-requires-clause-order : goal.renumbered_poly-requires-clause-order
renumbered_poly-requires-clause-order c m n h k lt =
    let item = c.row-item.result in
    c.requires.order m n (any_item (λ row. occurs m row.poly) c.args.rows.now c.loop-row.row-index item item c.loop-row-test.true c.row-item.is h)
    (any_item (λ row. occurs n row.poly) c.args.rows.now c.loop-row.row-index item item c.loop-row-test.true c.row-item.is k) lt
