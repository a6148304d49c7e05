use Rattle.std.proofs.Common.{List, arith, subst}
use Rattle.farkas_check.specs.Ratios.{Fraction}
use Rattle.elimination.specs.Spaces.{IsClearing}
use Rattle.elimination.proofs.RowSpans.{none_yet, next_row, few_at}
use Rattle.elimination.proofs.reduction.span_of.Goals as goal

pub loop-row-init : goal.loop-row-init
loop-row-init c = none_yet

pub loop-row-preserved : goal.loop-row-preserved
loop-row-preserved c =
    next_row c.args.rows.now c.loop-row.row-index c.row-item.result c.cleared_row.result c.loop-row.space c.with-space.result (omega arith) c.row-item.is
    (few_at c.args.rows.now c.loop-row.row-index c.row-item.result c.requires (omega arith) c.row-item.is)
    (subst (λ (row : List Fraction). IsClearing row c.cleared_row.result) c.as_slice.ensures c.cleared_row.ensures) c.loop-row.invariant c.with-space.ensures
