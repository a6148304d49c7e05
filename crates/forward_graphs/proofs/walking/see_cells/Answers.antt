use Rattle.std.proofs.Common.{sym, subst, arith}
use Rattle.std.proofs.lemmas.List.{take_all}
use Rattle.std.proofs.lemmas.List.Elements.{All-more, All-same, recursion_from_All}
use Rattle.forward_graphs.specs.Law.{IsCanonicalCell}
use Rattle.forward_graphs.proofs.walking.see_cells.Goals as goal

pub loop-cell-preserved : goal.loop-cell-preserved
loop-cell-preserved c =
    All-more IsCanonicalCell c.args.cells.now c.loop-cell.cell-index c.cell-item.result (omega arith) c.loop-cell.invariant (subst IsCanonicalCell c.cell-item.is c.see_cell.ensures)

pub returns : goal.returns
returns c =
    recursion_from_All IsCanonicalCell c.args.cells.now (All-same IsCanonicalCell c.args.cells.now _ (sym (take_all c.loop-cell.cell-index c.args.cells.now (omega arith))) c.loop-cell.invariant)
