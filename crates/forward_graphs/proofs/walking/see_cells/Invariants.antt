use Rattle.std.proofs.Common.{take}
use Rattle.std.specs.Prelude.{All}
use Rattle.forward_graphs.specs.Law.{IsCanonicalCell}
use Rattle.forward_graphs.proofs.walking.see_cells.Given as goal

-- those that were gone over
abbrev pub invariant-loop-cell : goal.invariant-loop-cell
invariant-loop-cell l = All IsCanonicalCell (take l.cell-index l.cells)
