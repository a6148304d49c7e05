use Rattle.std.proofs.Common.{◌≡◌, ◌++◌, drop}
use Rattle.checked_tree.specs.Grown.{formulas_of}
use Rattle.checked_tree.proofs.table.formulas_of.Given as goal

abbrev pub invariant-loop-cell : goal.invariant-loop-cell
invariant-loop-cell l = l.made ++ formulas_of (drop l.cell-index l.cells) ≡ formulas_of l.cells
