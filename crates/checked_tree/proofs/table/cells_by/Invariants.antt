use Rattle.std.proofs.Common.{◌≡◌, ◌++◌, map, drop}
use Rattle.checked_tree.specs.Grown.{trees_of}
use Rattle.checked_tree.specs.Growing.{tree_cell}
use Rattle.checked_tree.proofs.table.cells_by.Given as goal

abbrev pub invariant-loop-cell : goal.invariant-loop-cell
invariant-loop-cell l = trees_of l.made ++ map (tree_cell l.growths) (drop l.cell-index l.cells) ≡ map (tree_cell l.growths) l.cells
