use Rattle.std.proofs.Common.{◌≡◌, ◌++◌, map, drop}
use Rattle.std.specs.Prelude.{slice_index}
use Rattle.transition_formula.specs.Renumbering.{renumbered_row}
use Rattle.transition_formula.proofs.numbering.rows_renumbered.Given as goal

abbrev pub invariant-loop-row : goal.invariant-loop-row
invariant-loop-row l = l.made ++ map (renumbered_row (slice_index l.numbers)) (drop l.row-index l.rows) ≡ map (renumbered_row (slice_index l.numbers)) l.rows
