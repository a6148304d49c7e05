use Rattle.std.proofs.Common.{◌≡◌, ◌+◌, ◌++◌, map, drop}
use Rattle.transition_formula.specs.Renumbering.{renumbered_row}
use Rattle.leaf_cases.proofs.listed.Later.push_rows.Given as goal

abbrev pub invariant-loop-row : goal.invariant-loop-row
invariant-loop-row l = l.made ++ map (renumbered_row (λ n. l.self.first + n)) (drop l.row-index l.rows) ≡ l.initial.made ++ map (renumbered_row (λ n. l.self.first + n)) l.rows
