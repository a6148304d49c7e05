use Rattle.std.proofs.Common.{◌≡◌, ◌++◌, drop}
use Rattle.std.specs.List.{flat_map}
use Rattle.transition_formula.specs.Loss.{losses_of}
use Rattle.transition_formula.specs.Composition.{rows_by}
use Rattle.transition_formula.specs.Order.{with_solution}
use Rattle.transition_formula.proofs.solution.Solution.rows.Given as goal

abbrev pub invariant-loop-row : goal.invariant-loop-row
invariant-loop-row l =
    record {
      made : l.made ++ rows_by (with_solution l.self.aux l.self.by) (drop l.row-index l.rows) ≡ rows_by (with_solution l.self.aux l.self.by) l.rows;
      noted : l.losses ++ flat_map (λ row. losses_of (with_solution l.self.aux l.self.by row.poly)) (drop l.row-index l.rows) ≡ l.initial.losses ++ flat_map (λ row. losses_of (with_solution l.self.aux l.self.by row.poly)) l.rows;
    }
