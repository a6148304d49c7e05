use Rattle.std.proofs.Common.{◌≡◌, ◌++◌, drop}
use Rattle.std.specs.Option.{option_map}
use Rattle.transition_formula.specs.Rows.{normal_rows}
use Rattle.transition_formula.proofs.tidy.normal_rows.Given as goal

abbrev pub invariant-loop-row : goal.invariant-loop-row
invariant-loop-row l =
    record {
      made : option_map (λ rest. l.made ++ rest) (normal_rows (drop l.row-index l.rows)).rows ≡ (normal_rows l.rows).rows;
      noted : l.losses ++ (normal_rows (drop l.row-index l.rows)).losses ≡ l.initial.losses ++ (normal_rows l.rows).losses;
    }
