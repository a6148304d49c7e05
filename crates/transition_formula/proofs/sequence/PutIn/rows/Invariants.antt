use Rattle.std.proofs.Common.{◌≡◌, ◌++◌, drop}
use Rattle.std.specs.List.{flat_map}
use Rattle.linear_terms.specs.Operations.{substituted_polynomial}
use Rattle.linear_terms.specs.Replacement.{put_in}
use Rattle.transition_formula.specs.Loss.{losses_of}
use Rattle.transition_formula.specs.Composition.{rows_by}
use Rattle.transition_formula.proofs.sequence.PutIn.rows.Given as goal

abbrev pub invariant-loop-row : goal.invariant-loop-row
invariant-loop-row l =
    record {
      made : l.made ++ rows_by (substituted_polynomial (put_in l.self.at.now l.self.aux.now)) (drop l.row-index l.rows) ≡ l.initial.made ++ rows_by (substituted_polynomial (put_in l.self.at.now l.self.aux.now)) l.rows;
      noted : l.losses ++ flat_map (λ row. losses_of (substituted_polynomial (put_in l.self.at.now l.self.aux.now) row.poly)) (drop l.row-index l.rows) ≡ l.initial.losses ++ flat_map (λ row. losses_of (substituted_polynomial (put_in l.self.at.now l.self.aux.now) row.poly)) l.rows;
    }
