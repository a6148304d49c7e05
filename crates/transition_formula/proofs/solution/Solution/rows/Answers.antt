use Rattle.std.proofs.Common.{◌∙◌}
use Rattle.transition_formula.specs.Loss.{losses_of}
use Rattle.transition_formula.specs.Composition.{row_of}
use Rattle.transition_formula.specs.Order.{with_solution}
use Rattle.transition_formula.proofs.Loops.{one_filtered, one_gathered}
use Rattle.transition_formula.proofs.solution.Solution.rows.Goals as goal

pub loop-row-preserved : goal.loop-row-preserved
loop-row-preserved c =
    let self = c.args.self.now in
    record {
      made =
          one_filtered (λ row. row_of row.kind (with_solution self.aux self.by row.poly)) c.args.rows.now c.loop-row.row-index c.row-item.result c.loop-row.made c.push_some.new.rows c.in_ok-row.row
          c.loop-row-test.true c.row-item.is c.in_ok-row.ensures.answer c.in_ok-push_some.ensures
          ∙ c.loop-row.invariant.made;
      noted =
          one_gathered (λ row. losses_of (with_solution self.aux self.by row.poly)) c.args.rows.now c.loop-row.row-index c.row-item.result c.loop-row.losses c.row.new.losses
          c.loop-row-test.true c.row-item.is c.in_ok-row.ensures.noted
          ∙ c.loop-row.invariant.noted;
    }
