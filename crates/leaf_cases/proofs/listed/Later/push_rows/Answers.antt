use Rattle.std.proofs.Common.{◌+◌, ◌∙◌}
use Rattle.transition_formula.specs.Renumbering.{renumbered_row}
use Rattle.transition_formula.proofs.Loops.{one_mapped}
use Rattle.leaf_cases.proofs.listed.Later.push_rows.Goals as goal

pub loop-row-preserved : goal.loop-row-preserved
loop-row-preserved c =
    one_mapped (renumbered_row (λ n. c.args.self.now.first + n)) c.args.rows.now c.loop-row.row-index c.row-item.result c.loop-row.made c.push.new.self
    (record { poly = c.in_ok-poly.poly; kind = c.row-item.result.kind }) c.loop-row-test.true c.row-item.is (λ i. record { poly = c.in_ok-poly.ensures i; kind = c.row-item.result.kind }) c.in_ok-push.ensures.ok
    ∙ c.loop-row.invariant
