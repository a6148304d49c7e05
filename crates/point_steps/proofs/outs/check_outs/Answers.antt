use Rattle.std.proofs.Common.{map, ap, ◌∙◌}
use Rattle.flow_graph.specs.Plain.{check_of, plain}
use Rattle.point_steps.specs.Outs.{check_outs}
use Rattle.point_steps.specs.Parts.{own_columns}
use Rattle.point_steps.proofs.Loops.{checks-end, checks-next, no-heads}
use Rattle.point_steps.proofs.outs.check_outs.Goals as goal

pub loop-number-init : goal.loop-number-init
loop-number-init c = no-heads _ c.new-outs.ensures

pub loop-number-preserved : goal.loop-number-preserved
loop-number-preserved c =
    checks-next (own_columns c.args.source) c.args.source.cells.now (plain c.args.source.graph.now).arcs c.args.source.node c.as_slice-checks.result.now c.loop-number.number c.index-checks-number.result c.loop-number.outs c.add_check.new.outs
    c.loop-number-test.true c.index-checks-number.is c.in_ok-add_check.ensures
    ∙ c.loop-number.invariant

pub returns : goal.returns
returns c =
    checks-end (own_columns c.args.source) c.args.source.cells.now (plain c.args.source.graph.now).arcs c.args.source.node c.as_slice-checks.result.now c.loop-number.number c.loop-number.outs c.loop-number-test.false c.loop-number.invariant
    ∙ ap (λ checks. check_outs (own_columns c.args.source) c.args.source.cells.now (plain c.args.source.graph.now).arcs c.args.source.node 0 (map check_of checks)) c.as_slice-checks.ensures
