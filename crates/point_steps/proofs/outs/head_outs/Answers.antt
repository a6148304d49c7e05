use Rattle.std.proofs.Common.{get_or, ap, arith, ◌∙◌}
use Rattle.transition_formula.proofs.SomePosts.{same_default}
use Rattle.point_steps.specs.Outs.{head_outs}
use Rattle.point_steps.proofs.Loops.{few-arrivals, heads-end, heads-next, no-heads}
use Rattle.point_steps.proofs.outs.head_outs.Goals as goal

pub loop-head-init : goal.loop-head-init
loop-head-init c = record { made = no-heads _ c.new-outs.ensures; at = omega arith }

pub overflow_add-arrival : goal.overflow_add-arrival
overflow_add-arrival c =
    let at = c.loop-head.invariant.at in
    let lt = c.loop-head-test.true in
    let few = few-arrivals c.args.source c.requires in
    omega (arith, at, lt, few)

pub loop-head-preserved : goal.loop-head-preserved
loop-head-preserved c =
    let at = c.loop-head.invariant.at in
    let heads = c.args.source.heads.now in
    let head = get_or heads c.loop-head.head-index 0 in
    record {
      made = heads-next c.columns_of-columns.result c.args.source.cells.now heads c.loop-head.head-index head c.loop-head.arrival c.loop-head.outs c.add_out.new.outs c.in_ok-way.way c.loop-head-test.true
          (same_default heads c.loop-head.head-index 0 head c.loop-head-test.true) c.in_ok-way.ensures c.in_ok-add_out.ensures
          ∙ c.loop-head.invariant.made;
      at = omega (arith, at);
    }

pub returns : goal.returns
returns c =
    heads-end c.columns_of-columns.result c.args.source.cells.now c.args.source.heads.now c.loop-head.head-index c.loop-head.arrival c.loop-head.outs c.loop-head-test.false
    (c.loop-head.invariant.made ∙ ap (λ columns. head_outs columns c.args.source.cells.now c.args.source.graph.now.nodes c.args.source.heads.now) c.columns_of-columns.ensures)
