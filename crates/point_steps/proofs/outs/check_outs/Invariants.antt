use Rattle.std.proofs.Common.{◌≡◌, ◌++◌, drop, map}
use Rattle.flow_graph.specs.Plain.{check_of, plain}
use Rattle.point_steps.specs.Outs.{check_outs}
use Rattle.point_steps.specs.Parts.{own_columns}
use Rattle.point_steps.proofs.outs.check_outs.Given as goal

abbrev pub invariant-loop-number : goal.invariant-loop-number
invariant-loop-number l =
    l.outs ++ check_outs (own_columns l.source) l.source.cells.now (plain l.source.graph.now).arcs l.source.node l.number (map check_of (drop l.number l.checks))
    ≡ check_outs (own_columns l.source) l.source.cells.now (plain l.source.graph.now).arcs l.source.node 0 (map check_of l.checks)
