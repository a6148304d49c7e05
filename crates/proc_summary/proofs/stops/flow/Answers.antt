use Rattle.std.proofs.Common.{◌≡◌, ◌∙◌, refl, sym, subst}
use Rattle.posing.proofs.Following.{stops}
use Rattle.posing.proofs.Steps.{at_end, error_first, value_first}
use Rattle.proc_summary.specs.Claims.{FitsFlow, FlowHolds}
use Rattle.proc_summary.specs.Flow.{flow_from, flow_in}
use Rattle.proc_summary.specs.Parts.{graph_flow}
use Rattle.proc_summary.specs.Subject.{subject_of}
use Rattle.proc_summary.proofs.CratesBelow.{some_at}
use Rattle.proc_summary.proofs.Flows.{flow-fits, flow-holds, flow-is, some-graph}
use Rattle.proc_summary.proofs.Graphs.{columns-is}
use Rattle.proc_summary.proofs.stops.flow.Goals as goal

pub cells_of-requires-clause-own : goal.cells_of-requires-clause-own
cells_of-requires-clause-own g c = record { formed = c.requires.formed; procedure = c.requires.procedure; graph = c.in_ok-graph.ensures; known = c.requires.known }

pub cells_of-requires-clause-source : goal.cells_of-requires-clause-source
cells_of-requires-clause-source g c =
    let there = some_at c.args.program.now.procs c.args.proc c.requires.procedure in
    some-graph c.args.program.now c.args.proc there.0 c.args.known.now there.1 c.in_ok-graph.graph c.in_ok-graph.ensures

pub flow_in-requires-clause-inside : goal.flow_in-requires-clause-inside
flow_in-requires-clause-inside g c = c.in_ok-graph.ensures.edges

pub flow_in-requires-clause-nodes : goal.flow_in-requires-clause-nodes
flow_in-requires-clause-nodes g c =
    let there = some_at c.args.program.now.procs c.args.proc c.requires.procedure in
    some-graph c.args.program.now c.args.proc there.0 c.args.known.now there.1 c.in_ok-graph.graph c.in_ok-graph.ensures

pub returns-in_err-cells-clause-follows : goal.returns-in_err-cells-clause-follows
unfolding flow_from
returns-in_err-cells-clause-follows g c = λ p is. error_first _ (c.in_err-cells.ensures.follows p is) refl c.from_residual-in_err-cells.ensures.1

pub returns-in_err-flow-clause-follows : goal.returns-in_err-flow-clause-follows
unfolding flow_from
returns-in_err-flow-clause-follows g c = λ p is. value_first _ (c.in_ok-cells.ensures.follows p is) refl (stops _ _ _ _ _ _ refl c.from_residual-in_err-flow.ensures.1)

pub returns-clause-follows : goal.returns-clause-follows
unfolding flow_from
returns-clause-follows g c = λ p is.
    let program = c.args.program.now in
    let same : c.in_ok-flow.flow ≡ flow_in (subject_of program p c.args.known.now) c.in_ok-cells.cells =
    c.in_ok-flow.ensures ∙ (λ i. graph_flow ((c.columns_of-columns.ensures ∙ columns-is program c.args.proc p c.args.known.now is) i) (c.as_slice.ensures i) c.in_ok-graph.graph)
    ∙ flow-is program c.args.proc p c.args.known.now is c.in_ok-graph.graph c.in_ok-graph.ensures c.requires.formed c.requires.known c.in_ok-cells.cells in
    value_first _ (c.in_ok-cells.ensures.follows p is) refl (at_end same)

pub returns-clause-fits : goal.returns-clause-fits
returns-clause-fits g c = λ p is.
    let program = c.args.program.now in
    let same : c.in_ok-flow.flow ≡ flow_in (subject_of program p c.args.known.now) c.in_ok-cells.cells =
    c.in_ok-flow.ensures ∙ (λ i. graph_flow ((c.columns_of-columns.ensures ∙ columns-is program c.args.proc p c.args.known.now is) i) (c.as_slice.ensures i) c.in_ok-graph.graph)
    ∙ flow-is program c.args.proc p c.args.known.now is c.in_ok-graph.graph c.in_ok-graph.ensures c.requires.formed c.requires.known c.in_ok-cells.cells in
    subst (FitsFlow program p) (sym same)
    (flow-fits program c.args.proc p c.args.known.now is c.in_ok-graph.graph c.in_ok-graph.ensures c.requires.formed c.requires.known c.in_ok-cells.cells (c.in_ok-cells.ensures.fits p is))

pub returns-clause-holds : goal.returns-clause-holds
returns-clause-holds g c = λ met.
    let program = c.args.program.now in
    let there = some_at program.procs c.args.proc c.requires.procedure in
    let p = there.0 in
    let is = there.1 in
    let same : c.in_ok-flow.flow ≡ flow_in (subject_of program p c.args.known.now) c.in_ok-cells.cells =
    c.in_ok-flow.ensures ∙ (λ i. graph_flow ((c.columns_of-columns.ensures ∙ columns-is program c.args.proc p c.args.known.now is) i) (c.as_slice.ensures i) c.in_ok-graph.graph)
    ∙ flow-is program c.args.proc p c.args.known.now is c.in_ok-graph.graph c.in_ok-graph.ensures c.requires.formed c.requires.known c.in_ok-cells.cells in
    subst (FlowHolds program c.args.proc) (sym same)
    (flow-holds program c.args.proc p c.args.known.now is c.in_ok-graph.graph c.in_ok-graph.ensures c.requires.formed c.requires.known c.in_ok-cells.cells (c.in_ok-cells.ensures.fits p is) (c.requires.callees p is) met (c.in_ok-cells.ensures.holds p is))
