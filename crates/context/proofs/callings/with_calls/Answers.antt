use Rattle.std.proofs.Common.{length, ap, sym, subst, ◌∙◌}
use Rattle.std.specs.Prelude.{All}
use Rattle.syntax_tree.specs.WellFormed.{width_of}
use Rattle.flow_graph.specs.declared.parts.Edge.{Edge}
use Rattle.flow_graph.specs.Plain.{statement_of_act}
use Rattle.proc_summary.specs.Claims.{FitsStop}
use Rattle.context.specs.declared.stand.Widths.{Widths}
use Rattle.context.specs.Made.{IsCallFit, callings_on}
use Rattle.context.proofs.CallEdges.{as-many, calls-fit}
use Rattle.context.proofs.PlaceColumns.{got}
use Rattle.context.proofs.callings.with_calls.Goals as goal

pub with_callings-requires-clause-calls : goal.with_callings-requires-clause-calls
with_callings-requires-clause-calls c =
    let there = got c.args.program.now.procs c.args.number c.requires.procedure in
    subst (λ n. All (λ (edge : Edge). IsCallFit n (statement_of_act edge.act)) c.as_slice-edges.result.now) (sym (ap (λ (w : Widths). w.columns) (c.widths_of.ensures.exact there.0 there.1)))
    (subst (All (λ (edge : Edge). IsCallFit (width_of c.args.program.now there.0) (statement_of_act edge.act))) (sym c.as_slice-edges.ensures)
    (calls-fit c.args.program.now c.args.number there.0 there.1 c.in_ok-graph.graph c.in_ok-graph.ensures.exact c.requires.formed))

pub with_callings-requires-clause-stops : goal.with_callings-requires-clause-stops
with_callings-requires-clause-stops c =
    let there = got c.args.program.now.procs c.args.number c.requires.procedure in
    subst (λ n. All (FitsStop n) c.as_slice.result.now) (sym (ap (λ (w : Widths). w.columns) (c.widths_of.ensures.exact there.0 there.1)))
    (subst (All (FitsStop (width_of c.args.program.now there.0))) (sym c.as_slice.ensures) (c.requires.flow there.0 there.1).calls)

pub with_callings-requires-clause-as_many : goal.with_callings-requires-clause-as_many
with_callings-requires-clause-as_many c =
    let there = got c.args.program.now.procs c.args.number c.requires.procedure in
    ap (λ edges. length (callings_on edges)) c.as_slice-edges.ensures
    ∙ as-many c.args.program.now c.args.number there.0 there.1 c.in_ok-graph.graph c.in_ok-graph.ensures.exact c.args.flow.now (c.requires.flow there.0 there.1)
    ∙ sym (ap length c.as_slice.ensures)
