use Rattle.std.proofs.Common.{◌<◌, ◌+◌, ap, refl, sym, subst, ◌∙◌}
use Rattle.std.proofs.lemmas.Option.{same_Some, slice_get_within}
use Rattle.syntax_tree.specs.WellFormed.{width_of}
use Rattle.posing.proofs.Steps.{error_first, in_other_words, value_first}
use Rattle.vocabularies.specs.Ends.{entry_width}
use Rattle.leaf_cases.specs.Conditions.{columns_in}
use Rattle.point_induction.specs.Points.{heads_of}
use Rattle.proc_summary.specs.Subject.{own_graph}
use Rattle.proc_summary.proofs.Graphs.{links-inside, nodes-are}
use Rattle.point_steps.specs.Claims.{AreWayCells, IsState, WaysCover}
use Rattle.point_steps.specs.Steps.{steps_from}
use Rattle.point_rounds.specs.Rounds.{steps_in}
use Rattle.point_rounds.proofs.WayCells.{ways-cover, ways-fit}
use Rattle.point_rounds.proofs.stepping.steps_of.Goals as goal

pub graph_at-graph-requires-clause-procedure : goal.graph_at-graph-requires-clause-procedure
graph_at-graph-requires-clause-procedure g c = slice_get_within c.args.source.program.now.procs c.args.state.now.proc c.requires.state.p c.requires.state.is

pub way_cells-requires-clause-own : goal.way_cells-requires-clause-own
way_cells-requires-clause-own g c = record {
  formed = c.requires.source.formed;
  procedure = slice_get_within c.args.source.program.now.procs c.args.state.now.proc c.requires.state.p c.requires.state.is;
  graph = c.graph_at-graph.ensures;
  known = c.requires.source.known;
}

pub way_cells-requires-clause-source : goal.way_cells-requires-clause-source
way_cells-requires-clause-source g c =
    subst (λ n. c.args.state.now.node < n) (sym (nodes-are c.args.source.program.now c.args.state.now.proc c.requires.state.p c.args.source.known.now c.requires.state.is c.graph_at-graph.result.now c.graph_at-graph.ensures)) c.requires.state.node

pub steps-requires-clause-source : goal.steps-requires-clause-source
steps-requires-clause-source g c =
    let program = c.args.source.program.now in
    let known = c.args.source.known.now in
    let p = c.requires.state.p in
    let is = c.requires.state.is in
    let node = c.args.state.now.node in
    record {
      formed = c.requires.source.formed;
      procedure = slice_get_within program.procs c.args.state.now.proc p is;
      graph = c.graph_at-graph.ensures;
      heads = c.heads_at.ensures ∙ sym (ap heads_of c.graph_at-graph.ensures.same);
      ways =
          subst (λ n. AreWayCells n c.as_slice.result.now) (sym (ap (columns_in program) is))
          (subst (AreWayCells _) (sym c.as_slice.ensures) (ways-fit program p known node c.requires.state.node c.in_ok-cells.cells (c.in_ok-cells.ensures.fits p is)));
    }

pub steps-requires-clause-state : goal.steps-requires-clause-state
steps-requires-clause-state g c = λ p is.
    let same = same_Some c.requires.state.p p (sym c.requires.state.is ∙ is) in
    subst (λ q. IsState (width_of c.args.source.program.now q + entry_width c.args.source.program.now q) c.args.state.now.formula) same c.requires.state.fits

pub returns-clause-follows : goal.returns-clause-follows
returns-clause-follows g c =
    let program = c.args.source.program.now in
    let known = c.args.source.known.now in
    let state = c.args.state.now in
    let p = c.requires.state.p in
    let is = c.requires.state.is in
    in_other_words (ap (steps_in program known state) (sym is))
    (value_first (steps_from program state.proc p state.node state.formula) (c.in_ok-cells.ensures.follows p is) refl
    (in_other_words (ap (steps_from program state.proc p state.node state.formula) c.as_slice.ensures) (c.steps.ensures.follows p is)))

pub returns-clause-fits : goal.returns-clause-fits
returns-clause-fits g c = c.steps.ensures.fits

pub returns-clause-covers : goal.returns-clause-covers
returns-clause-covers g c = λ p is.
    let program = c.args.source.program.now in
    let known = c.args.source.known.now in
    let state = c.args.state.now in
    let own = c.graph_at-graph.result.now in
    let of = c.graph_at-graph.ensures in
    let within = subst (λ q. state.node < (own_graph q).nodes) (same_Some c.requires.state.p p (sym c.requires.state.is ∙ is)) c.requires.state.node in
    c.steps.ensures.covers p known is
    (subst (WaysCover program p known state.node) (sym c.as_slice.ensures)
    (ways-cover program p known state.node within c.in_ok-cells.cells (c.in_ok-cells.ensures.fits p is) (links-inside program state.proc p known is own of) (c.in_ok-cells.ensures.holds p is)))

pub returns-in_err-cells-clause-follows : goal.returns-in_err-cells-clause-follows
returns-in_err-cells-clause-follows g c =
    let program = c.args.source.program.now in
    let known = c.args.source.known.now in
    let state = c.args.state.now in
    let p = c.requires.state.p in
    let is = c.requires.state.is in
    in_other_words (ap (steps_in program known state) (sym is))
    (error_first (steps_from program state.proc p state.node state.formula) (c.in_err-cells.ensures.follows p is) refl c.from_residual.ensures.1)
