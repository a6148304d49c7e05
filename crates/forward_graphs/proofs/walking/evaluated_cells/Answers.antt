use Rattle.std.proofs.Common.{[], ap, refl, subst, sym}
use Rattle.posing.specs.Posing.{◌>>=◌}
use Rattle.posing.proofs.Steps.{error_first, in_other_words, value_first, value_has}
use Rattle.forward_graphs.specs.Evaluation.{cells_by, joined_steps, walk_cells}
use Rattle.forward_graphs.specs.Graph.{graph_in}
use Rattle.forward_graphs.specs.UnderWay.{AreSteps}
use Rattle.forward_graphs.proofs.StepLaws.{AreJoined, KeepsLeaves, joined-keep, leaves-keep, links-ready}
use Rattle.forward_graphs.proofs.walking.evaluated_cells.Goals as goal

pub leaf_steps-requires : goal.leaf_steps-requires
leaf_steps-requires g c = links-ready (graph_in c.args.graph) c.args.source c.requires

pub joined_steps-requires : goal.joined_steps-requires
joined_steps-requires g c =
    let kept = value_has (KeepsLeaves (graph_in c.args.graph) []) c.in_ok-leaves.ensures (leaves-keep (graph_in c.args.graph) c.args.source c.requires) in
    subst (AreSteps (graph_in c.args.graph)) (sym c.as_slice.ensures) kept.steps

pub cells_by-requires-clause-steps : goal.cells_by-requires-clause-steps
cells_by-requires-clause-steps g c =
    let kept = value_has (KeepsLeaves (graph_in c.args.graph) []) c.in_ok-leaves.ensures (leaves-keep (graph_in c.args.graph) c.args.source c.requires) in
    let joined = value_has (AreJoined (graph_in c.args.graph) c.as_slice.result.now) c.in_ok-joined.ensures
    (joined-keep (graph_in c.args.graph) c.as_slice.result.now (subst (AreSteps (graph_in c.args.graph)) (sym c.as_slice.ensures) kept.steps)) in
    subst (AreSteps (graph_in c.args.graph)) (sym c.as_slice-steps.ensures) joined.all

pub cells_by-requires-clause-source : goal.cells_by-requires-clause-source
cells_by-requires-clause-source g c = c.requires.source_is

pub returns-in_err-joined : goal.returns-in_err-joined
unfolding walk_cells
returns-in_err-joined g c =
    value_first (λ leaves. joined_steps (graph_in c.args.graph) leaves >>= cells_by (graph_in c.args.graph) c.args.source) c.in_ok-leaves.ensures refl
    (error_first (cells_by (graph_in c.args.graph) c.args.source) c.in_err-joined.ensures (ap (joined_steps (graph_in c.args.graph)) c.as_slice.ensures) c.from_residual-in_err-joined.ensures.1)

pub returns : goal.returns
unfolding walk_cells
returns g c =
    value_first (λ leaves. joined_steps (graph_in c.args.graph) leaves >>= cells_by (graph_in c.args.graph) c.args.source) c.in_ok-leaves.ensures refl
    (value_first (cells_by (graph_in c.args.graph) c.args.source) c.in_ok-joined.ensures (ap (joined_steps (graph_in c.args.graph)) c.as_slice.ensures)
    (in_other_words (ap (cells_by (graph_in c.args.graph) c.args.source) c.as_slice-steps.ensures) c.cells_by.ensures))
