use Rattle.std.proofs.Common.{◌≡◌, ◌<◌, ◌∙◌, ◌^◌, length, refl, sym, ap, subst}
use Rattle.std.specs.Prelude.{IfOk}
use Rattle.std.proofs.lemmas.List.{length-map}
use Rattle.posing.proofs.Steps.{in_other_words, notes_first}
use Rattle.polyhedra.proofs.Results.{result_has}
use Rattle.checked_tree.specs.Evaluation.{evaluated_cells}
use Rattle.checked_tree.specs.Graph.{graph_of}
use Rattle.checked_tree.specs.Law.{AreFittedCells, IsEvaluated}
use Rattle.newton_rounds.specs.Between.{AreChainsFrom}
use Rattle.newton_rounds.specs.Closure.{group_graph, group_link}
use Rattle.newton_rounds.specs.Groups.{stretches_in}
use Rattle.newton_rounds.proofs.GroupGraphs.{group-evaluated, links-are}
use Rattle.newton_rounds.proofs.PairCells.{StaysAt, cells-stay, chains-from}
use Rattle.newton_rounds.proofs.MatchLoops.{if_ok-both}
use Rattle.newton_rounds.proofs.closure.group_cells.Goals as goal

pub evaluate_formulas-requires-clause-graph : goal.evaluate_formulas-requires-clause-graph
evaluate_formulas-requires-clause-graph g c =
    let members = c.args.graph.members.now in
    let stretches = stretches_in c.args.graph in
    let same : graph_of c.as_slice-links.result.now c.as_slice-leaves.result.now c.as_slice.result.now ≡ group_graph members stretches =
    λ i. record {
      links = (c.as_slice-links.ensures ∙ c.in_ok-links.ensures ∙ links-are c.args.graph.calls.now c.args.graph.sides.now c.requires.graph.each) i;
      leaves = (c.as_slice-leaves.ensures ∙ c.in_ok-leaves.ensures.made) i;
      nodes = (c.as_slice.ensures ∙ c.in_ok-nodes.ensures) i;
    } in
    subst (λ h. IsEvaluated h c.args.place) (sym same) (group-evaluated members stretches c.requires.graph.group c.args.place c.requires.there)

pub evaluate_formulas-requires-clause-few_links : goal.evaluate_formulas-requires-clause-few_links
evaluate_formulas-requires-clause-few_links g c =
    let stretches = stretches_in c.args.graph in
    let long = ap length (c.as_slice-links.ensures ∙ c.in_ok-links.ensures ∙ links-are c.args.graph.calls.now c.args.graph.sides.now c.requires.graph.each) ∙ length-map stretches group_link in
    subst (λ n. n < 2 ^ 32) (sym long) c.requires.graph.group.few_calls

pub evaluate_formulas-requires-clause-few_nodes : goal.evaluate_formulas-requires-clause-few_nodes
evaluate_formulas-requires-clause-few_nodes g c =
    let long = ap length (c.as_slice.ensures ∙ c.in_ok-nodes.ensures) ∙ length-map c.args.graph.members.now (λ member. member.pair) in
    subst (λ n. n < 2 ^ 32) (sym long) c.requires.graph.group.few

pub returns-clause-follows : goal.returns-clause-follows
returns-clause-follows g c =
    let members = c.args.graph.members.now in
    let stretches = stretches_in c.args.graph in
    let same : graph_of c.as_slice-links.result.now c.as_slice-leaves.result.now c.as_slice.result.now ≡ group_graph members stretches =
    λ i. record {
      links = (c.as_slice-links.ensures ∙ c.in_ok-links.ensures ∙ links-are c.args.graph.calls.now c.args.graph.sides.now c.requires.graph.each) i;
      leaves = (c.as_slice-leaves.ensures ∙ c.in_ok-leaves.ensures.made) i;
      nodes = (c.as_slice.ensures ∙ c.in_ok-nodes.ensures) i;
    } in
    notes_first c.in_ok-leaves.ensures.noted refl (in_other_words (ap (λ h. evaluated_cells h c.args.place) same) c.evaluate_formulas.ensures.follows)

pub returns-clause-lead : goal.returns-clause-lead
returns-clause-lead g c =
    let members = c.args.graph.members.now in
    let stretches = stretches_in c.args.graph in
    let same : graph_of c.as_slice-links.result.now c.as_slice-leaves.result.now c.as_slice.result.now ≡ group_graph members stretches =
    λ i. record {
      links = (c.as_slice-links.ensures ∙ c.in_ok-links.ensures ∙ links-are c.args.graph.calls.now c.args.graph.sides.now c.requires.graph.each) i;
      leaves = (c.as_slice-leaves.ensures ∙ c.in_ok-leaves.ensures.made) i;
      nodes = (c.as_slice.ensures ∙ c.in_ok-nodes.ensures) i;
    } in
    let is = group-evaluated members stretches c.requires.graph.group c.args.place c.requires.there in
    if_ok-both (AreFittedCells (group_graph members stretches) c.args.place) (StaysAt (group_graph members stretches) c.args.place) (AreChainsFrom members c.args.place) c.evaluate_formulas.result
    (chains-from members stretches c.requires.graph.group c.args.place)
    (subst (λ h. IfOk c.evaluate_formulas.result (AreFittedCells h c.args.place)) same c.evaluate_formulas.ensures.fits)
    (result_has (StaysAt (group_graph members stretches) c.args.place) c.evaluate_formulas.result
    (in_other_words (ap (λ h. evaluated_cells h c.args.place) same) c.evaluate_formulas.ensures.follows) (cells-stay (group_graph members stretches) c.args.place is))
