use Rattle.std.proofs.Common.{◌≡◌, ◌<◌, List, ℕ, length, map, sym, ap, subst, ◌∙◌}
use Rattle.std.specs.Prelude.{All, IfOk}
use Rattle.std.proofs.lemmas.List.Elements.{All-weaker}
use Rattle.flow_graph.specs.declared.parts.Edge.{Edge}
use Rattle.flow_graph.specs.Plain.{plain}
use Rattle.path_expr.specs.declared.link.Link.{Link}
use Rattle.point_ways.specs.Parts.{end_link, marked_edges, way_ends}
use Rattle.point_ways.proofs.NodeMarks.{length-ends}
use Rattle.point_ways.proofs.edges.way_links.Goals as goal

pub links_by-requires : goal.links_by-requires
links_by-requires c =
    let nodes = c.args.graph.now.nodes in
    let ends : c.as_slice-2.result.now ≡ way_ends (plain c.args.graph.now) = c.as_slice-2.ensures ∙ c.in_ok-ends.ensures in
    let long : length c.as_slice-2.result.now ≡ nodes = ap (λ (es : List ℕ). length es) ends ∙ length-ends (plain c.args.graph.now) in
    subst (λ (edges : List Edge). All (λ (edge : Edge). edge.to < length c.as_slice-2.result.now) edges) (sym c.as_slice.ensures)
    (subst (λ n. All (λ (edge : Edge). edge.to < n) c.args.graph.now.edges) (sym long)
    (All-weaker (λ (edge : Edge). (edge.from < nodes) × (edge.to < nodes)) (λ (edge : Edge). edge.to < nodes) (λ edge inside. inside.1) c.args.graph.now.edges c.requires.inside))

pub returns : goal.returns
returns c =
    let ends = c.as_slice-2.ensures ∙ c.in_ok-ends.ensures in
    subst (λ (links : List Link). IfOk c.links_by.result (λ made. made ≡ links))
    (λ i. map (end_link (ends i)) (marked_edges c.args.ahead.now (c.as_slice.ensures i))) c.links_by.ensures
