use Rattle.std.proofs.Common.{sym, ap, ◌++◌, ◌∙◌, map}
use Rattle.std.proofs.lemmas.List.{append-nil}
use Rattle.point_ways.specs.Parts.{end_link, marked_edges, starts_marked}
use Rattle.point_ways.proofs.Choices.{map-next, map-pushed, map-skipped}
use Rattle.point_ways.proofs.edges.links_by.Goals as goal
use Rattle.point_ways.proofs.edges.links_by.Goals.{then-is_marked+in_ok-push, else-is_marked}

pub loop-edge-preserved : goal.loop-edge-preserved
loop-edge-preserved c =
    let edges = c.args.edges.now in
    let edge = c.edge-item.result in
    let link = end_link c.args.ends.now in
    let test = starts_marked c.args.ahead.now in
    elim c.if-is_marked.branch [
      | then-is_marked+in_ok-push w ↦ rw w.links-is
          (map-next link test edges c.loop-edge.edge-index edge c.loop-edge.links _ (map link (marked_edges c.args.ahead.now edges)) c.loop-edge-test.true c.edge-item.is c.loop-edge.invariant
          (w.in_ok-push.ensures.ok ∙ ap (λ more. c.loop-edge.links ++ more) (sym (map-pushed link test edge (sym c.is_marked.ensures ∙ w.if-is_marked.true)))))
      | else-is_marked w ↦ rw w.links-is
          (map-next link test edges c.loop-edge.edge-index edge c.loop-edge.links c.loop-edge.links (map link (marked_edges c.args.ahead.now edges)) c.loop-edge-test.true c.edge-item.is c.loop-edge.invariant
          (sym (append-nil c.loop-edge.links) ∙ ap (λ more. c.loop-edge.links ++ more) (sym (map-skipped link test edge (sym c.is_marked.ensures ∙ w.if-is_marked.false)))))
    ]
