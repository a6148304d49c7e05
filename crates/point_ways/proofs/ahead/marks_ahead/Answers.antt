use Rattle.std.proofs.Common.{◌≡◌, ◌<◌, ℕ, List, [], false, get_or, length, sym, ap, subst, ◌∙◌}
use Rattle.std.specs.List.{list_any}
use Rattle.flow_graph.specs.Plain.{plain}
use Rattle.point_ways.specs.Parts.{all_starts}
use Rattle.point_ways.proofs.AheadNodes.{marks-none}
use Rattle.point_ways.proofs.NodeMarks.{ahead-next, led-by_starts, length-starts}
use Rattle.point_ways.proofs.ahead.marks_ahead.Goals as goal

pub loop-node-init : goal.loop-node-init
loop-node-init c = c.new-marks.ensures ∙ sym (marks-none (plain c.args.graph.now).arcs c.args.source)

pub starts_of-requires : goal.starts_of-requires
starts_of-requires c =
    let graph = plain c.args.graph.now in
    subst (λ n. c.loop-node.node < n) (sym (ap (λ (starts : List (List ℕ)). length starts) (c.as_slice-in-loop-node.ensures ∙ c.in_ok-starts.ensures) ∙ length-starts graph.arcs graph.nodes)) c.loop-node-test.true

pub loop-node-preserved : goal.loop-node-preserved
loop-node-preserved c =
    let graph = plain c.args.graph.now in
    let source = c.args.source in
    let node = c.loop-node.node in
    let marks = c.loop-node.marks in
    let starts = c.starts_of.result.now in
    let starts_are : starts ≡ get_or (all_starts graph.arcs graph.nodes) node [] = c.starts_of.ensures ∙ ap (λ all. get_or all node []) (c.as_slice-in-loop-node.ensures ∙ c.in_ok-starts.ensures) in
    let some_is : c.some_is_marked-leads.result ≡ list_any (λ start. get_or marks start false) starts =
    c.some_is_marked-leads.ensures ∙ ap (λ known. list_any (λ start. get_or known start false) starts) c.as_slice.ensures in
    ahead-next graph source node marks c.push.new.self c.is_led-led.result c.loop-node.invariant
    (c.is_led-led.ensures
    ∙ led-by_starts graph source node marks starts c.is_marked.result c.some_is_marked-leads.result c.loop-node-test.true starts_are
    (c.is_marked.ensures ∙ ap (λ known. get_or known node false) c.requires.heads) some_is)
    c.in_ok-push.ensures.ok
