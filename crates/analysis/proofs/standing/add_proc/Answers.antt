use Rattle.std.proofs.Common.{[], ◌∷◌, ◌++◌, map, ap, ◌∙◌}
use Rattle.std.proofs.lemmas.List.{map-append}
use Rattle.flow_graph.specs.FlowGraph.{FlowGraph}
use Rattle.flow_graph.specs.Plain.{check_of, plain}
use Rattle.analysis.specs.Judging.{checks_from}
use Rattle.analysis.proofs.standing.add_proc.Goals as goal

pub returns-clause-graphs : goal.returns-clause-graphs
returns-clause-graphs c =
    let made = c.args.graphs.now in
    ap (map plain) c.in_ok-push.ensures.ok ∙ map-append plain made (c.in_ok-graph.graph ∷ []) ∙ ap (λ g. map plain made ++ g ∷ []) c.in_ok-graph.ensures.exact

pub returns-clause-checks : goal.returns-clause-checks
returns-clause-checks c =
    c.in_ok-add_checks.ensures
    ∙ ap (λ nodes. c.args.checks.now ++ checks_from c.args.proc 0 nodes) (ap (map check_of) c.as_slice.ensures ∙ ap (λ (g : FlowGraph). g.checks) c.in_ok-graph.ensures.exact)
