-- The graph that is walked, as a graph whose links have formulas and whose nodes have vocabularies, and its steps.
use Rattle.std.specs.Prelude.{ℕ, List}
use Rattle.std.specs.List.{slice_get}
use Rattle.std.specs.Option.{unwrap_or}
use Rattle.checked_tree.specs.Graph.{Graph, nothing}
use Rattle.forward_graphs.specs.declared.graph.ForwardGraph.{ForwardGraph}
use Rattle.forward_graphs.specs.declared.step.Step.{Step}

-- what the parts of a graph are at this moment
abbrev pub graph_in : ForwardGraph → Graph
graph_in graph = record {
  links = graph.links.now;
  leaves = graph.leaves.now;
  nodes = graph.nodes.now;
}

-- the step of a number; past the end one from node 0 to node 0
abbrev pub step_at : List Step → ℕ → Step
step_at steps number =
    unwrap_or (slice_get steps number) record {
      from = 0;
      to = 0;
      formula = nothing;
    }
