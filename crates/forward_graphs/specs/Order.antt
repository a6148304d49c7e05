-- Numbers of steps in the order of the nodes at their ends.
use Rattle.std.specs.Prelude.{ℕ, List, map, length, ◌==◌}
use Rattle.std.specs.List.{concat, filter, range_with_len}
use Rattle.forward_graphs.specs.declared.step.Step.{Step}
use Rattle.forward_graphs.specs.declared.order.StepEnd.{StepEnd}
use Rattle.forward_graphs.specs.declared.order.StepEnd.TheVariants.{Start, Target}
use Rattle.forward_graphs.specs.Graph.{step_at}

-- the node at an end of a step
abbrev pub node_of : StepEnd → Step → ℕ
node_of Start step = step.from
node_of Target step = step.to

-- the node at an end of the step of a number
abbrev pub node_at : List Step → StepEnd → ℕ → ℕ
node_at steps end number = node_of end (step_at steps number)

-- those numbers whose steps have a node at an end, in their order
abbrev pub numbers_at : List Step → StepEnd → List ℕ → ℕ → List ℕ
numbers_at steps end numbers node = filter (λ number. node_at steps end number == node) numbers

-- these for each node, from node 0 on
abbrev pub groups : ℕ → List Step → StepEnd → List ℕ → List (List ℕ)
groups nodes steps end numbers = map (numbers_at steps end numbers) (range_with_len 0 nodes)

-- the numbers in ascending order of the node at an end; those of one node in their order
abbrev pub numbers_by_node : ℕ → List Step → StepEnd → List ℕ → List ℕ
numbers_by_node nodes steps end numbers = concat (groups nodes steps end numbers)

-- the numbers of all steps
abbrev pub numbers_of : List Step → List ℕ
numbers_of steps = range_with_len 0 (length steps)

-- they are in ascending order of the node where the step starts, then of the node that it leads to;
-- those of the same ends in their order
unfoldable pub in_order : ℕ → List Step → List ℕ
in_order nodes steps =
    numbers_by_node nodes steps Start (numbers_by_node nodes steps Target (numbers_of steps))

-- the numbers of the steps that lead to a node, in ascending order
abbrev pub arrivals : List Step → ℕ → List ℕ
arrivals steps node = numbers_at steps Target (numbers_of steps) node
