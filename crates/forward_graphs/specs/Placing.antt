-- Numbers of steps between the nodes of a graph.
use Rattle.std.specs.Prelude.{◌<◌, ℕ, List, length}
use Rattle.std.specs.List.{AllByRecursion}
use Rattle.forward_graphs.specs.declared.step.Step.{Step}
use Rattle.forward_graphs.specs.Graph.{step_at}

-- a step between nodes below so many
pub record IsInside (nodes : ℕ) (step : Step) : Type 0 where
  pub start : step.from < nodes
  pub target : step.to < nodes

-- the number of a step between such nodes
pub record IsPlaced (nodes : ℕ) (steps : List Step) (number : ℕ) : Type 0 where
  pub is : number < length steps
  pub inside : IsInside nodes (step_at steps number)

-- each number is one
abbrev pub ArePlaced : ℕ → List Step → List ℕ → Type 0
ArePlaced nodes steps numbers = AllByRecursion (IsPlaced nodes steps) numbers
