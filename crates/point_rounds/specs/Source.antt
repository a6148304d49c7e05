-- What rounds are made of.
use Rattle.std.specs.Prelude.{◌≡◌, ℕ, List, Some, length, map, slice_get}
use Rattle.syntax_tree.specs.declared.program.Program.{Program}
use Rattle.syntax_tree.specs.WellFormed.{IsWellFormed}
use Rattle.flow_graph.specs.declared.parts.Graph.{Graph}
use Rattle.flow_graph.specs.Plain.{plain}
use Rattle.point_induction.specs.Points.{heads_of}
use Rattle.leaf_cases.specs.Conditions.{AreKnown}
use Rattle.proc_summary.specs.Parts.{IsGraphOf}
use Rattle.point_rounds.specs.declared.source.RoundSource.{RoundSource}
use Rattle.point_rounds.specs.Closed.{ArePointStates}

-- one graph for each procedure of the program, each the procedure's
pub record AreGraphsOf (program : Program) (graphs : List Graph) : Type 0 where
  pub each : length graphs ≡ length program.procs
  pub are : (proc : ℕ) (graph : Graph) → slice_get graphs proc ≡ Some graph
      → IsGraphOf program proc graph

-- the heads of each graph
abbrev pub all_heads : List Graph → List (List ℕ)
all_heads graphs = map (λ (graph : Graph). heads_of (plain graph)) graphs

-- a program, the graphs of its procedures with their heads, formulas that fit its procedures, and
-- states of its points
pub record IsRoundSource (source : RoundSource) : Type 0 where
  pub formed : IsWellFormed source.program.now
  pub graphs : AreGraphsOf source.program.now source.graphs.now
  pub heads : source.heads.now ≡ all_heads source.graphs.now
  pub known : AreKnown source.program.now source.known.now
  pub states : ArePointStates source.program.now source.states.now
