-- What the code hands on whole: a group with what is known, one of its members as a caller, the
-- group's graph, and the parts of its chains of calls.
use Rattle.std.specs.Prelude.{◌≡◌, ◌<◌, ◌≤◌, ℕ, All, List, length, map}
use Rattle.transition_formula.specs.declared.loss.Loss.{Loss}
use Rattle.transition_formula.specs.Transition.{Transition}
use Rattle.syntax_tree.specs.Code.{code_of}
use Rattle.syntax_tree.specs.WellFormed.{IsWellFormed}
use Rattle.syntax_tree.specs.declared.program.Proc.{Proc}
use Rattle.flow_graph.specs.FlowGraph.{exit_of}
use Rattle.vocabularies.specs.Procs.{IsProcOf}
use Rattle.leaf_cases.specs.Conditions.{AreKnown}
use Rattle.checked_tree.specs.Law.{AreFittedCells}
use Rattle.proc_summary.specs.Subject.{Subject, graph_by, subject_of}
use Rattle.newton_rounds.specs.declared.chains.ChainParts.{ChainParts}
use Rattle.newton_rounds.specs.declared.closure.GroupGraph.{GroupGraph}
use Rattle.newton_rounds.specs.declared.group.GroupInRounds.{GroupInRounds}
use Rattle.newton_rounds.specs.declared.sides.GroupCaller.{GroupCaller}
use Rattle.newton_rounds.specs.Between.{AreChained, IsGroup}
use Rattle.newton_rounds.specs.Closure.{chain_end, ends_of_members, losses_in_chain_end, stretches_with}
use Rattle.newton_rounds.specs.Pairs.{Stretch}
use Rattle.newton_rounds.specs.Shapes.{plain_call}

-- ---- a group

-- the procedures are some of a well-formed program, each with its own ends, and what is known are
-- formulas of the program's procedures
pub record IsReadyGroup (group : GroupInRounds) : Type 0 where
  pub formed : IsWellFormed group.program.now
  pub there : All (λ proc. proc < length group.program.now.procs) group.procs.now
  pub few : length group.procs.now ≤ length group.program.now.procs
  pub members : group.members.now ≡ ends_of_members group.program.now group.procs.now
  pub known : AreKnown group.program.now group.known.now

-- the subject that a procedure is by what is known
abbrev pub subject_in : GroupInRounds → Proc → Subject
subject_in group p = subject_of group.program.now p group.known.now

-- ---- both sides of calls

-- a procedure of the program, by its exit and by what holds at each of its nodes from its entry
pub record IsReadyCaller (group : GroupInRounds) (caller : GroupCaller) : Type 0 where
  pub procedure : caller.proc < length group.program.now.procs
  pub exit : (p : Proc) → IsProcOf group.program.now caller.proc p →
      caller.exit ≡ exit_of (code_of p.body)
  pub starts : (p : Proc) → IsProcOf group.program.now caller.proc p →
      AreFittedCells (graph_by (subject_in group p)) 0 caller.starts.now

-- ---- the graph of a group

-- its calls with their sides
abbrev pub stretches_in : GroupGraph → List Stretch
stretches_in graph = stretches_with (map plain_call graph.calls.now) graph.sides.now

-- both sides of each call, which goes between two of the members
pub record IsReadyGraph (graph : GroupGraph) : Type 0 where
  pub each : length graph.calls.now ≡ length graph.sides.now
  pub group : IsGroup graph.members.now (stretches_in graph)

-- ---- chains of calls

-- a base for each member, and what leads from the pairs of the member at a place to those of each
abbrev pub AreReadyParts : ChainParts → Type 0
AreReadyParts parts =
    AreChained parts.members.now parts.bases.now parts.place parts.cells.now

-- the chains that end with a member
abbrev pub chain_by : ChainParts → ℕ → Transition
chain_by parts n =
    chain_end parts.members.now parts.bases.now parts.cells.now parts.place n

-- what is lost in putting the base of a member behind the chains of calls that lead to it
abbrev pub losses_in_chain_by : ChainParts → ℕ → List Loss
losses_in_chain_by parts n =
    losses_in_chain_end parts.members.now parts.bases.now parts.cells.now parts.place n
