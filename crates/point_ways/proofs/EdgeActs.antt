-- The edges of a graph do what the limits of a program allow.
use Rattle.std.proofs.Common.{◌≡◌, ℕ, ◌≤◌, [], length, Some, refl, ap, ◌∙◌, arith}
use Rattle.std.specs.Prelude.{slice_get}
use Rattle.syntax_tree.specs.declared.program.Proc.{Proc}
use Rattle.syntax_tree.specs.declared.program.Program.{Program}
use Rattle.syntax_tree.specs.WellFormed.{width_of}
use Rattle.flow_graph.specs.FlowGraph.{Arc, FlowGraph}
use Rattle.leaf_cases.specs.Conditions.{IsActOf}
use Rattle.vocabularies.specs.Procs.{IsProcOf}
use Rattle.proc_summary.specs.Subject.{own_graph}
use Rattle.proc_summary.proofs.Graphs.{graph-is}

pub act-of_arc : (program : Program) (proc : ℕ) (p : Proc) (k : ℕ) (way : Arc) → IsProcOf program proc p → slice_get (own_graph p).arcs k ≡ Some way → IsActOf program proc way.act
act-of_arc program proc p k way is e =
    record { place = k; way = way; is = ap (λ (f : FlowGraph). slice_get f.arcs k) (graph-is program proc p [] is) ∙ e; does = refl }

pub wide : (program : Program) (p : Proc) → length program.globals ≤ width_of program p
wide program p = omega arith
