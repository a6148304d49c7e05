-- The graphs of a source, their heads, and formulas with the rows of a table at exits.
use Rattle.std.proofs.Common.{◌≡◌, ℕ, ◌+◌, List, [], Option, Some, None, refl, sym, ap, subst, ◌∙◌, arith}
use Rattle.std.specs.Prelude.{slice_get, unwrap_or}
use Rattle.std.specs.Option.{option_map}
use Rattle.std.proofs.lemmas.Option.{slice_get-map, slice_get_past}
use Rattle.syntax_tree.specs.declared.program.Proc.{Proc}
use Rattle.syntax_tree.specs.declared.program.Program.{Program}
use Rattle.transition_formula.specs.Transition.{Transition}
use Rattle.flow_graph.specs.declared.parts.Graph.{Graph}
use Rattle.flow_graph.specs.FlowGraph.{body_of, flow_of, graph_of}
use Rattle.flow_graph.specs.Plain.{plain}
use Rattle.point_induction.specs.Points.{heads_of}
use Rattle.leaf_cases.specs.Conditions.{AreKnown, IsKnown}
use Rattle.point_rows.specs.Exits.{AreExitRows, FitExits, exit_rows_at, formulas_with_exits}
use Rattle.point_rows.specs.Reading.{AreOverColumns}
use Rattle.point_rows.proofs.ExitMeanings.{exit_formulas-known}
use Rattle.point_rounds.specs.declared.source.RoundSource.{RoundSource}
use Rattle.point_rounds.specs.declared.table.PointTable.{PointTable}
use Rattle.point_rounds.specs.Source.{AreGraphsOf, IsRoundSource}
use Rattle.point_rounds.specs.Table.{IsTable}
use Rattle.point_rounds.proofs.RowColumns.{none-there}

-- ---- graphs and heads

-- a graph for each place of a procedure
pub graph-there : (program : Program) (graphs : List Graph) → AreGraphsOf program graphs → (proc : ℕ) → (o : Option Graph) → slice_get graphs proc ≡ o
    → unwrap_or (option_map (λ (graph : Graph). heads_of (plain graph)) o) [] ≡ heads_of (graph_of program proc)
graph-there program graphs of proc (Some graph) is = ap heads_of (of.are proc graph is).same
graph-there program graphs of proc None is =
    let past = none-there graphs proc is in
    let each = of.each in
    sym (ap (λ (o : Option Proc). heads_of (flow_of (body_of o))) (slice_get_past program.procs proc (omega (arith, past, each))))

-- the heads that stand for a procedure; none where it is not there
pub heads-there : (source : RoundSource) → IsRoundSource source → (proc : ℕ) → unwrap_or (slice_get source.heads.now proc) [] ≡ heads_of (graph_of source.program.now proc)
heads-there source ready proc =
    ap (λ (heads : List (List ℕ)). unwrap_or (slice_get heads proc) []) ready.heads
    ∙ ap (λ o. unwrap_or o []) (slice_get-map (λ (graph : Graph). heads_of (plain graph)) source.graphs.now proc)
    ∙ graph-there source.program.now source.graphs.now ready.graphs proc (slice_get source.graphs.now proc) refl

-- ---- formulas with rows at exits

module _ (program : Program) (known : List (Option Transition)) (are : AreKnown program known) (table : PointTable) (shape : IsTable program table) where
  pub exits-fit : FitExits known table.exits
  exits-fit = record { fit = λ proc f is. by proc f is (slice_get program.procs proc) refl }
    where
      by : (proc : ℕ) (f : Transition) → slice_get known proc ≡ Some (Some f) → (o : Option Proc) → slice_get program.procs proc ≡ o → AreExitRows f (exit_rows_at table.exits proc)
      by proc f is (Some p) there =
          let one : IsKnown program p f = are.fit proc p f there is in
          let from = one.enters in
          let to = one.leaves in
          subst (λ n. AreOverColumns n (exit_rows_at table.exits proc)) (omega (arith, from, to)) (shape.at_exit proc p there).over
      by proc f is None there =
          let past = none-there program.procs proc there in
          let all = shape.exits in
          subst (AreOverColumns (f.from + f.to)) (sym (ap (λ o. unwrap_or o []) (slice_get_past table.exits proc (omega (arith, past, all))))) refl

  pub exits-known : AreKnown program (formulas_with_exits known table.exits)
  exits-known = exit_formulas-known program known table.exits are exits-fit
