-- The rows at points are over the columns of their procedures.
use Rattle.std.proofs.Common.{◌≡◌, ◌≤◌, ℕ, Bool, true, false, List, [], ◌∷◌, Option, Some, None, inl, inr, refl, sym, ap, subst, arith, length}
use Rattle.std.specs.Prelude.{IsTrue, ◌==◌, slice_get, unwrap_or, if◌then◌else◌}
use Rattle.std.proofs.lemmas.Bool.{lt-ltb, ltb-true}
use Rattle.std.proofs.lemmas.Option.{slice_get_cases, slice_get_past}
use Rattle.linear_terms.specs.declared.col.Col.{Col}
use Rattle.linear_terms.specs.declared.col.Col.TheVariants.{At, Aux}
use Rattle.linear_terms.specs.declared.row.Row.{Row}
use Rattle.syntax_tree.specs.declared.program.Proc.{Proc}
use Rattle.syntax_tree.specs.declared.program.Program.{Program}
use Rattle.syntax_tree.specs.WellFormed.{IsWellFormed, width_of}
use Rattle.transition_formula.specs.Transition.{is_below}
use Rattle.transition_formula.proofs.ColumnTests.{more_columns_of}
use Rattle.vocabularies.specs.Ends.{entry_width}
use Rattle.flow_graph.specs.FlowGraph.{graph_of}
use Rattle.leaf_cases.specs.Conditions.{columns_at, columns_in}
use Rattle.proc_summary.proofs.Graphs.{proc-fit}
use Rattle.point_induction.specs.Points.{points_of}
use Rattle.point_rows.specs.Reading.{AreOverColumns}
use Rattle.point_rounds.specs.declared.table.PointTable.{PointTable}
use Rattle.point_rounds.specs.Table.{IsTable, list_at_node, point_columns, rows_at}

-- rows over columns are over more columns
pub over-more : (few many : ℕ) (rows : List Row) → few ≤ many → AreOverColumns few rows → AreOverColumns many rows
over-more few many rows less over = more_columns_of (is_below few 0) (is_below many 0) more rows over
  where
    more : (c : Col) → IsTrue (is_below few 0 c) → IsTrue (is_below many 0 c)
    more (At n) below = let lt = ltb-true n few below in lt-ltb n many (omega (arith, lt, less))
    more (Aux n) below = below

-- past the end of a list nothing is there
pub none-there : {A : Type 0} (xs : List A) (n : ℕ) → slice_get xs n ≡ None → length xs ≤ n
none-there xs n none = elim (slice_get_cases xs n).1 [ inl some ↦ let there = some.2 in absurd (cc) | inr past ↦ past.0 ]

module _ (program : Program) (table : PointTable) where
  none-listed : (node : ℕ) (nodes : List ℕ) (lists : List (List Row)) → lists ≡ [] → list_at_node node nodes lists ≡ []
  none-listed node [] lists e = refl
  none-listed node (point ∷ nodes) lists e = ap (list_at_node node (point ∷ nodes)) e

  -- no rows stand in a procedure that isn't there
  pub rows-none : IsTable program table → (proc node : ℕ) → slice_get program.procs proc ≡ None → rows_at program table proc node ≡ []
  rows-none shape proc node is =
      let past = none-there program.procs proc is in
      let all = shape.procs in
      let short : length table.points ≤ proc = omega (arith, past, all) in
      let none : unwrap_or (slice_get table.points proc) [] ≡ [] = ap (λ o. unwrap_or o []) (slice_get_past table.points proc short) in
      none-listed node (points_of (graph_of program proc)) (unwrap_or (slice_get table.points proc) []) none

  pub points-over : IsWellFormed program → IsTable program table → (proc node : ℕ) → AreOverColumns (columns_at program proc) (rows_at program table proc node)
  points-over formed shape proc node = by (slice_get program.procs proc) refl
    where
      narrow : (p : Proc) → p.params ≤ length p.columns → (b : Bool) → (if b then entry_width program p else width_of program p) ≤ width_of program p
      narrow p first true = omega (arith, first)
      narrow p first false = omega arith

      by : (o : Option Proc) → slice_get program.procs proc ≡ o → AreOverColumns (columns_in program o) (rows_at program table proc node)
      by (Some p) is = over-more (point_columns program p node) (width_of program p) (rows_at program table proc node) (narrow p (proc-fit program proc p formed is).first (node == 0)) (shape.at proc p is node).over
      by None is = subst (AreOverColumns 0) (sym (rows-none shape proc node is)) refl
