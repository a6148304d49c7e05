-- The rows of a table that are told are true where those of the table are.
use Rattle.std.proofs.Common.{◌≡◌, ℕ, suc, ◌+◌, ◌-◌, List, [], ◌∷◌, ◌++◌, Option, Some, Bool, true, false, refl, sym, ap, subst, ◌∙◌, arith}
use Rattle.std.specs.Prelude.{◌==◌, ◌||◌, slice_get}
use Rattle.std.specs.List.{AllByRecursion, range_with_len}
use Rattle.items.proofs.Each.{each-append, each-get, each-more}
use Rattle.linear_terms.specs.declared.row.Row.{Row}
use Rattle.syntax_tree.specs.declared.program.Proc.{Proc}
use Rattle.syntax_tree.specs.declared.program.Program.{Program}
use Rattle.execution.specs.Execution.{Returns}
use Rattle.polyhedra.proofs.Lists.{filter-passes}
use Rattle.flow_graph.specs.FlowGraph.{Arc, graph_of}
use Rattle.flow_graph.specs.Walks.{WalksTo}
use Rattle.point_induction.specs.Induction.{AreTrue, arcs_of}
use Rattle.point_induction.specs.Points.{heads_of, is_head, is_point}
use Rattle.point_rows.specs.Reading.{AreTrueOf}
use Rattle.report.specs.declared.points.PointRows.{PointRows}
use Rattle.report.specs.declared.points.RowsAt.{RowsAt}
use Rattle.report.specs.declared.points.RowsAt.TheVariants.{Entry, Loop, Return}
use Rattle.point_rounds.specs.declared.table.PointTable.{PointTable}
use Rattle.point_rounds.specs.Sayings.{pair_numbers, sayings_of_table}
use Rattle.point_rounds.specs.Table.{rows_at, rows_at_exit}
use Rattle.point_reports.specs.Blocks.{rows_at_loops, rows_from, rows_of_proc, rows_of_table, rows_told}
use Rattle.point_reports.specs.Claims.{AreMetAt, AreTrueAt, AreTrueOfReturns, PointRowsAreMet}

module _ (program : Program) (table : PointTable) (are : AreTrue program (sayings_of_table program table)) where
  true-at : (proc node : ℕ) → is_point (arcs_of program proc) node ≡ true → AreTrueAt program proc node (rows_at program table proc node)
  true-at proc node point = λ config chain same after walk.
      subst (λ q. AreTrueOf (rows_at program table q node) after) same
      (are.reached config chain node after (subst (λ q. is_point (arcs_of program q) node ≡ true) (sym same) point)
      (subst (λ q. WalksTo program q chain.top.globals chain.top.args node after) (sym same) walk)).rows

  true-returns : (proc : ℕ) → AreTrueOfReturns program proc (rows_at_exit table proc)
  true-returns proc = λ config chain same left value returns.
      subst (λ q. AreTrueOf (rows_at_exit table q) (pair_numbers program q chain.top.globals chain.top.args left value)) same
      (are.returned config chain left value (subst (λ q. Returns program q chain.top.globals chain.top.args left value) (sym same) returns))

  abbrev IsMet : PointRows → Type 0
  IsMet told = AreMetAt program told.proc told.at told.rows

  told-met : (proc : ℕ) (p : Proc) (at : RowsAt) (rows : List Row) → AreMetAt program proc at rows → AllByRecursion IsMet (rows_told program proc p at rows)
  told-met proc p at [] met = tt
  told-met proc p at (row ∷ rows) met = (met, tt)

  -- ---- heads

  some-same : {X : Type 0} {o : Option X} {x y : X} → o ≡ Some x → o ≡ Some y → x ≡ y
  some-same e f = cc

  loops-met : (proc : ℕ) (p : Proc) (number : ℕ) (heads : List ℕ)
      → ((k node : ℕ) → slice_get heads k ≡ Some node → slice_get (heads_of (graph_of program proc)) (number + k - 1) ≡ Some node)
      → AllByRecursion (λ node. is_point (arcs_of program proc) node ≡ true) heads
      → AllByRecursion IsMet (rows_at_loops program table proc p number heads)
  loops-met proc p number [] there points = tt
  loops-met proc p number (head ∷ heads) there points =
      each-append IsMet (rows_told program proc p (Loop number) (rows_at program table proc head)) (rows_at_loops program table proc p (number + 1) heads)
      (told-met proc p (Loop number) (rows_at program table proc head)
      (λ node is. let same : head ≡ node = some-same (subst (λ n. slice_get (heads_of (graph_of program proc)) n ≡ Some head) (omega arith) (there 0 head refl)) is in subst (λ n. AreTrueAt program proc n (rows_at program table proc head)) same (true-at proc head points.0)))
      (loops-met proc p (number + 1) heads (λ k node at. subst (λ n. slice_get (heads_of (graph_of program proc)) n ≡ Some node) (omega arith) (there (suc k) node at)) points.1)

  -- ---- the table

  point-by-head : (arcs : List Arc) (node : ℕ) → is_head arcs node ≡ true → is_point arcs node ≡ true
  point-by-head arcs node e = ap (λ b. (node == 0) || b) e ∙ or-true (node == 0)
    where
      or-true : (b : Bool) → (b || true) ≡ true
      or-true true = refl
      or-true false = refl

  heads-points : (proc : ℕ) → AllByRecursion (λ node. is_point (arcs_of program proc) node ≡ true) (heads_of (graph_of program proc))
  heads-points proc =
      each-more (λ node. is_head (arcs_of program proc) node ≡ true) (λ node. is_point (arcs_of program proc) node ≡ true) (point-by-head (arcs_of program proc)) (heads_of (graph_of program proc))
      (filter-passes (is_head (graph_of program proc).arcs) (range_with_len 0 (graph_of program proc).nodes))

  proc-met : (proc : ℕ) (p : Proc) → AllByRecursion IsMet (rows_of_proc program table proc p)
  proc-met proc p =
      let heads = heads_of (graph_of program proc) in
      each-append IsMet (rows_told program proc p Entry (rows_at program table proc 0)) (rows_at_loops program table proc p 1 heads ++ rows_told program proc p Return (rows_at_exit table proc))
      (told-met proc p Entry (rows_at program table proc 0) (true-at proc 0 refl))
      (each-append IsMet (rows_at_loops program table proc p 1 heads) (rows_told program proc p Return (rows_at_exit table proc))
      (loops-met proc p 1 heads (λ k node at. subst (λ n. slice_get heads n ≡ Some node) (omega arith) at) (heads-points proc))
      (told-met proc p Return (rows_at_exit table proc) (true-returns proc)))

  procs-met : (proc : ℕ) (procs : List Proc) → AllByRecursion IsMet (rows_from program table proc procs)
  procs-met proc [] = tt
  procs-met proc (p ∷ procs) = each-append IsMet (rows_of_proc program table proc p) (rows_from program table (proc + 1) procs) (proc-met proc p) (procs-met (proc + 1) procs)

  pub rows-met : PointRowsAreMet program (rows_of_table program table)
  rows-met n told at = each-get IsMet (rows_of_table program table) n told (procs-met 0 program.procs) at
