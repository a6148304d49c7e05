-- The flow of a procedure: a formula for each node that counts, from its entry to there.
use Rattle.std.specs.Prelude.{ℕ, List, Option, None, Some, map}
use Rattle.std.specs.List.{slice_get}
use Rattle.std.specs.Option.{unwrap_or}
use Rattle.path_expr.specs.declared.cell.Cell.{Cell}
use Rattle.path_expr.specs.declared.cell.Cell.TheVariants as known
use Rattle.transition_formula.specs.Composition.{identity_of}
use Rattle.transition_formula.specs.Transition.{Transition}
use Rattle.posing.specs.Logs.{loss_notes}
use Rattle.posing.specs.Posing.{Posing, Done, Noted, ◌>>=◌}
use Rattle.checked_tree.specs.Evaluation.{evaluated_cells}
use Rattle.checked_tree.specs.Graph.{vocabulary_at}
use Rattle.proc_summary.specs.declared.stop.Flow.{Flow}
use Rattle.proc_summary.specs.declared.stop.NodeFormula.{NodeFormula}
use Rattle.proc_summary.specs.Subject.{Subject, graph_by}

-- ---- all nodes

-- what stands at each node, from a source: what was lost in the leaves is noted before the first
-- question
unfoldable pub cells_from : Subject → ℕ → Posing (List (Cell Transition))
cells_from s source = Noted (loss_notes s.lost) (evaluated_cells (graph_by s) source)

-- ---- the nodes that count

-- a cell as a formula over so many columns: none where no way leads, and the identity where nothing
-- was done
abbrev pub formula_of : ℕ → Cell Transition → Option Transition
formula_of columns known.Zero = None
formula_of columns known.One = Some (identity_of columns)
formula_of columns (known.Item f) = Some f

-- the formula at a node, over so many columns; None where no way leads, and past the end
abbrev pub formula_at : ℕ → List (Cell Transition) → ℕ → Option Transition
formula_at columns cells node = formula_of columns (unwrap_or (slice_get cells node) known.Zero)

-- a node with the formula at it
abbrev pub stop_at : ℕ → List (Cell Transition) → ℕ → NodeFormula
stop_at columns cells node = record { node = node; formula = formula_at columns cells node }

-- how many columns the states have
abbrev pub columns_of : Subject → ℕ
columns_of s = (vocabulary_at (graph_by s) 0).columns

-- the formulas at the exit, at the assertions, at the calls and at the points, in order, by what
-- stands at each node
abbrev pub flow_in : Subject → List (Cell Transition) → Flow
flow_in s cells =
    record {
      exit = stop_at (columns_of s) cells s.exit;
      checks = map (stop_at (columns_of s) cells) s.checks;
      calls = map (stop_at (columns_of s) cells) s.calls;
      points = map (stop_at (columns_of s) cells) s.points;
    }

-- the flow of a procedure from its entry, node 0, behind the questions that it poses
unfoldable pub flow_from : Subject → Posing Flow
flow_from s = cells_from s 0 >>= λ cells. Done (flow_in s cells)
