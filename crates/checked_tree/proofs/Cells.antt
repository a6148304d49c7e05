-- The laws of an evaluation, on the cells that it comes to.
use Rattle.std.proofs.Common.{◌≡◌, ℕ, ◌<◌, length, Some, sym, ◌∙◌, subst}
use Rattle.std.specs.List.{slice_get}
use Rattle.std.proofs.lemmas.List.FromFn.{length-map-range_with_len}
use Rattle.std.proofs.lemmas.Option.{slice_get_within}
use Rattle.path_expr.specs.declared.cell.Cell.{Cell}
use Rattle.transition_formula.specs.Transition.{Transition}
use Rattle.posing.specs.Posing.{Done, Always}
use Rattle.posing.proofs.Paths.{always_bind}
use Rattle.polyhedra.proofs.ChangeTables.{first_got}
use Rattle.checked_tree.specs.Graph.{Graph, vocabulary_at}
use Rattle.checked_tree.specs.Evaluation.{Made, cell_at, cells_of, evaluation, evaluated_cells}
use Rattle.checked_tree.specs.Law.{IsEvaluated, FitsCell, AreFittedCells}
use Rattle.checked_tree.proofs.Whole.{evaluation-fits}

cell-same : (x y : Cell Transition) → Some x ≡ Some y → x ≡ y
cell-same x y e = cc

module _ (g : Graph) (source : ℕ) where
  pub cells-one_each : (made : Made) → length (cells_of g source made) ≡ length g.nodes
  cells-one_each made = length-map-range_with_len (cell_at g source made) 0 (length g.nodes)

  -- what is so of the cell of each node is so of each cell that is found
  pub cells-found : (P : ℕ → Cell Transition → Type 0) (made : Made) → ((node : ℕ) → node < length g.nodes → P node (cell_at g source made node)) →
      (node : ℕ) (cell : Cell Transition) → slice_get (cells_of g source made) node ≡ Some cell → P node cell
  cells-found P made all node cell found =
      let lt : node < length g.nodes = subst (λ n. node < n) (cells-one_each made) (slice_get_within (cells_of g source made) node cell found) in
      subst (P node) (cell-same (cell_at g source made node) cell (sym (first_got (cell_at g source made) (length g.nodes) node lt) ∙ found)) (all node lt)

  pub cells-fit : IsEvaluated g source → Always (AreFittedCells g source) (evaluated_cells g source)
  unfolding evaluated_cells
  cells-fit is =
      always_bind (λ made. (node : ℕ) → node < length g.nodes → FitsCell (vocabulary_at g source) (vocabulary_at g node) (cell_at g source made node)) (AreFittedCells g source)
      (evaluation g source) (λ made. Done (cells_of g source made)) (evaluation-fits g source is)
      (λ made fits. record {
        one_each = cells-one_each made;
        fits = cells-found (λ node cell. FitsCell (vocabulary_at g source) (vocabulary_at g node) cell) made fits;
      })
