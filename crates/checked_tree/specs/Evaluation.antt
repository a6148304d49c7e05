-- The evaluation of a graph: a formula for each operation of the stated elimination, in their
-- order.
use Rattle.std.specs.Prelude.{ℕ, List, [], ◌∷◌, ◌++◌, map, length, if◌then◌else◌}
use Rattle.std.specs.List.{range_with_len}
use Rattle.path_expr.specs.PathExpr.{PathExpr, Zero, One, Edge, Seq, Join, Star}
use Rattle.path_expr.specs.Elimination.{path_at}
use Rattle.path_expr.specs.Operations.{operations}
use Rattle.path_expr.specs.declared.cell.Cell.{Cell}
use Rattle.path_expr.specs.declared.cell.Cell.TheVariants as known
use Rattle.transition_formula.specs.Composition.{union_of, sequence_of, losses_in_sequence}
use Rattle.transition_formula.specs.Transition.{Transition}
use Rattle.posing.specs.Logs.{loss_notes}
use Rattle.posing.specs.Posing.{Posing, Done, Noted, ◌>>=◌, each}
use Rattle.polyhedra.specs.Settle.{settled_formula}
use Rattle.polyhedra.specs.Squash.{fitted_formula}
use Rattle.polyhedra.specs.Vocabulary.{Vocabulary}
use Rattle.phases.specs.Repetition.{repetition}
use Rattle.checked_tree.specs.Graph.{Graph, nothing, leaf_at, start_vocabulary, end_vocabulary, same_path}

-- the formula of each operation so far, in their order
abbrev pub Made : Type 0
Made = List (PathExpr × Transition)

-- the paths that have formulas, in their order
abbrev pub paths_of : Made → List PathExpr
paths_of made = map (λ entry. entry.0) made

-- of a path that was made twice the later formula counts
abbrev pub latest : PathExpr → Transition → Made → Transition
latest path found [] = found
latest path found (entry ∷ made) = latest path (if same_path entry.0 path then entry.1 else found)
    made

-- the formula of a path; nothing where it was not made
abbrev pub formula_at : Made → PathExpr → Transition
formula_at made path = latest path nothing made

-- ---- one operation

-- the formula settled, and then fitted between two vocabularies
unfoldable pub settled_and_fitted : Transition → Vocabulary → Vocabulary → Posing Transition
settled_and_fitted f from to = settled_formula f >>= λ g. fitted_formula g from to

-- a leaf is settled, then fitted
unfoldable pub leaf_formula : Transition → Vocabulary → Vocabulary → Posing Transition
leaf_formula leaf from to = settled_and_fitted leaf from to

-- so is a sequence, whose losses are noted before the first question
unfoldable pub sequence_formula : Transition → Transition → Vocabulary → Vocabulary
    → Posing Transition
sequence_formula first second from to =
    Noted (loss_notes (losses_in_sequence first second))
    (settled_and_fitted (sequence_of first second) from to)

-- a join is fitted
unfoldable pub join_formula : Transition → Transition → Vocabulary → Vocabulary → Posing Transition
join_formula left right from to = fitted_formula (union_of left right) from to

-- the formula of an operation, from those of its operands: a leaf's, a sequence's, a join's, or a
-- repetition at its node's vocabulary
abbrev pub own : Graph → Made → PathExpr → Posing Transition
own g made Zero = Done nothing
own g made One = Done nothing
own g made (Edge number) =
    leaf_formula (leaf_at g number) (start_vocabulary g (Edge number))
    (end_vocabulary g (Edge number))
own g made (Seq a b) =
    sequence_formula (formula_at made a) (formula_at made b) (start_vocabulary g a)
    (end_vocabulary g b)
own g made (Join a b) = join_formula (formula_at made a) (formula_at made b) (start_vocabulary g a)
    (end_vocabulary g a)
own g made (Star a) = repetition (formula_at made a) (start_vocabulary g a)

-- ---- all operations

-- the formulas made, with that of one path more behind them
abbrev pub with_entry : Made → PathExpr → Transition → Made
with_entry made path f = made ++ (path, f) ∷ []

-- the formulas made, with that of one operation more, by those before it
unfoldable pub with_made : Graph → Made → PathExpr → Posing Made
with_made g made path = own g made path >>= λ f. Done (with_entry made path f)

-- the formulas of all operations from a source, in the order of the elimination
unfoldable pub evaluation : Graph → ℕ → Posing Made
evaluation g source = each (with_made g) [] (operations (length g.nodes) g.links source)

-- ---- the cells

-- what stands at a node whose path expression this is
abbrev pub cell_of : Made → PathExpr → Cell Transition
cell_of made Zero = known.Zero
cell_of made One = known.One
cell_of made path = known.Item (formula_at made path)

-- what stands at a node, by its path from the source
abbrev pub cell_at : Graph → ℕ → Made → ℕ → Cell Transition
cell_at g source made node = cell_of made (path_at (length g.nodes) g.links source node)

-- what stands at each node, from node 0 on
abbrev pub cells_of : Graph → ℕ → Made → List (Cell Transition)
cells_of g source made = map (cell_at g source made) (range_with_len 0 (length g.nodes))

-- what stands at each node, from node 0 on, where the graph is evaluated from a source
unfoldable pub evaluated_cells : Graph → ℕ → Posing (List (Cell Transition))
evaluated_cells g source = evaluation g source >>= λ made. Done (cells_of g source made)
