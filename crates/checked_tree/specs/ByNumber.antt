-- The evaluation of a plan: the same formulas, by the numbers of paths.
use Rattle.std.specs.Prelude.{◌≡◌, ℕ, List, map, length, replicate, slice_set}
use Rattle.std.specs.List.{slice_get}
use Rattle.std.specs.Option.{unwrap_or}
use Rattle.path_expr.specs.declared.cell.Cell.{Cell}
use Rattle.path_expr.specs.declared.cell.Cell.TheVariants as known
use Rattle.path_expr.specs.declared.link.Link.{Link}
use Rattle.transition_formula.specs.Transition.{Transition}
use Rattle.posing.specs.Posing.{Posing, Done, ◌>>=◌, each}
use Rattle.phases.specs.Repetition.{repetition}
use Rattle.checked_tree.specs.declared.key.Key.{Key}
use Rattle.checked_tree.specs.declared.key.Key.TheVariants as key
use Rattle.checked_tree.specs.Graph.{Graph, nothing, link_at, leaf_at, vocabulary_at}
use Rattle.checked_tree.specs.Evaluation.{leaf_formula, sequence_formula, join_formula, evaluated_cells}
use Rattle.checked_tree.specs.Law.{IsEvaluated}
use Rattle.checked_tree.specs.Plan.{AreDistinct, IsPlanned}

-- what was made of a path: the nodes that it leads from and to, and its formula
pub record Entry : Type 0 where
  pub from : ℕ
  pub to : ℕ
  pub formula : Transition

-- what was made of each path so far, by its number; nothing where it was not made
abbrev pub Entries : Type 0
Entries = List Entry

-- what stands for a path that was not made: the formula that holds of nothing, from node 0 to node
-- 0
abbrev pub blank : Entry
blank = record { from = 0; to = 0; formula = nothing }

-- what was made of the path of a number; past the end `blank`
abbrev pub entry_at : Entries → ℕ → Entry
entry_at entries n = unwrap_or (slice_get entries n) blank

-- the key of a path's number; past the end that of link 0
abbrev pub key_at : List Key → ℕ → Key
key_at keys n = unwrap_or (slice_get keys n) (key.Edge 0)

-- the nodes that the path of a key leads from and to
abbrev pub ends_by : Graph → Entries → Key → Link
ends_by g entries (key.Edge number) = link_at g number
ends_by g entries (key.Seq i j) = record {
  from = (entry_at entries i).from;
  to = (entry_at entries j).to;
}
ends_by g entries (key.Join i j) = record {
  from = (entry_at entries i).from;
  to = (entry_at entries i).to;
}
ends_by g entries (key.Star i) = record {
  from = (entry_at entries i).from;
  to = (entry_at entries i).from;
}

-- the formula of a link, between the vocabularies of its ends
abbrev pub link_formula : Graph → ℕ → Posing Transition
link_formula g number =
    leaf_formula (leaf_at g number) (vocabulary_at g (link_at g number).from)
    (vocabulary_at g (link_at g number).to)

-- its formula, from those of its operands
abbrev pub formula_by : Graph → Entries → Key → Posing Transition
formula_by g entries (key.Edge number) = link_formula g number
formula_by g entries (key.Seq i j) =
    sequence_formula (entry_at entries i).formula (entry_at entries j).formula
    (vocabulary_at g (entry_at entries i).from) (vocabulary_at g (entry_at entries j).to)
formula_by g entries (key.Join i j) =
    join_formula (entry_at entries i).formula (entry_at entries j).formula
    (vocabulary_at g (entry_at entries i).from) (vocabulary_at g (entry_at entries i).to)
formula_by g entries (key.Star i) =
    repetition (entry_at entries i).formula (vocabulary_at g (entry_at entries i).from)

-- what is made of a key's path with this formula
abbrev pub entry_of : Graph → Entries → Key → Transition → Entry
entry_of g entries k f = record {
  from = (ends_by g entries k).from;
  to = (ends_by g entries k).to;
  formula = f;
}

-- one operation more, of the path of a number
unfoldable pub with_number : Graph → List Key → Entries → ℕ → Posing Entries
with_number g keys entries n =
    formula_by g entries (key_at keys n)
    >>= λ f. Done (slice_set entries n (entry_of g entries (key_at keys n) f))

-- all operations of a plan
unfoldable pub entries_of : Graph → List Key → List ℕ → Posing Entries
entries_of g keys order = each (with_number g keys) (replicate (length keys) blank) order

-- what stands at a node
abbrev pub cell_by : Entries → Cell ℕ → Cell Transition
cell_by entries known.Zero = known.Zero
cell_by entries known.One = known.One
cell_by entries (known.Item n) = known.Item (entry_at entries n).formula

-- what stands at each node, from node 0 on, by a plan's keys, order and cells
unfoldable pub evaluated_cells_by : Graph → List Key → List ℕ → List (Cell ℕ)
    → Posing (List (Cell Transition))
evaluated_cells_by g keys order cells = entries_of g keys order
    >>= λ entries. Done (map (cell_by entries) cells)

-- it is the evaluation of the graph: the same questions and notes in the same order, and the same
-- formulas
abbrev pub PlansEvaluate : Type 0
PlansEvaluate =
    (g : Graph) (source : ℕ) (keys : List Key) (order : List ℕ) (cells : List (Cell ℕ)) →
    IsEvaluated g source → AreDistinct keys
    → IsPlanned (length g.nodes) g.links source keys order cells
    → evaluated_cells g source ≡ evaluated_cells_by g keys order cells
