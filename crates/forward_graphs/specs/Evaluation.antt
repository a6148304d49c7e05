-- The evaluation of a graph from a source: a step for each pair of nodes that links lead between,
-- and by these a cell for each node.
use Rattle.std.specs.Prelude.{ℕ, List, [], ◌∷◌, ◌++◌, length, Bool, true, false, ◌&&◌, ◌==◌, Option, None, Some, if◌then◌else◌, option_to_list}
use Rattle.std.specs.List.{range_with_len, slice_get}
use Rattle.std.specs.Option.{unwrap_or}
use Rattle.path_expr.specs.declared.cell.Cell.{Cell}
use Rattle.path_expr.specs.declared.cell.Cell.TheVariants as known
use Rattle.path_expr.specs.declared.link.Link.{Link}
use Rattle.transition_formula.specs.Composition.{union_of, sequence_of, losses_in_sequence}
use Rattle.transition_formula.specs.Transition.{Transition}
use Rattle.posing.specs.Logs.{loss_notes}
use Rattle.posing.specs.Posing.{Posing, Done, Noted, ◌>>=◌, each}
use Rattle.polyhedra.specs.Vocabulary.{Vocabulary}
use Rattle.forward_graphs.specs.declared.joining.Joining.{Joining}
use Rattle.forward_graphs.specs.declared.step.Step.{Step}
use Rattle.checked_tree.specs.Graph.{Graph, link_at, leaf_at, vocabulary_at}
use Rattle.forward_graphs.specs.Graph.{step_at}
use Rattle.forward_graphs.specs.Order.{arrivals, in_order}
use Rattle.forward_graphs.specs.Within.{most_walk_cases, fitted_formula_within, settled_formula_within}

-- ---- a step for each link

-- the step of a link with this formula
abbrev pub step_of : Link → Transition → Step
step_of link f = record { from = link.from; to = link.to; formula = f }

-- the leaf of a number, settled and fitted between the vocabularies of its link's ends
abbrev pub leaf_formula : Graph → ℕ → Posing Transition
leaf_formula g number =
    settled_formula_within most_walk_cases (leaf_at g number) (vocabulary_at g (link_at g number).from)
    (vocabulary_at g (link_at g number).to)

-- the steps made, and that of one link more behind them
unfoldable pub with_leaf : Graph → List Step → ℕ → Posing (List Step)
with_leaf g made number =
    leaf_formula g number >>= λ f. Done (made ++ step_of (link_at g number) f ∷ [])

-- the steps of all links, in their order
unfoldable pub leaf_steps : Graph → Posing (List Step)
leaf_steps g = each (with_leaf g) [] (range_with_len 0 (length g.links))

-- ---- a step for each pair of ends

-- either of two formulas, fitted between two vocabularies
unfoldable pub either_formula : Transition → Transition → Vocabulary → Vocabulary
    → Posing Transition
either_formula left right from to =
    fitted_formula_within most_walk_cases (union_of left right) from to

-- both steps lead between the same nodes
abbrev pub have_same_ends : Step → Step → Bool
have_same_ends one other = one.from == other.from && one.to == other.to

-- the steps that are done, and behind them one that others may still be joined to
abbrev pub joining_of : List Step → Step → Joining
joining_of done last = record { done = done; last = Some last }

-- one step more: joined to the last one if both have the same ends, else behind it
abbrev pub joining_behind : Graph → List Step → Step → Step → Bool → Posing Joining
joining_behind g done last step true =
    either_formula last.formula step.formula (vocabulary_at g last.from) (vocabulary_at g last.to)
    >>= λ f. Done (joining_of done record { from = last.from; to = last.to; formula = f })
joining_behind g done last step false = Done (joining_of (done ++ last ∷ []) step)

-- one step more, where there may be no last one
abbrev pub joining_after : Graph → List Step → Option Step → Step → Posing Joining
joining_after g done None step = Done (joining_of done step)
joining_after g done (Some last) step = joining_behind g done last step (have_same_ends last step)

-- the steps with that of one number more
unfoldable pub with_joined : Graph → List Step → Joining → ℕ → Posing Joining
with_joined g steps joining number = joining_after g joining.done joining.last (step_at steps number)

-- all steps of a joining
abbrev pub all_steps : Joining → List Step
all_steps joining = joining.done ++ option_to_list joining.last

-- no step yet
abbrev pub no_steps : Joining
no_steps = record { done = []; last = None }

-- the steps in order, those of the same ends joined
unfoldable pub joined_steps : Graph → List Step → Posing (List Step)
joined_steps g steps =
    each (with_joined g steps) no_steps (in_order (length g.nodes) steps) >>= λ joining.
    Done (all_steps joining)

-- ---- a cell for each node

-- the cell of a node before; past the end there is no walk
abbrev pub cell_at : List (Cell Transition) → ℕ → Cell Transition
cell_at cells node = unwrap_or (slice_get cells node) known.Zero

-- the formula of one walk and then another, settled and fitted; losses are noted first
unfoldable pub sequence_formula : Transition → Transition → Vocabulary → Vocabulary
    → Posing Transition
sequence_formula first second from to =
    Noted (loss_notes (losses_in_sequence first second))
    (settled_formula_within most_walk_cases (sequence_of first second) from to)

-- what a step adds to a cell: nothing where there is no walk, itself where the empty walk is the
-- only one, else the sequence of both
abbrev pub walk_formula : Cell Transition → Transition → Vocabulary → Vocabulary
    → Posing (Option Transition)
walk_formula known.Zero f from to = Done None
walk_formula known.One f from to = Done (Some f)
walk_formula (known.Item a) f from to = sequence_formula a f from to >>= λ h. Done (Some h)

-- the formula found so far, and that of further walks
abbrev pub also_found : Option Transition → Option Transition → Vocabulary → Vocabulary
    → Posing (Option Transition)
also_found None more from to = Done more
also_found (Some f) None from to = Done (Some f)
also_found (Some f) (Some h) from to = either_formula f h from to >>= λ k. Done (Some k)

-- the formula found so far, and that of the walks whose last step this is
unfoldable pub with_walk : Cell Transition → Transition → Vocabulary → Vocabulary
    → Option Transition → Posing (Option Transition)
with_walk cell f from to found =
    walk_formula cell f from to >>= λ more. also_found found more from to

-- the same for the step of a number, from the source to a node
abbrev pub with_arrival : Graph → ℕ → List Step → List (Cell Transition) → ℕ → Option Transition
    → ℕ → Posing (Option Transition)
with_arrival g source steps cells node found number =
    with_walk (cell_at cells (step_at steps number).from) (step_at steps number).formula
    (vocabulary_at g source) (vocabulary_at g node) found

-- the formula of the walks to a node, by the cells of the nodes before it
unfoldable pub arrival_formula : Graph → ℕ → List Step → List (Cell Transition) → ℕ
    → Posing (Option Transition)
arrival_formula g source steps cells node =
    each (with_arrival g source steps cells node) None (arrivals steps node)

-- the cell of a node to which walks with this formula lead, or none
abbrev pub cell_of : Option Transition → Cell Transition
cell_of None = known.Zero
cell_of (Some f) = known.Item f

-- the cells of the nodes before, and behind them that of one node more; at the source the empty
-- walk is the only one
unfoldable pub with_node : Graph → ℕ → List Step → List (Cell Transition) → ℕ
    → Posing (List (Cell Transition))
with_node g source steps cells node =
    if node == source then Done (cells ++ known.One ∷ [])
    else (arrival_formula g source steps cells node >>= λ found. Done (cells ++ cell_of found ∷ []))

-- the cells of all nodes, from node 0 on
unfoldable pub cells_by : Graph → ℕ → List Step → Posing (List (Cell Transition))
cells_by g source steps = each (with_node g source steps) [] (range_with_len 0 (length g.nodes))

-- what stands at each node, from node 0 on, where the graph is evaluated from a source
unfoldable pub walk_cells : Graph → ℕ → Posing (List (Cell Transition))
walk_cells g source = leaf_steps g >>= λ leaves. joined_steps g leaves >>= cells_by g source
