-- The closure of a table: formulas of the members by one more unfolding of each chain of calls,
-- where the group's calls on the way are read by the table.
use Rattle.std.specs.Prelude.{ℕ, ◌+◌, ◌==◌, List, [], ◌∷◌, ◌++◌, false, not, Option, length, map, slice_get}
use Rattle.std.specs.List.{filter, flat_map, range_with_len}
use Rattle.std.specs.Option.{unwrap_or}
use Rattle.path_expr.specs.declared.cell.Cell.{Cell}
use Rattle.path_expr.specs.declared.cell.Cell.TheVariants as known
use Rattle.path_expr.specs.declared.link.Link.{Link}
use Rattle.syntax_tree.specs.declared.program.Proc.{Proc}
use Rattle.syntax_tree.specs.declared.program.Program.{Program}
use Rattle.transition_formula.specs.declared.loss.Loss.{Loss}
use Rattle.transition_formula.specs.Composition.{identity_of, sequence_of, losses_in_sequence}
use Rattle.transition_formula.specs.Hiding.{hidden, losses_in_hiding}
use Rattle.transition_formula.specs.Posts.{with_entries}
use Rattle.transition_formula.specs.Transition.{Transition}
use Rattle.posing.specs.Logs.{loss_notes}
use Rattle.posing.specs.Posing.{Posing, Done, Noted, ◌>>=◌, each}
use Rattle.polyhedra.specs.Vocabulary.{Vocabulary}
use Rattle.checked_tree.specs.Evaluation.{evaluated_cells, settled_and_fitted}
use Rattle.checked_tree.specs.Graph.{Graph, graph_of}
use Rattle.vocabularies.specs.Ends.{pair_of}
use Rattle.proc_summary.specs.Flow.{cells_from, columns_of, formula_at}
use Rattle.proc_summary.specs.Subject.{Subject, subject_of}
use Rattle.proc_summary.specs.Summary.{Ends, ends_of}
use Rattle.newton_rounds.specs.declared.calls.Sides.{Sides}
use Rattle.newton_rounds.specs.Members.{GroupCall, calls_of, calls_from, members_of, with_table}
use Rattle.newton_rounds.specs.Pairs.{PairEnds, Stretch, base_from, losses_in_base, pair_formula, losses_in_pair}

-- the ends of a procedure, and the vocabulary of its pairs
abbrev pub pair_ends : Program → Proc → PairEnds
pair_ends program p = record { ends = ends_of program p; pair = pair_of program p }

-- the ends and pairs of the procedures with these numbers, in their order; a number past the
-- program's end has none
abbrev pub ends_of_members : Program → List ℕ → List PairEnds
ends_of_members program procs = map (pair_ends program) (members_of program procs)

-- ---- both sides of a group's calls

-- one evaluation from the end of a call: what holds from the entry to where it begins, and from
-- where it ends to the exit
unfoldable pub sides_from : Subject → List (Cell Transition) → GroupCall → Posing Sides
sides_from s starts call =
    cells_from s call.to >>= λ ends.
    Done record {
      before = formula_at (columns_of s) starts call.from;
      after = formula_at (columns_of s) ends s.exit;
    }

-- the sides of one call more, behind those that are made
unfoldable pub with_sides : Subject → List (Cell Transition) → List Sides → GroupCall
    → Posing (List Sides)
with_sides s starts made call = sides_from s starts call >>= λ sides. Done (made ++ sides ∷ [])

-- those of one member: one evaluation from its entry, and one from the end of each call
unfoldable pub with_member : Program → List ℕ → List (Option Transition) → List Sides → ℕ × Proc
    → Posing (List Sides)
with_member program procs known made member =
    cells_from (subject_of program member.1 known) 0 >>= λ starts.
    each (with_sides (subject_of program member.1 known) starts) made
    (calls_of procs member.0 member.1)

-- the members with their places
abbrev pub with_places_from : {A : Type 0} → ℕ → List A → List (ℕ × A)
with_places_from place [] = []
with_places_from place (x ∷ xs) = (place, x) ∷ with_places_from (place + 1) xs

-- both sides of each call of the group, member after member, in the order of a member's edges
unfoldable pub sides_of : Program → List ℕ → List (Option Transition) → Posing (List Sides)
sides_of program procs known =
    each (with_member program procs known) [] (with_places_from 0 (members_of program procs))

-- the calls with their sides
abbrev pub stretches_with : List GroupCall → List Sides → List Stretch
stretches_with [] sides = []
stretches_with (call ∷ calls) [] = []
stretches_with (call ∷ calls) (one ∷ sides) =
    record { call = call; before = one.before; after = one.after } ∷ stretches_with calls sides

-- ---- the graph of the group

-- a call as a link between the places of its two members
abbrev pub group_link : Stretch → Link
group_link s = record { from = s.call.caller; to = s.call.callee }

-- what stands for a vocabulary past the end: it has no columns
abbrev pub no_vocabulary : Vocabulary
no_vocabulary = record { columns = 0; named = []; harvested = []; rule = 0; extra = [] }

-- what stands for the ends of a procedure past the end: no globals, no value and no columns
abbrev pub no_ends : Ends
no_ends =
    record {
      globals = 0;
      returns = false;
      full = no_vocabulary;
      entry = no_vocabulary;
      exit = no_vocabulary;
    }

-- what stands for a member past the end: no ends, and a pair without columns
abbrev pub no_pair : PairEnds
no_pair = record { ends = no_ends; pair = no_vocabulary }

-- the ends of the member at a place of the group, from 0; past the end `no_pair`
abbrev pub ends_at : List PairEnds → ℕ → PairEnds
ends_at members place = unwrap_or (slice_get members place) no_pair

-- the formula of a call's link, from the pair of the caller to that of the callee
abbrev pub group_leaf : List PairEnds → Stretch → Transition
group_leaf members s = pair_formula (ends_at members s.call.caller) (ends_at members s.call.callee)
    s

-- what is lost in making the formula of a call's link
abbrev pub losses_in_group_leaf : List PairEnds → Stretch → List Loss
losses_in_group_leaf members s = losses_in_pair (ends_at members s.call.caller)
    (ends_at members s.call.callee) s

-- the graph: the nodes are the members, by their places, with the vocabularies of their pairs; the
-- links are the calls of the group, in order
abbrev pub group_graph : List PairEnds → List Stretch → Graph
group_graph members stretches =
    graph_of (map group_link stretches) (map (group_leaf members) stretches)
    (map (λ member. member.pair) members)

-- ---- one member's formula

-- from one pair to another: no case where no chain of calls leads, and the identity where none was
-- made
abbrev pub pair_cell : ℕ → ℕ → Cell Transition → Transition
pair_cell from to known.Zero = record { from = from; to = to; cases = [] }
pair_cell from to known.One = identity_of from
pair_cell from to (known.Item f) = f

-- the places without this one, in their order
abbrev pub others_in : ℕ → List ℕ → List ℕ
others_in place places = filter (λ n. not (n == place)) places

-- the places of so many members: this one first, and the others in order
abbrev pub order_from : ℕ → ℕ → List ℕ
order_from place count = place ∷ others_in place (range_with_len 0 count)

-- the chains that end with a member, whose last activation calls no other of the group
abbrev pub chain_end : List PairEnds → List Transition → List (Cell Transition) → ℕ → ℕ → Transition
chain_end members bases cells place n =
    sequence_of (pair_cell (ends_at members place).pair.columns (ends_at members n).pair.columns
    (unwrap_or (slice_get cells n) known.Zero))
    (unwrap_or (slice_get bases n) record {
      from = (ends_at members n).pair.columns;
      to = 0;
      cases = [];
    })

-- what is lost in putting the base of a member behind the chains of calls that lead to it
abbrev pub losses_in_chain_end : List PairEnds → List Transition → List (Cell Transition) → ℕ → ℕ
    → List Loss
losses_in_chain_end members bases cells place n =
    losses_in_sequence
    (pair_cell (ends_at members place).pair.columns (ends_at members n).pair.columns
    (unwrap_or (slice_get cells n) known.Zero))
    (unwrap_or (slice_get bases n) record {
      from = (ends_at members n).pair.columns;
      to = 0;
      cases = [];
    })

-- all chains from a member, over its pair
abbrev pub chains_of : List PairEnds → List Transition → List (Cell Transition) → ℕ → Transition
chains_of members bases cells place =
    record {
      from = (ends_at members place).pair.columns;
      to = 0;
      cases = flat_map (λ n. (chain_end members bases cells place n).cases)
          (order_from place (length members));
    }

-- what is lost in making all chains from a member, in the same order
abbrev pub losses_in_chains : List PairEnds → List Transition → List (Cell Transition) → ℕ → List Loss
losses_in_chains members bases cells place =
    flat_map (losses_in_chain_end members bases cells place) (order_from place (length members))

-- the exit's columns become auxiliaries after the case's own, and these are the posts
abbrev pub exits_told : PairEnds → Transition → Transition
exits_told member f =
    hidden member.ends.entry.columns
    (with_entries (range_with_len member.ends.entry.columns member.ends.exit.columns) f)

-- what is lost in making the exit's columns auxiliaries
abbrev pub losses_in_exits : PairEnds → Transition → List Loss
losses_in_exits member f =
    losses_in_hiding member.ends.entry.columns
    (with_entries (range_with_len member.ends.entry.columns member.ends.exit.columns) f)

-- the formula of the member at a place, from its chains: between its entry and its exit, settled
-- and fitted; losses are noted before the first question
unfoldable pub closure_at : List PairEnds → List Transition → ℕ → List (Cell Transition)
    → Posing Transition
closure_at members bases place cells =
    Noted
    (loss_notes
    (losses_in_chains members bases cells place
    ++ losses_in_exits (ends_at members place) (chains_of members bases cells place)))
    (settled_and_fitted (exits_told (ends_at members place) (chains_of members bases cells place))
    (ends_at members place).ends.entry (ends_at members place).ends.exit)

-- the formula of the member at a place, from one evaluation of the group's graph; what is lost in
-- the leaves is noted before that
unfoldable pub closed_member : List PairEnds → List Stretch → List Transition → ℕ
    → Posing Transition
closed_member members stretches bases place =
    Noted (loss_notes (flat_map (losses_in_group_leaf members) stretches))
    (evaluated_cells (group_graph members stretches) place) >>= λ cells.
    closure_at members bases place cells

-- the formula of the member at a place, behind those that are made
unfoldable pub with_closed : List PairEnds → List Stretch → List Transition → List Transition → ℕ
    → Posing (List Transition)
with_closed members stretches bases made place =
    closed_member members stretches bases place >>= λ f. Done (made ++ f ∷ [])

-- ---- the closure

-- the formula of each member in the order of the group, from the bases, and from the sides of the
-- calls by a table
unfoldable pub closure_of : Program → List ℕ → List (Option Transition) → List Transition
    → List Transition → Posing (List Transition)
closure_of program procs known bases table =
    sides_of program procs (with_table procs table known) >>= λ sides.
    each
    (with_closed (ends_of_members program procs)
    (stretches_with (calls_from procs 0 (members_of program procs)) sides) bases)
    [] (range_with_len 0 (length (members_of program procs)))

-- ---- the bases

-- what holds at the exit of a procedure, by one evaluation from its entry
unfoldable pub exit_from : Subject → Posing (Option Transition)
exit_from s = cells_from s 0 >>= λ cells. Done (formula_at (columns_of s) cells s.exit)

-- what holds of the pairs of activations without a call of the group, by one evaluation from the
-- entry
unfoldable pub base_of : Program → List (Option Transition) → Proc → Posing Transition
base_of program known p =
    cells_from (subject_of program p known) 0 >>= λ cells.
    Noted (loss_notes
    (losses_in_base (pair_ends program p)
    (formula_at (columns_of (subject_of program p known)) cells
    (subject_of program p known).exit)))
    (Done (base_from (pair_ends program p)
    (formula_at (columns_of (subject_of program p known)) cells
    (subject_of program p known).exit)))

-- the base of one procedure more, behind those that are made
unfoldable pub with_base : Program → List (Option Transition) → List Transition → Proc
    → Posing (List Transition)
with_base program known made p = base_of program known p >>= λ base. Done (made ++ base ∷ [])

-- the base of each member in the order of the group, where the members' own formulas are unknown
unfoldable pub bases_of : Program → List ℕ → List (Option Transition) → Posing (List Transition)
bases_of program procs known = each (with_base program (with_table procs [] known)) []
    (members_of program procs)
