-- What an activation has still to do at each node of its procedure's graph.
use Rattle.std.specs.Prelude.{◌≡◌, ◌↔◌, ℕ, Bool, true, false, Option, Some, List, [], ◌∷◌, slice_get}
use Rattle.syntax_tree.specs.declared.program.Program.{Program}
use Rattle.syntax_tree.specs.Term.{Term}
use Rattle.syntax_tree.specs.Code.{Statement, Set, Any, Call, Guard, Check, If, Loop, Break, Continue, Return, Code, End, Then}
use Rattle.syntax_tree.specs.Value.{State}
use Rattle.execution.specs.Machine.{Item, Do, Head, Test, Tail, LoopParts, pending}
use Rattle.flow_graph.specs.FlowGraph.{Arc, body_of, graph_of}
use Rattle.flow_graph.specs.Walks.{Stands, WalksTo}

-- a loop that was begun, by its parts
abbrev pub parts : Code → Term → Code → Code → Bool → LoopParts
parts pre cond body step first = record {
  pre = pre;
  cond = cond;
  body = body;
  step = step;
  first = first;
}

-- The items that are left at each node of a list of statements, in order of the nodes: `rest` at
-- its end. Those of the nodes after it follow.
abbrev mutual
  pub items_at : Code → List Item → List (List Item) → List (List Item)
  items_at End rest after = rest ∷ after
  items_at (Then statement code) rest after = (Do statement ∷ pending code rest)
      ∷ items_in statement (pending code rest) (items_at code rest after)

  pub items_in : Statement → List Item → List (List Item) → List (List Item)
  items_in (Set col value) rest after = after
  items_in (Any col) rest after = after
  items_in (Call proc args into) rest after = after
  items_in (Guard cond) rest after = after
  items_in (Check number cond) rest after = after
  items_in (If cond on_true on_false) rest after =
      items_at on_true rest (items_at on_false rest after)
  items_in (Loop pre cond body step false) rest after =
      items_at pre (Test (parts pre cond body step false) ∷ rest)
      (items_at body (Tail (parts pre cond body step false) ∷ rest)
      (items_at step (Head (parts pre cond body step false) ∷ rest) after))
  items_in (Loop pre cond body step true) rest after =
      items_at body (Tail (parts pre cond body step true) ∷ rest)
      (items_at pre (Test (parts pre cond body step true) ∷ rest) after)
  items_in Break rest after = after
  items_in Continue rest after = after
  items_in Return rest after = after

-- the items that are left at each node of a body, in order: none at its end, nor at the exit
abbrev pub all_items : Code → List (List Item)
all_items body = items_at body [] ([] ∷ [])

-- these items are left at a node of a body
abbrev pub At : Code → ℕ → List Item → Type 0
At body node items = slice_get (all_items body) node ≡ Some items

-- An activation stands at a call with these items behind it exactly as a walk leads to the
-- beginning of an edge that is the call and at whose end these items are left. So two equal calls
-- in one procedure are told apart.
abbrev pub CallsAreEdges : Type 0
CallsAreEdges = (program : Program) (proc : ℕ) (globals args : State) (callee : ℕ)
    (values : List Term) (into : Option ℕ)
    (rest : List Item) (final : State)
    → Stands program proc globals args (Do (Call callee values into) ∷ rest) final
    ↔ ((way : Arc) × (k : ℕ)
    × (slice_get (graph_of program proc).arcs k ≡ Some way) × (way.act ≡ Call callee values into)
    × At (body_of (slice_get program.procs proc)) way.to rest
    × WalksTo program proc globals args way.from final)
