-- The flow graph of a procedure (Allen 1970) as plain data. Nodes are numbers. A list of statements
-- that begins at node `c` makes the nodes from `c + 1` on, in order, and ends at the last of them;
-- so the number of each node is found by counting, also that of a node which comes later.
use Rattle.std.specs.Prelude.{ℕ, pos, ◌+◌, true, false, List, [], ◌∷◌, ◌++◌, Option, None, Some, slice_get}
use Rattle.syntax_tree.specs.declared.op.Sign.TheVariants.{Not}
use Rattle.syntax_tree.specs.declared.program.Proc.{Proc}
use Rattle.syntax_tree.specs.declared.program.Program.{Program}
use Rattle.syntax_tree.specs.Term.{Term, Lit, Unary}
use Rattle.syntax_tree.specs.Code.{Statement, Set, Any, Call, Guard, Check, If, Loop, Break, Continue, Return, Code, End, Then, code_of}
use Rattle.flow_graph.specs.declared.making.Targets.{Targets}
use Rattle.syntax_tree.specs.Nodes.{code_nodes, graph_nodes, statement_nodes}

-- An edge. What it does is a statement: a guard, an assignment, a column set to any number, or a
-- call.
pub record Arc : Type 0 where
  pub from : ℕ
  pub to : ℕ
  pub act : Statement

-- the node at which an assertion stands
pub record CheckPlace : Type 0 where
  pub node : ℕ
  pub number : ℕ
  pub cond : Term

-- a flow graph: how many nodes it has, its edges in order, and the places of its assertions
pub record FlowGraph : Type 0 where
  pub nodes : ℕ
  pub arcs : List Arc
  pub checks : List CheckPlace

-- the edge that leads from a node to another and does this
abbrev pub arc : ℕ → ℕ → Statement → Arc
arc from to act = record { from = from; to = to; act = act }

-- what passes in every state
abbrev pub skip : Statement
skip = Guard (Lit (pos 1))

-- what passes where a condition is false
abbrev pub unless : Term → Statement
unless cond = Guard (Unary Not cond)

-- where `break` and `continue` lead inside the body of a loop; `return` leads where it led before
abbrev pub inside : Targets → ℕ → ℕ → Targets
inside t break_to continue_to = record {
  break_to = break_to;
  continue_to = continue_to;
  exit = t.exit;
}

-- The edges of a statement that begins at node `c`, and of a list of statements (C11 6.8), in
-- order. A branch ends in a node of its own, and both lead on to the last. A loop comes back to the
-- node behind its beginning; what it does before its test and after its body stands outside the
-- body, so that `break` there is that of the loop around it.
abbrev mutual
  pub statement_arcs : Targets → ℕ → Statement → List Arc
  statement_arcs t c (Set col value) = arc c (c + 1) (Set col value) ∷ []
  statement_arcs t c (Any col) = arc c (c + 1) (Any col) ∷ []
  statement_arcs t c (Call proc args into) = arc c (c + 1) (Call proc args into) ∷ []
  statement_arcs t c (Guard cond) = arc c (c + 1) (Guard cond) ∷ []
  statement_arcs t c (Check number cond) = arc c (c + 1) (Guard cond) ∷ []
  statement_arcs t c (If cond on_true on_false) =
      let end_true : ℕ = c + 1 + code_nodes on_true in
      let end_false : ℕ = end_true + 1 + code_nodes on_false in
      arc c (c + 1) (Guard cond) ∷ code_arcs t (c + 1) on_true
      ++ arc c (end_true + 1) (unless cond) ∷ code_arcs t (end_true + 1) on_false
      ++ arc end_true (end_false + 1) skip ∷ arc end_false (end_false + 1) skip ∷ []
  statement_arcs t c (Loop pre cond body step false) =
      let test : ℕ = c + 1 + code_nodes pre in
      let end_body : ℕ = test + 1 + code_nodes body in
      let end_step : ℕ = end_body + 1 + code_nodes step in
      arc c (c + 1) skip ∷ code_arcs t (c + 1) pre
      ++ arc test (test + 1) (Guard cond) ∷ code_arcs (inside t (end_step + 1) (end_body + 1))
      (test + 1) body
      ++ arc end_body (end_body + 1) skip ∷ code_arcs t (end_body + 1) step
      ++ arc end_step (c + 1) skip ∷ arc test (end_step + 1) (unless cond) ∷ []
  statement_arcs t c (Loop pre cond body step true) =
      let end_body : ℕ = c + 1 + code_nodes body in
      let test : ℕ = end_body + 1 + code_nodes pre in
      arc c (c + 1) skip ∷ code_arcs (inside t (test + 1) (end_body + 1)) (c + 1) body
      ++ arc end_body (end_body + 1) skip ∷ code_arcs t (end_body + 1) pre
      ++ arc test (c + 1) (Guard cond) ∷ arc test (test + 1) (unless cond) ∷ []
  statement_arcs t c Break = arc c t.break_to skip ∷ []
  statement_arcs t c Continue = arc c t.continue_to skip ∷ []
  statement_arcs t c Return = arc c t.exit skip ∷ []

  pub code_arcs : Targets → ℕ → Code → List Arc
  code_arcs t c End = []
  code_arcs t c (Then statement rest) = statement_arcs t c statement
      ++ code_arcs t (c + statement_nodes statement) rest

-- the assertions of a statement that begins at node `c`, and of a list of statements, in order
abbrev mutual
  pub checks_at : ℕ → Statement → List CheckPlace
  checks_at c (Check number cond) = record { node = c; number = number; cond = cond } ∷ []
  checks_at c (If cond on_true on_false) =
      code_checks_at (c + 1) on_true ++ code_checks_at (c + 1 + code_nodes on_true + 1) on_false
  checks_at c (Loop pre cond body step false) =
      let body_at : ℕ = c + 1 + code_nodes pre + 1 in
      code_checks_at (c + 1) pre ++ code_checks_at body_at body ++ code_checks_at
      (body_at + code_nodes body + 1) step
  checks_at c (Loop pre cond body step true) =
      code_checks_at (c + 1) body ++ code_checks_at (c + 1 + code_nodes body + 1) pre
  checks_at c _ = []

  pub code_checks_at : ℕ → Code → List CheckPlace
  code_checks_at c End = []
  code_checks_at c (Then statement rest) =
      checks_at c statement ++ code_checks_at (c + statement_nodes statement) rest

-- the exit of the graph of a body: the last node
abbrev pub exit_of : Code → ℕ
exit_of body = code_nodes body + 1

-- outside of loops nothing is left to break out of, so all ways lead to the exit
abbrev pub outermost : Code → Targets
outermost body = record { break_to = exit_of body; continue_to = exit_of body; exit = exit_of body }

-- The flow graph of a body: its statements from node 0 on, and the exit behind their end.
abbrev pub flow_of : Code → FlowGraph
flow_of body = record {
  nodes = graph_nodes body;
  arcs = code_arcs (outermost body) 0 body ++ arc (code_nodes body) (exit_of body) skip ∷ [];
  checks = code_checks_at 0 body;
}

-- the body of a procedure; without statements where there is no procedure
abbrev pub body_of : Option Proc → Code
body_of None = End
body_of (Some p) = code_of p.body

-- the flow graph of the procedure at this place of a program
abbrev pub graph_of : Program → ℕ → FlowGraph
graph_of program proc = flow_of (body_of (slice_get program.procs proc))
