-- How many nodes the flow graph of a procedure has.
use Rattle.std.specs.Prelude.{ℕ, ◌+◌, Bool, true, false}
use Rattle.syntax_tree.specs.Code.{Statement, Set, Any, Call, Guard, Check, If, Loop, Break, Continue, Return, Code, End, Then}

-- A loop with its body first has no node between its test and its body, and makes no step.
abbrev pub loop_nodes : Bool → ℕ → ℕ → ℕ → ℕ
loop_nodes true pre body step = 3 + pre + body
loop_nodes false pre body step = 4 + pre + body + step

-- the nodes that a statement adds, and those that a list of statements adds
abbrev mutual
  pub statement_nodes : Statement → ℕ
  statement_nodes (Set col value) = 1
  statement_nodes (Any col) = 1
  statement_nodes (Call proc args into) = 1
  statement_nodes (Guard cond) = 1
  statement_nodes (Check number cond) = 1
  statement_nodes (If cond on_true on_false) = 3 + code_nodes on_true + code_nodes on_false
  statement_nodes (Loop pre cond body step first) =
      loop_nodes first (code_nodes pre) (code_nodes body) (code_nodes step)
  statement_nodes Break = 1
  statement_nodes Continue = 1
  statement_nodes Return = 1

  pub code_nodes : Code → ℕ
  code_nodes End = 0
  code_nodes (Then statement rest) = statement_nodes statement + code_nodes rest

-- the nodes of a procedure with this body: its entry and its exit beside those of its statements
abbrev pub graph_nodes : Code → ℕ
graph_nodes body = 2 + code_nodes body
