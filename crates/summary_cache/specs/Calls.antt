-- Which procedures a text calls, and which ones its program does: each call of one of the text's
-- own procedures is a statement of the program, and no other statement is a call.
use Rattle.std.specs.Prelude.{◌≡◌, ℕ, Option, None, Some, List, [], ◌∷◌, ◌++◌, map, slice_get, if◌then◌else◌}
use Rattle.std.specs.Option.{option_map}
use Rattle.syntax_tree.specs.declared.program.Proc.{Proc}
use Rattle.syntax_tree.specs.declared.program.Program.{Program}
use Rattle.syntax_tree.specs.declared.tree.Item.{Item}
use Rattle.syntax_tree.specs.declared.tree.Item.TheVariants.{Global, Proto, Body}
use Rattle.syntax_tree.specs.Code.{code_of}
use Rattle.syntax_tree.specs.SourceExpr as expr
use Rattle.syntax_tree.specs.SourceExpr.{SourceExpr, SourceExprs, Lit, Var, Call, Unary, Binary}
use Rattle.syntax_tree.specs.SourceLine.{SourceLine, SourceLines, Block, Local, Assign, Act, If, Loop, Break, Continue, Return, End, Then, source_lines_of}
use Rattle.flow_graph.specs.Groups.{called}
use Rattle.typing.specs.Specials.{is_special}
use Rattle.summary_cache.specs.Accepted.{Accepts}

-- ---- of a text

-- a special name is that of no procedure of the text
abbrev pub own_name : List ℕ → List (List ℕ)
own_name name = if is_special name then [] else name ∷ []

-- the names that an expression calls, and several: left ones first, and inner ones before outer
-- ones
abbrev mutual
  pub expression_names : SourceExpr → List (List ℕ)
  expression_names (Lit at value) = []
  expression_names (Var at name) = []
  expression_names (Call at name args) = all_expression_names args ++ own_name name
  expression_names (Unary at sign inner) = expression_names inner
  expression_names (Binary at op left right) = expression_names left ++ expression_names right

  pub all_expression_names : SourceExprs → List (List ℕ)
  all_expression_names expr.End = []
  all_expression_names (expr.Then first rest) = expression_names first ++ all_expression_names rest

-- the names that an expression calls, where there is one; else []
abbrev pub value_names : Option SourceExpr → List (List ℕ)
value_names None = []
value_names (Some value) = expression_names value

-- The names that a line calls, and several. Of a loop its initialiser comes first, then its
-- condition, its body and its step.
abbrev mutual
  pub line_names : SourceLine → List (List ℕ)
  line_names (Block lines) = all_line_names lines
  line_names (Local name at init) = value_names init
  line_names (Assign name at value) = expression_names value
  line_names (Act call) = expression_names call
  line_names (If cond on_true on_false) =
      expression_names cond ++ (all_line_names on_true ++ all_line_names on_false)
  line_names (Loop init cond step body first) =
      all_line_names init ++ (expression_names cond ++ all_line_names body ++ all_line_names step)
  line_names (Break at) = []
  line_names (Continue at) = []
  line_names (Return at value) = value_names value

  pub all_line_names : SourceLines → List (List ℕ)
  all_line_names End = []
  all_line_names (Then line rest) = line_names line ++ all_line_names rest

-- the names that each procedure calls, in the order of the text
abbrev pub called_names : List Item → List (List (List ℕ))
called_names [] = []
called_names (Global name at init ∷ rest) = called_names rest
called_names (Proto name at returns params ∷ rest) = called_names rest
called_names (Body name at returns params lines end ∷ rest) = all_line_names (source_lines_of lines)
    ∷ called_names rest

-- ---- of a program

-- the numbers in the calls of a procedure
abbrev pub callees_in : Proc → List ℕ
callees_in proc = called (code_of proc.body)

-- the numbers in the calls of each procedure
abbrev pub callees : Program → List (List ℕ)
callees program = map callees_in program.procs

-- the name of a procedure, in bytes
abbrev pub proc_name : Proc → List ℕ
proc_name proc = proc.name

-- the name of the procedure with this number
abbrev pub name_at : List Proc → ℕ → Option (List ℕ)
name_at procs number = option_map proc_name (slice_get procs number)

-- ---- the law

-- each call of one of the text's own procedures is a call of the program, in their order, and there
-- are no others
abbrev pub CallsAreStatements : Type 0
CallsAreStatements = (text : List ℕ) (program : Program) (accepted : Accepts text program)
    → map (map (name_at program.procs)) (callees program)
    ≡ map (map Some) (called_names accepted.tree.items)
