-- Statements of the core program as plain data, by whose cases their meaning is defined. The cases
-- are those of `Stmt`, and a list of statements is a `Code`.
use Rattle.std.specs.Prelude.{ℕ, Bool, Option, List, [], ◌∷◌, map}
use Rattle.syntax_tree.specs.declared.stmt.Stmt.{Stmt, fold-Stmt}
use Rattle.syntax_tree.specs.declared.stmt.Stmt.TheOpen.{Stmt-F}
use Rattle.syntax_tree.specs.Term.{Term, term_of}

mutual
  -- a statement of the core program, with columns and procedures by their places (from 0) and
  -- assertions by their numbers (from 1)
  pub data Statement : Type 0 where
    Set : (col : ℕ) (value : Term) → Statement
    Any : (col : ℕ) → Statement
    Call : (proc : ℕ) (args : List Term) (into : Option ℕ) → Statement
    Guard : (cond : Term) → Statement
    Check : (number : ℕ) (cond : Term) → Statement
    If : (cond : Term) (on_true on_false : Code) → Statement
    Loop : (pre : Code) (cond : Term) (body step : Code) (first : Bool) → Statement
    Break : Statement
    Continue : Statement
    Return : Statement

  -- a list of statements, in the order in which they are run
  pub data Code : Type 0 where
    End : Code
    Then : (statement : Statement) (rest : Code) → Code

-- the `Code` of these statements, in their order
abbrev pub code_from : List Statement → Code
code_from [] = End
code_from (statement ∷ rest) = Then statement (code_from rest)

-- the plain form of a statement whose inner statements are in plain form already
abbrev pub statement_layer : Stmt-F Statement → Statement
statement_layer (Stmt-F.Set col value) = Set col (term_of value)
statement_layer (Stmt-F.Any col) = Any col
statement_layer (Stmt-F.Call proc args into) = Call proc (map term_of args) into
statement_layer (Stmt-F.Guard cond) = Guard (term_of cond)
statement_layer (Stmt-F.Check number cond) = Check number (term_of cond)
statement_layer (Stmt-F.If cond on_true on_false) =
    If (term_of cond) (code_from on_true) (code_from on_false)
statement_layer (Stmt-F.Loop pre cond body step first) =
    Loop (code_from pre) (term_of cond) (code_from body) (code_from step) first
statement_layer Stmt-F.Break = Break
statement_layer Stmt-F.Continue = Continue
statement_layer Stmt-F.Return = Return

-- the plain form of a statement
abbrev pub statement_of : Stmt → Statement
statement_of = fold-Stmt Statement statement_layer

-- the plain form of a list of statements
abbrev pub code_of : List Stmt → Code
code_of [] = End
code_of (statement ∷ rest) = Then (statement_of statement) (code_of rest)
