-- What a line becomes: what it leaves behind, its columns, its assertions and its statements. Parts
-- come in the order of the text: a `for` is initialiser, condition, step and body, a `do` is body
-- and condition. (No `do` has a step; the definitions put it last.)
use Rattle.std.specs.Prelude.{ℕ, true, false, Option, None, Some, List, [], ◌∷◌, ◌++◌, length, replicate}
use Rattle.syntax_tree.specs.declared.program.Column.{Column}
use Rattle.syntax_tree.specs.declared.stmt.Stmt.{Stmt}
use Rattle.syntax_tree.specs.declared.stmt.Stmt.TheVariants as stmt
use Rattle.syntax_tree.specs.SourceExpr.{SourceExpr}
use Rattle.syntax_tree.specs.SourceLine.{SourceLine, Block, Local, Assign, Act, If, Loop, Break, Continue, Return, SourceLines, End, Then}
use Rattle.typing.specs.declared.env.Env.{Env}
use Rattle.typing.specs.declared.env.LoopPlace.{LoopPlace}
use Rattle.typing.specs.declared.env.LoopPlace.TheVariants.{InStep}
use Rattle.typing.specs.Calls.{act_checks, act_in, calls_in, put_in, put_temporaries}
use Rattle.typing.specs.Env.{body_place, without_scope, with_variable, with_assertions, with_scope, with_place, with_columns_taken}
use Rattle.typing.specs.Scopes.{column_of}
use Rattle.typing.specs.Terms.{temporaries, term_in}

-- ---- columns

-- the column of a parameter or a local, with its name
abbrev pub named_column : List ℕ → Column
named_column name = record { name = Some name }

-- so many columns without a name, as temporaries are
abbrev pub nameless : ℕ → List Column
nameless count = replicate count (record { name = None })

-- the temporaries of a value that goes into a column; [] where there is no value
abbrev pub value_columns : Option SourceExpr → List Column
value_columns None = []
value_columns (Some value) = nameless (put_temporaries value)

-- the columns of a line, and of several, in their order
abbrev mutual
  pub columns_of : SourceLine → List Column
  columns_of (Block lines) = all_columns_of lines
  columns_of (Local name at init) = named_column name ∷ value_columns init
  columns_of (Assign name at value) = nameless (put_temporaries value)
  columns_of (Act call) = nameless (put_temporaries call)
  columns_of (If cond on_true on_false) =
      nameless (temporaries cond) ++ all_columns_of on_true ++ all_columns_of on_false
  columns_of (Loop init cond step body false) =
      all_columns_of init ++ nameless (temporaries cond) ++ all_columns_of step ++ all_columns_of
      body
  columns_of (Loop init cond step body true) =
      all_columns_of init ++ all_columns_of body ++ nameless (temporaries cond) ++ all_columns_of
      step
  columns_of (Break at) = []
  columns_of (Continue at) = []
  columns_of (Return at value) = value_columns value

  pub all_columns_of : SourceLines → List Column
  all_columns_of End = []
  all_columns_of (Then line rest) = columns_of line ++ all_columns_of rest

-- ---- assertions

-- the places of the assertions, in the order of the text
abbrev mutual
  pub checks_of : SourceLine → List ℕ
  checks_of (Block lines) = all_checks_of lines
  checks_of (Local name at init) = []
  checks_of (Assign name at value) = []
  checks_of (Act call) = act_checks call
  checks_of (If cond on_true on_false) = all_checks_of on_true ++ all_checks_of on_false
  checks_of (Loop init cond step body false) = all_checks_of init ++ all_checks_of step
      ++ all_checks_of body
  checks_of (Loop init cond step body true) = all_checks_of init ++ all_checks_of body
      ++ all_checks_of step
  checks_of (Break at) = []
  checks_of (Continue at) = []
  checks_of (Return at value) = []

  pub all_checks_of : SourceLines → List ℕ
  all_checks_of End = []
  all_checks_of (Then line rest) = checks_of line ++ all_checks_of rest

-- ---- what is left behind

-- behind a value, whose temporaries are taken; nothing changes where there is none
abbrev pub with_value : Option SourceExpr → Env → Env
with_value None env = env
with_value (Some value) env = with_columns_taken (put_temporaries value) env

-- in the body of a loop, which is a scope
abbrev pub in_body : Env → Env
in_body env = with_scope (with_place (body_place env.place) env)

-- behind the body of a loop that stands at this place: the body's scope is gone
abbrev pub behind_body : LoopPlace → Env → Env
behind_body place env = with_place place (without_scope env)

-- in the step of a loop, which nothing leaves
abbrev pub in_step : Env → Env
in_step env = with_place InStep env

-- A line leaves the variables that it declares, the columns that it takes and the assertions that
-- it has; a block, a branch and a body are scopes, and so is a loop with its initialiser (C11 6.8).
abbrev mutual
  pub after : Env → SourceLine → Env
  after env (Block lines) = without_scope (after_all (with_scope env) lines)
  after env (Local name at init) = with_value init (with_variable name env)
  after env (Assign name at value) = with_columns_taken (put_temporaries value) env
  after env (Act call) = with_assertions (length (act_checks call))
      (with_columns_taken (put_temporaries call) env)
  after env (If cond on_true on_false) =
      without_scope
      (after_all (with_scope
      (without_scope
      (after_all (with_scope (with_columns_taken (temporaries cond) env)) on_true))) on_false)
  after env (Loop init cond step body false) =
      without_scope (behind_body env.place (after_all (in_body (with_place env.place
      (after_all (in_step (with_columns_taken (temporaries cond) (after_all (with_scope env) init)))
      step))) body))
  after env (Loop init cond step body true) =
      without_scope (with_place env.place (after_all (in_step (with_columns_taken (temporaries cond)
      (behind_body env.place (after_all (in_body (after_all (with_scope env) init)) body)))) step))
  after env (Break at) = env
  after env (Continue at) = env
  after env (Return at value) = with_value value env

  pub after_all : Env → SourceLines → Env
  after_all env End = env
  after_all env (Then line rest) = after_all (after env line) rest

-- ---- the parts of a line

-- in the first branch of an `if`, which is a scope, behind the temporaries of the condition
abbrev pub in_branch : Env → SourceExpr → Env
in_branch env cond = with_scope (with_columns_taken (temporaries cond) env)

-- in the second branch of an `if`, behind the columns and assertions of the first
abbrev pub in_second_branch : Env → SourceExpr → SourceLines → Env
in_second_branch env cond on_true =
    with_scope (without_scope (after_all (in_branch env cond) on_true))

-- at the condition of a loop that tests first, behind its initialiser
abbrev pub at_test : Env → SourceLines → Env
at_test env init = after_all (with_scope env) init

-- at the step of a loop that tests first, behind its condition
abbrev pub at_step : Env → SourceLines → SourceExpr → Env
at_step env init cond = in_step (with_columns_taken (temporaries cond) (at_test env init))

-- at the body of a loop that tests first, behind its step
abbrev pub at_body : Env → SourceLines → SourceExpr → SourceLines → Env
at_body env init cond step = in_body (with_place env.place (after_all (at_step env init cond) step))

-- at the body of a `do`, which comes first
abbrev pub at_first_body : Env → SourceLines → Env
at_first_body env init = in_body (after_all (with_scope env) init)

-- at the condition of a `do`, behind its body
abbrev pub at_last_test : Env → SourceLines → SourceLines → Env
at_last_test env init body = behind_body env.place (after_all (at_first_body env init) body)

-- at the step of a `do`, behind its condition
abbrev pub at_last_step : Env → SourceLines → SourceLines → SourceExpr → Env
at_last_step env init body cond =
    in_step (with_columns_taken (temporaries cond) (at_last_test env init body))

-- ---- statements

-- the statements that put a value into a column; [] where there is no value
abbrev pub value_statements : Env → ℕ → Option SourceExpr → List Stmt
value_statements env col None = []
value_statements env col (Some value) = put_in env col value

-- a local has any value until it is given one
abbrev pub local_statements : Env → ℕ → Option SourceExpr → List Stmt
local_statements env col None = stmt.Any col ∷ []
local_statements env col (Some value) = put_in env col value

-- The statements of a line, and of several. The calls of a condition stand before its `If`; those
-- of a loop's condition are made each time that it is tested.
abbrev mutual
  pub statements_of : Env → SourceLine → List Stmt
  statements_of env (Block lines) = all_statements_of (with_scope env) lines
  statements_of env (Local name at init) = local_statements (with_variable name env) env.next init
  statements_of env (Assign name at value) = put_in env (column_of env.scopes name) value
  statements_of env (Act call) = act_in env call
  statements_of env (If cond on_true on_false) =
      calls_in env cond
      ++ stmt.If (term_in env cond)
      (all_statements_of (in_branch env cond) on_true)
      (all_statements_of (in_second_branch env cond on_true) on_false)
      ∷ []
  statements_of env (Loop init cond step body false) =
      all_statements_of (with_scope env) init
      ++ stmt.Loop
      (calls_in (at_test env init) cond)
      (term_in (at_test env init) cond)
      (all_statements_of (at_body env init cond step) body)
      (all_statements_of (at_step env init cond) step)
      false
      ∷ []
  statements_of env (Loop init cond step body true) =
      all_statements_of (with_scope env) init
      ++ stmt.Loop
      (calls_in (at_last_test env init body) cond)
      (term_in (at_last_test env init body) cond)
      (all_statements_of (at_first_body env init) body)
      (all_statements_of (at_last_step env init body cond) step)
      true
      ∷ []
  statements_of env (Break at) = stmt.Break ∷ []
  statements_of env (Continue at) = stmt.Continue ∷ []
  statements_of env (Return at value) = value_statements env env.ret value ++ stmt.Return ∷ []

  pub all_statements_of : Env → SourceLines → List Stmt
  all_statements_of env End = []
  all_statements_of env (Then line rest) = statements_of env line ++ all_statements_of
      (after env line) rest
