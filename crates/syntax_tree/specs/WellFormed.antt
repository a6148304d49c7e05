-- What a program of the core keeps: its parts name one another rightly, and it stays within the
-- limits.
use Rattle.std.specs.Prelude.{◌≡◌, ℕ, ◌+◌, ◌≤◌, Bool, true, false, not, ◌&&◌, ◌||◌, ◌==◌, nat_le, nat_lt, Option, None, Some, is_some, IsSomeAnd, IsTrue, List, [], ◌∷◌, length, take, slice_get, All, if◌then◌else◌}
use Rattle.std.specs.List.{list_all}
use Rattle.syntax_tree.specs.Limits.{most_procedures, most_parameters, most_globals, most_slots, most_nodes, most_checks, most_cases, most_operators}
use Rattle.syntax_tree.specs.declared.program.Column.{Column}
use Rattle.syntax_tree.specs.declared.program.Proc.{Proc}
use Rattle.syntax_tree.specs.declared.program.Program.{Program}
use Rattle.syntax_tree.specs.declared.well_formed.Place.{Place}
use Rattle.syntax_tree.specs.declared.well_formed.Place.TheVariants.{Outside, InBody, InTest}
use Rattle.syntax_tree.specs.Cases.{cases_of, joint_cases}
use Rattle.syntax_tree.specs.Code.{Statement, Set, Any, Call, Guard, Check, If, Loop, Break, Continue, Return, Code, End, Then, code_of}
use Rattle.syntax_tree.specs.Nodes.{graph_nodes}
use Rattle.syntax_tree.specs.Term.{Term, Lit, Col, Unary, Binary}

-- each column of the expression is below `width`
abbrev pub columns_below : ℕ → Term → Bool
columns_below width (Lit value) = true
columns_below width (Col col) = nat_lt col width
columns_below width (Unary sign inner) = columns_below width inner
columns_below width (Binary op left right) = columns_below width left && columns_below width right

-- each column of each of these expressions is below `width`
abbrev pub all_columns_below : ℕ → List Term → Bool
all_columns_below width [] = true
all_columns_below width (e ∷ rest) = columns_below width e && all_columns_below width rest

-- how many operators an expression has, those with one operand among them
abbrev pub operators_of : Term → ℕ
operators_of (Lit value) = 0
operators_of (Col col) = 0
operators_of (Unary sign inner) = 1 + operators_of inner
operators_of (Binary op left right) = 1 + operators_of left + operators_of right

-- how many operators several expressions have together: 0 for none
abbrev pub joint_operators : List Term → ℕ
joint_operators [] = 0
joint_operators (e ∷ rest) = operators_of e + joint_operators rest

-- whether an expression may be a value: its columns are below `width`, its operators and the cases
-- of its value within the limits
abbrev pub value_fits : ℕ → Term → Bool
value_fits width e =
    columns_below width e && nat_le (operators_of e) most_operators && nat_le (cases_of e).value
    most_cases

-- whether an expression may be a condition: its columns are below `width`, its operators and the
-- cases of its truth and of its falsity within the limits
abbrev pub cond_fits : ℕ → Term → Bool
cond_fits width e =
    columns_below width e && nat_le (operators_of e) most_operators
    && nat_le (cases_of e).truth most_cases && nat_le (cases_of e).falsity most_cases

-- whether expressions may be the arguments of a call: their columns are below `width`, and their
-- operators and cases together within the limits
abbrev pub args_fit : ℕ → List Term → Bool
args_fit width args =
    all_columns_below width args && nat_le (joint_operators args) most_operators
    && nat_le (joint_cases args) most_cases

-- the column that takes a call's value, where there is one, is below `width`
abbrev pub into_fits : ℕ → Option ℕ → Bool
into_fits width None = true
into_fits width (Some col) = nat_lt col width

-- there is such a procedure, it takes so many arguments, and it returns a value where one is
-- awaited
abbrev pub callee_fits : Option Proc → ℕ → Bool → Bool
callee_fits None args awaits = false
callee_fits (Some callee) args awaits = callee.params == args && (callee.returns || not awaits)

-- `break` and `continue` stand in the body of a loop
abbrev pub may_leave : Place → Bool
may_leave Outside = false
may_leave InBody = true
may_leave InTest = false

-- the body of a loop; inside a `pre` or `step` nothing may leave, the loops there included
abbrev pub body_place : Place → Place
body_place Outside = InBody
body_place InBody = InBody
body_place InTest = InTest

-- a statement, and a list of statements, of a procedure with `width` columns
abbrev mutual
  pub statement_fits : Program → ℕ → Place → Statement → Bool
  statement_fits program width place (Set col value) = nat_lt col width && value_fits width value
  statement_fits program width place (Any col) = nat_lt col width
  statement_fits program width place (Call proc args into) =
      callee_fits (slice_get program.procs proc) (length args) (is_some into) && args_fit width args
      && into_fits width into
  statement_fits program width place (Guard cond) = cond_fits width cond
  statement_fits program width place (Check number cond) =
      nat_le 1 number && nat_le number (length program.checks) && cond_fits width cond
  statement_fits program width place (If cond on_true on_false) =
      cond_fits width cond && code_fits program width place on_true && code_fits program width place
      on_false
  statement_fits program width place (Loop pre cond body step first) =
      cond_fits width cond && code_fits program width InTest pre
      && code_fits program width (body_place place) body && code_fits program width InTest step
  statement_fits program width place Break = may_leave place
  statement_fits program width place Continue = may_leave place
  statement_fits program width place Return = true

  pub code_fits : Program → ℕ → Place → Code → Bool
  code_fits program width place End = true
  code_fits program width place (Then statement rest) =
      statement_fits program width place statement && code_fits program width place rest

-- how often the assertion with this number stands in a statement, and in a list of statements
abbrev mutual
  pub statement_checks : ℕ → Statement → ℕ
  statement_checks k (Check number cond) = if k == number then 1 else 0
  statement_checks k (If cond on_true on_false) = code_checks k on_true + code_checks k on_false
  statement_checks k (Loop pre cond body step first) =
      code_checks k pre + code_checks k body + code_checks k step
  statement_checks k _ = 0

  pub code_checks : ℕ → Code → ℕ
  code_checks k End = 0
  code_checks k (Then statement rest) = statement_checks k statement + code_checks k rest

-- how often the assertion with this number stands in the bodies of these procedures
abbrev pub procs_checks : ℕ → List Proc → ℕ
procs_checks k [] = 0
procs_checks k (p ∷ rest) = code_checks k (code_of p.body) + procs_checks k rest

-- the columns of a procedure: the globals, its own, and the returned value
abbrev pub width_of : Program → Proc → ℕ
width_of program p = length program.globals + length p.columns + 1

-- whether the column has a name, as a temporary has not
abbrev pub has_name : Column → Bool
has_name column = is_some column.name

-- a procedure of the program is within the limits, its parameters are its first columns, and its
-- body names what there is
pub record IsProcFit (program : Program) (p : Proc) : Type 0 where
  pub params : p.params ≤ most_parameters
  pub slots : length p.columns ≤ most_slots
  -- the parameters are the first columns, and have names
  pub first : p.params ≤ length p.columns
  pub named : IsTrue (list_all has_name (take p.params p.columns))
  pub body : IsTrue (code_fits program (width_of program p) Outside (code_of p.body))
  pub nodes : graph_nodes (code_of p.body) ≤ most_nodes

-- a program is within the limits, it has its `main`, its procedures fit, and each of its assertions
-- stands in one place
pub record IsWellFormed (program : Program) : Type 0 where
  pub procedures : length program.procs ≤ most_procedures
  pub globals : length program.globals ≤ most_globals
  pub assertions : length program.checks ≤ most_checks
  -- `main` is a procedure without parameters
  pub main : IsSomeAnd (slice_get program.procs program.main) (λ p. p.params ≡ 0)
  pub each : All (IsProcFit program) program.procs
  -- the rule by which iterations are summed up is one of the four that there are
  pub first_rule : 1 ≤ program.rule
  pub last_rule : program.rule ≤ 4
  -- each assertion stands in one place
  pub once : (k : ℕ) → 1 ≤ k → k ≤ length program.checks → procs_checks k program.procs ≡ 1
