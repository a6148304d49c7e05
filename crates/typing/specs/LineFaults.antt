-- The faults of lines.
use Rattle.std.specs.Prelude.{ℕ, Bool, true, false, not, ◌||◌, Option, None, Some, List, [], ◌++◌}
use Rattle.syntax_tree.specs.SourceExpr.{SourceExpr}
use Rattle.syntax_tree.specs.SourceLine.{SourceLine, Block, Local, Assign, Act, If, Loop, Break, Continue, Return, SourceLines, End, Then}
use Rattle.typing.specs.declared.env.Env.{Env}
use Rattle.typing.specs.declared.env.LoopPlace.{LoopPlace}
use Rattle.typing.specs.declared.env.LoopPlace.TheVariants.{Outside, InBody, InStep}
use Rattle.typing.specs.declared.error.TypeError.{TypeError}
use Rattle.typing.specs.declared.error.TypeError.TheVariants.{Unknown, Twice, Arity}
use Rattle.typing.specs.CallFaults.{act_faults, condition_faults, put_faults, slot_faults, variable_faults, when}
use Rattle.typing.specs.Env.{with_variable, with_scope}
use Rattle.typing.specs.Lines.{after, at_body, at_first_body, at_last_step, at_last_test, at_step, at_test, in_branch, in_second_branch}
use Rattle.typing.specs.Scopes.{Scope, is_declared_here}
use Rattle.typing.specs.Specials.{is_special}

-- a second declaration in one scope, or the declaration of a special name
abbrev pub twice_faults : List Scope → ℕ → List ℕ → List TypeError
twice_faults scopes at name = when (is_special name || is_declared_here scopes name) (Twice at)

-- the faults of a declaration in the innermost scope: of its name, and a column too many
abbrev pub declare_faults : Env → ℕ → List ℕ → List TypeError
declare_faults env at name = twice_faults env.scopes at name ++ slot_faults env at

-- `break` and `continue` stand in the body of a loop (C11 6.8.6.2, 6.8.6.3)
abbrev pub may_leave : LoopPlace → Bool
may_leave Outside = false
may_leave InBody = true
may_leave InStep = false

-- the fault of a `break` or `continue` outside of the body of a loop: one or none
abbrev pub leave_faults : Env → ℕ → List TypeError
leave_faults env at = when (not (may_leave env.place)) (Unknown at)

-- the faults of the value with which a local begins; [] where there is none
abbrev pub init_faults : Env → Option SourceExpr → List TypeError
init_faults env None = []
init_faults env (Some value) = put_faults env value

-- a procedure without a value returns none (C11 6.8.6.4)
abbrev pub return_faults : Env → ℕ → Option SourceExpr → List TypeError
return_faults env at None = []
return_faults env at (Some value) = when (not env.returns) (Arity at) ++ put_faults env value

-- the faults of a line, and of several
abbrev mutual
  pub faults_in : Env → SourceLine → List TypeError
  faults_in env (Block lines) = all_faults_in (with_scope env) lines
  faults_in env (Local name at init) = declare_faults env at name
      ++ init_faults (with_variable name env) init
  faults_in env (Assign name at value) = variable_faults env at name ++ put_faults env value
  faults_in env (Act call) = act_faults env call
  faults_in env (If cond on_true on_false) =
      condition_faults env cond
      ++ all_faults_in (in_branch env cond) on_true
      ++ all_faults_in (in_second_branch env cond on_true) on_false
  faults_in env (Loop init cond step body false) =
      all_faults_in (with_scope env) init
      ++ condition_faults (at_test env init) cond
      ++ all_faults_in (at_step env init cond) step
      ++ all_faults_in (at_body env init cond step) body
  faults_in env (Loop init cond step body true) =
      all_faults_in (with_scope env) init
      ++ all_faults_in (at_first_body env init) body
      ++ condition_faults (at_last_test env init body) cond
      ++ all_faults_in (at_last_step env init body cond) step
  faults_in env (Break at) = leave_faults env at
  faults_in env (Continue at) = leave_faults env at
  faults_in env (Return at value) = return_faults env at value

  pub all_faults_in : Env → SourceLines → List TypeError
  all_faults_in env End = []
  all_faults_in env (Then line rest) = faults_in env line ++ all_faults_in (after env line) rest
