-- Lines without faults stay within the limits on columns and on assertions.
use Rattle.std.proofs.Common.{◌≡◌, ℕ, ◌+◌, ◌≤◌, Bool, true, false, Option, None, Some, List, [], length, refl, arith}
use Rattle.std.specs.Prelude.{◌==◌}
use Rattle.std.proofs.lemmas.Grind.{common_steps}
use Rattle.syntax_tree.specs.declared.core_expr.Core.{Core}
use Rattle.syntax_tree.specs.Limits.{most_checks}
use Rattle.syntax_tree.specs.SourceExpr.{SourceExpr, Lit, Var, Call, Unary, Binary, SourceExprs}
use Rattle.syntax_tree.specs.SourceExpr as expr
use Rattle.syntax_tree.specs.SourceLine.{SourceLine, Block, Local, Assign, Act, If, Loop, Break, Continue, Return, SourceLines, End, Then}
use Rattle.typing.specs.declared.callee.Callee.{Callee}
use Rattle.typing.specs.declared.env.Env.{Env}
use Rattle.typing.specs.declared.env.LoopPlace.TheVariants.{InStep}
use Rattle.typing.specs.declared.special.Special.{Special}
use Rattle.typing.specs.declared.special.Special.TheVariants.{Assert, Assume, Nondet, Error, Abort, Exit}
use Rattle.typing.specs.CallFaults.{act_faults, all_expression_faults, argument_faults, condition_faults, expression_faults, number_faults, put_faults, slot_faults}
use Rattle.typing.specs.Calls.{if_assertion, listed_if, put_temporaries}
use Rattle.typing.specs.Env.{with_variable, with_assertions, with_scope, with_columns_taken}
use Rattle.typing.specs.LineFaults.{all_faults_in, declare_faults, faults_in, init_faults, return_faults}
use Rattle.typing.specs.Lines.{after, after_all, at_body, at_first_body, at_last_step, at_last_test, at_step, at_test, in_branch, in_second_branch, with_value}
use Rattle.typing.specs.Scopes.{callee_of, if_special, if_procedure, meaning_of}
use Rattle.typing.specs.Specials.{special_of}
use Rattle.typing.specs.Terms.{all_temporaries, temporaries, terms_in}
use Rattle.typing.proofs.Splits.{first_nil, second_nil, not_when}
use Rattle.typing.proofs.Moves.{Moves, moves_opened, moves_closed, moves_placed, in_body_moves, behind_body_moves}

-- the columns that are taken and the assertions above are no more than there may be
pub record IsWithin (env : Env) : Type 0 where
  pub columns : env.next ≤ env.full
  pub checks : env.number ≤ most_checks

pub still_within : {a b : Env} → Moves a b 0 0 → IsWithin a → IsWithin b
still_within m w = record { columns = omega (arith, m.next, m.full, w.columns); checks = omega (arith, m.number, w.checks) }

taken_within : (columns : ℕ) (env : Env) → env.next + columns ≤ env.full → IsWithin env → IsWithin (with_columns_taken columns env)
unfolding with_columns_taken
taken_within columns env l w = record { columns = l; checks = w.checks }

-- a column that may be taken
slot_free : (env : Env) (at : ℕ) → slot_faults env at ≡ [] → env.next ≤ env.full → env.next + 1 ≤ env.full
slot_free env at e l = let differ : (env.next == env.full) ≡ false = not_when (env.next == env.full) _ e in grind (arith, common_steps, differ, l)

slot_behind : (columns : ℕ) (env : Env) (at : ℕ) → slot_faults (with_columns_taken columns env) at ≡ [] → env.next + columns ≤ env.full → env.next + columns + 1 ≤ env.full
unfolding with_columns_taken
slot_behind columns env at e l = slot_free (record env { next = env.next + columns }) at e l

behind : (m n : ℕ) (env : Env) → (with_columns_taken m env).next + n ≤ (with_columns_taken m env).full → env.next + (m + n) ≤ env.full
unfolding with_columns_taken
behind m n env l = omega (arith, l)

mutual
  pub expression_within : (e : SourceExpr) (env : Env) (right : Bool) → expression_faults env right e ≡ [] → IsWithin env → env.next + temporaries e ≤ env.full
  expression_within (Lit at value) env right f w = omega (arith, w.columns)
  expression_within (Var at name) env right f w = omega (arith, w.columns)
  expression_within (Call at name args) env right f w =
      let f2 = first_nil _ _ f in
      let l = all_within args env right (second_nil _ _ (first_nil _ _ f2)) w in
      let s = slot_behind (all_temporaries args) env at (second_nil _ _ f) l in
      omega (arith, s)
  expression_within (Unary at sign inner) env right f w = expression_within inner env right f w
  expression_within (Binary at op left rest) env right f w =
      let l = expression_within left env right (first_nil _ _ f) w in
      behind (temporaries left) (temporaries rest) env (expression_within rest (with_columns_taken (temporaries left) env) _ (second_nil _ _ f) (taken_within (temporaries left) env l w))

  pub all_within : (es : SourceExprs) (env : Env) (right : Bool) → all_expression_faults env right es ≡ [] → IsWithin env → env.next + all_temporaries es ≤ env.full
  all_within expr.End env right f w = omega (arith, w.columns)
  all_within (expr.Then e rest) env right f w =
      let l = expression_within e env right (first_nil _ _ f) w in
      behind (temporaries e) (all_temporaries rest) env (all_within rest (with_columns_taken (temporaries e) env) right (second_nil _ _ f) (taken_within (temporaries e) env l w))

put_within : (e : SourceExpr) (env : Env) → put_faults env e ≡ [] → IsWithin env → env.next + put_temporaries e ≤ env.full
put_within (Lit at value) env f w = omega (arith, w.columns)
put_within (Var at name) env f w = omega (arith, w.columns)
put_within (Call at name args) env f w = all_within args env false (second_nil _ _ (first_nil _ _ f)) w
put_within (Unary at sign inner) env f w = expression_within inner env false (first_nil _ _ f) w
put_within (Binary at op left right) env f w = expression_within (Binary at op left right) env false (first_nil _ _ f) w

value_within : (value : Option SourceExpr) (env : Env) → init_faults env value ≡ [] → IsWithin env → IsWithin (with_value value env)
value_within None env f w = w
value_within (Some e) env f w = taken_within (put_temporaries e) env (put_within e env f w) w

pub declared_within : (name : List ℕ) (env : Env) (at : ℕ) → declare_faults env at name ≡ [] → IsWithin env → IsWithin (with_variable name env)
unfolding with_variable
declared_within name env at f w = let l = slot_free env at (second_nil _ _ f) w.columns in record { columns = l; checks = w.checks }

return_init : (value : Option SourceExpr) (env : Env) (at : ℕ) → return_faults env at value ≡ [] → init_faults env value ≡ []
return_init None env at f = refl
return_init (Some e) env at f = second_nil _ _ f

-- an assertion that may be numbered
number_free : (env : Env) (at : ℕ) → number_faults env.number at ≡ [] → env.number ≤ most_checks → env.number + 1 ≤ most_checks
number_free env at e l = let differ : (env.number == most_checks) ≡ false = not_when (env.number == most_checks) _ e in grind (arith, common_steps, differ, l)

checks_free : (o : Option Special) (other : Callee) (env : Env) (terms : List Core) (at : ℕ) (args : SourceExprs) → argument_faults env.number terms (if_special o other) at args ≡ []
    → env.number ≤ most_checks → env.number + length (listed_if (if_assertion o) at) ≤ most_checks
checks_free None other env terms at args f l = omega (arith, l)
checks_free (Some Assert) other env terms at args f l = let n = number_free env at (first_nil _ _ f) l in omega (arith, n)
checks_free (Some Assume) other env terms at args f l = omega (arith, l)
checks_free (Some Nondet) other env terms at args f l = omega (arith, l)
checks_free (Some Error) other env terms at args f l = let n = number_free env at f l in omega (arith, n)
checks_free (Some Abort) other env terms at args f l = omega (arith, l)
checks_free (Some Exit) other env terms at args f l = omega (arith, l)

call_checks : (env : Env) (at : ℕ) (name : List ℕ) (args : SourceExprs) → argument_faults env.number (terms_in env args) (callee_of env.scopes name) at args ≡ []
    → env.number ≤ most_checks → env.number + length (listed_if (if_assertion (special_of name)) at) ≤ most_checks
unfolding callee_of
call_checks env at name args f l = checks_free (special_of name) (if_procedure (meaning_of env.scopes name)) env (terms_in env args) at args f l

numbered_within : (columns checks : ℕ) (env : Env) → env.next + columns ≤ env.full → env.number + checks ≤ most_checks → IsWithin (with_assertions checks (with_columns_taken columns env))
unfolding with_columns_taken with_assertions
numbered_within columns checks env l n = record { columns = l; checks = n }

act_within : (call : SourceExpr) (env : Env) → act_faults env call ≡ [] → IsWithin env → IsWithin (after env (Act call))
act_within (Lit at value) env f w = numbered_within 0 0 env (omega (arith, w.columns)) (omega (arith, w.checks))
act_within (Var at name) env f w = numbered_within 0 0 env (omega (arith, w.columns)) (omega (arith, w.checks))
act_within (Call at name args) env f w =
    numbered_within (all_temporaries args) _ env (all_within args env false (second_nil _ _ (first_nil _ _ f)) w) (call_checks env at name args (second_nil _ _ f) w.checks)
act_within (Unary at sign inner) env f w = numbered_within (temporaries inner) 0 env (expression_within inner env false f w) (omega (arith, w.checks))
act_within (Binary at op left right) env f w =
    numbered_within (temporaries left + temporaries right) 0 env (expression_within (Binary at op left right) env false f w) (omega (arith, w.checks))

cond_within : (cond : SourceExpr) (env : Env) → condition_faults env cond ≡ [] → IsWithin env → IsWithin (with_columns_taken (temporaries cond) env)
cond_within cond env f w = taken_within (temporaries cond) env (expression_within cond env false (first_nil _ _ f) w) w

mutual
  pub line_within : (line : SourceLine) (env : Env) → faults_in env line ≡ [] → IsWithin env → IsWithin (after env line)
  line_within (Block lines) env f w = still_within (moves_closed _) (lines_within lines (with_scope env) f (still_within (moves_opened env) w))
  line_within (Local name at init) env f w = value_within init (with_variable name env) (second_nil _ _ f) (declared_within name env at (first_nil _ _ f) w)
  line_within (Assign name at value) env f w = taken_within (put_temporaries value) env (put_within value env (second_nil _ _ f) w) w
  line_within (Act call) env f w = act_within call env f w
  line_within (If cond on_true on_false) env f w =
      let c = cond_within cond env (first_nil _ _ (first_nil _ _ f)) w in
      let one = lines_within on_true (in_branch env cond) (second_nil _ _ (first_nil _ _ f)) (still_within (moves_opened _) c) in
      let two = lines_within on_false (in_second_branch env cond on_true) (second_nil _ _ f) (still_within (moves_opened _) (still_within (moves_closed _) one)) in
      still_within (moves_closed _) two
  line_within (Loop init cond step body false) env f w =
      let f3 = first_nil _ _ f in let f2 = first_nil _ _ f3 in
      let a = lines_within init (with_scope env) (first_nil _ _ f2) (still_within (moves_opened env) w) in
      let c = cond_within cond (at_test env init) (second_nil _ _ f2) a in
      let s = lines_within step (at_step env init cond) (second_nil _ _ f3) (still_within (moves_placed InStep _) c) in
      let b = lines_within body (at_body env init cond step) (second_nil _ _ f) (still_within (in_body_moves _) (still_within (moves_placed env.place _) s)) in
      still_within (moves_closed _) (still_within (behind_body_moves env.place _) b)
  line_within (Loop init cond step body true) env f w =
      let f3 = first_nil _ _ f in let f2 = first_nil _ _ f3 in
      let a = lines_within init (with_scope env) (first_nil _ _ f2) (still_within (moves_opened env) w) in
      let b = lines_within body (at_first_body env init) (second_nil _ _ f2) (still_within (in_body_moves _) a) in
      let c = cond_within cond (at_last_test env init body) (second_nil _ _ f3) (still_within (behind_body_moves env.place _) b) in
      let s = lines_within step (at_last_step env init body cond) (second_nil _ _ f) (still_within (moves_placed InStep _) c) in
      still_within (moves_closed _) (still_within (moves_placed env.place _) s)
  line_within (Break at) env f w = w
  line_within (Continue at) env f w = w
  line_within (Return at value) env f w = value_within value env (return_init value env at f) w

  pub lines_within : (lines : SourceLines) (env : Env) → all_faults_in env lines ≡ [] → IsWithin env → IsWithin (after_all env lines)
  lines_within End env f w = w
  lines_within (Then line rest) env f w = lines_within rest (after env line) (second_nil _ _ f) (line_within line env (first_nil _ _ f) w)
