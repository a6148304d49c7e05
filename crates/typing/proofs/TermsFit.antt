-- Expressions without faults become expressions, and calls, that fit a program.
use Rattle.std.proofs.Common.{◌≡◌, ℕ, ◌+◌, ◌≤◌, ◌<◌, Bool, true, false, Some, List, [], ◌∷◌, ◌++◌, length, map, refl, sym, ap, arith, ◌∙◌}
use Rattle.std.specs.Prelude.{◌==◌, ◌&&◌, ◌||◌, not, nat_le, nat_lt, slice_get}
use Rattle.std.proofs.lemmas.Grind.{common_steps}
use Rattle.syntax_tree.specs.declared.core_expr.Core.{Core}
use Rattle.syntax_tree.specs.Limits.{most_cases, most_operators}
use Rattle.syntax_tree.specs.declared.program.Proc.{Proc}
use Rattle.syntax_tree.specs.declared.program.Program.{Program}
use Rattle.syntax_tree.specs.declared.stmt.Stmt.{Stmt}
use Rattle.syntax_tree.specs.declared.stmt.Stmt.TheVariants as stmt
use Rattle.syntax_tree.specs.Cases.{joint_cases}
use Rattle.syntax_tree.specs.Code.{code_of, statement_of}
use Rattle.syntax_tree.specs.SourceExpr.{SourceExpr, Lit, Var, Call, Unary, Binary, SourceExprs}
use Rattle.syntax_tree.specs.SourceExpr as expr
use Rattle.syntax_tree.specs.Term.{term_of}
use Rattle.syntax_tree.specs.WellFormed.{all_columns_below, args_fit, callee_fits, code_fits, columns_below, into_fits, joint_operators, operators_of, statement_fits}
use Rattle.syntax_tree.proofs.Codes.{statement_of-Set, statement_of-Any, statement_of-Call}
use Rattle.syntax_tree.proofs.Terms.{term_of-Lit, term_of-Col, term_of-Unary, term_of-Binary}
use Rattle.typing.specs.declared.callee.Callee.{Callee}
use Rattle.typing.specs.declared.callee.Callee.TheVariants as callee
use Rattle.typing.specs.declared.env.Env.{Env}
use Rattle.typing.specs.declared.meaning.CallSignature.{CallSignature}
use Rattle.typing.specs.CallFaults.{all_expression_faults, expression_faults, joint_faults, may_call, put_faults, value_call_faults, value_faults}
use Rattle.typing.specs.Calls.{all_calls_in, call_statement, calls_in, put_in, put_temporaries}
use Rattle.typing.specs.Env.{with_columns_taken}
use Rattle.syntax_tree.specs.SourceOperators.{all_source_operators, source_operators}
use Rattle.typing.specs.Scopes.{callee_of, column_of}
use Rattle.typing.specs.Terms.{all_temporaries, count_of, temporaries, term_in, terms_in}
use Rattle.typing.proofs.Splits.{cons_is_not_nil, first_nil, second_nil, not_when}
use Rattle.typing.proofs.Meanings.{CalleeFits, EnvFits, IsKnown, call_known, taken_env, variable_below}

-- ---- tests

pub both : (a b : Bool) → a ≡ true → b ≡ true → (a && b) ≡ true
both a b e f = rw (e, f) refl

pub left_of : (a b : Bool) → (a && b) ≡ true → a ≡ true
left_of true b e = refl
left_of false b e = e

pub right_of : (a b : Bool) → (a && b) ≡ true → b ≡ true
right_of true b e = e
right_of false true e = refl
right_of false false e = e

pub was_not : (a : Bool) → not a ≡ false → a ≡ true
was_not true e = refl
was_not false e = sym e

pub is_below : (m n : ℕ) → m < n → nat_lt m n ≡ true
is_below m n l = grind (arith, common_steps)

pub is_at_most : (m n : ℕ) → m ≤ n → nat_le m n ≡ true
is_at_most m n l = grind (arith, common_steps)

pub no_more : (m n : ℕ) → nat_lt m n ≡ false → n ≤ m
no_more m n e = grind (arith, common_steps, e)

-- ---- codes

pub code_append : (program : Program) (width : ℕ) (place : _) (xs ys : List Stmt) → code_fits program width place (code_of xs) ≡ true
    → code_fits program width place (code_of ys) ≡ true → code_fits program width place (code_of (xs ++ ys)) ≡ true
code_append program width place [] ys h k = k
code_append program width place (x ∷ xs) ys h k =
    both _ _ (left_of _ _ h) (code_append program width place xs ys (right_of (statement_fits program width place (statement_of x)) _ h) k)

pub code_push : (program : Program) (width : ℕ) (place : _) (xs : List Stmt) (s : Stmt) → code_fits program width place (code_of xs) ≡ true
    → statement_fits program width place (statement_of s) ≡ true → code_fits program width place (code_of (xs ++ s ∷ [])) ≡ true
code_push program width place xs s h k = code_append program width place xs (s ∷ []) h (both _ _ k refl)

-- ---- terms

pub room_behind : (m n : ℕ) (env : Env) → env.next + (m + n) ≤ env.ret → (with_columns_taken m env).next + n ≤ (with_columns_taken m env).ret
unfolding with_columns_taken
room_behind m n env l = omega (arith, l)

mutual
  pub term_below : (e : SourceExpr) (procs : List Proc) (width : ℕ) (env : Env) (right : Bool) → expression_faults env right e ≡ [] → EnvFits procs width env
      → env.next + temporaries e ≤ env.ret → columns_below width (term_of (term_in env e)) ≡ true
  term_below (Lit at value) procs width env right f h r = ap (columns_below width) (term_of-Lit value)
  term_below (Var at name) procs width env right f h r =
      ap (columns_below width) (term_of-Col (column_of env.scopes name)) ∙ is_below _ width (variable_below procs width env at name h.scopes f)
  term_below (Call at name args) procs width env right f h r =
      ap (columns_below width) (term_of-Col (env.next + all_temporaries args)) ∙ is_below (env.next + all_temporaries args) width (let e = h.ret in omega (arith, r, e))
  term_below (Unary at sign inner) procs width env right f h r =
      ap (columns_below width) (term_of-Unary sign (term_in env inner)) ∙ term_below inner procs width env right f h r
  term_below (Binary at op left rest) procs width env right f h r =
      ap (columns_below width) (term_of-Binary op (term_in env left) (term_in (with_columns_taken (temporaries left) env) rest))
      ∙ both _ _ (term_below left procs width env right (first_nil _ _ f) h (omega (arith, r)))
      (term_below rest procs width (with_columns_taken (temporaries left) env) _ (second_nil _ _ f) (taken_env (temporaries left) env h) (room_behind (temporaries left) (temporaries rest) env r))

  pub terms_below : (es : SourceExprs) (procs : List Proc) (width : ℕ) (env : Env) (right : Bool) → all_expression_faults env right es ≡ [] → EnvFits procs width env
      → env.next + all_temporaries es ≤ env.ret → all_columns_below width (map term_of (terms_in env es)) ≡ true
  terms_below expr.End procs width env right f h r = refl
  terms_below (expr.Then e rest) procs width env right f h r =
      both _ _ (term_below e procs width env right (first_nil _ _ f) h (omega (arith, r)))
      (terms_below rest procs width (with_columns_taken (temporaries e) env) right (second_nil _ _ f) (taken_env (temporaries e) env h) (room_behind (temporaries e) (all_temporaries rest) env r))

pub term_operators : (e : SourceExpr) (env : Env) → operators_of (term_of (term_in env e)) ≤ source_operators e
term_operators (Lit at value) env = let x = ap operators_of (term_of-Lit value) in omega (arith, x)
term_operators (Var at name) env = let x = ap operators_of (term_of-Col (column_of env.scopes name)) in omega (arith, x)
term_operators (Call at name args) env = let x = ap operators_of (term_of-Col (env.next + all_temporaries args)) in omega (arith, x)
term_operators (Unary at sign inner) env = let x = ap operators_of (term_of-Unary sign (term_in env inner)) in let y = term_operators inner env in omega (arith, x, y)
term_operators (Binary at op left rest) env =
    let x = ap operators_of (term_of-Binary op (term_in env left) (term_in (with_columns_taken (temporaries left) env) rest)) in
    let y = term_operators left env in let z = term_operators rest (with_columns_taken (temporaries left) env) in omega (arith, x, y, z)

pub terms_operators : (es : SourceExprs) (env : Env) → joint_operators (map term_of (terms_in env es)) ≤ all_source_operators es
terms_operators expr.End env = omega arith
terms_operators (expr.Then e rest) env = let x = term_operators e env in let y = terms_operators rest (with_columns_taken (temporaries e) env) in omega (arith, x, y)

pub terms_count : (es : SourceExprs) (env : Env) → length (map term_of (terms_in env es)) ≡ count_of es
terms_count expr.End env = refl
terms_count (expr.Then e rest) env = let x = terms_count rest (with_columns_taken (temporaries e) env) in omega (arith, x)

joint_few : (es : SourceExprs) (env : Env) → joint_faults env es ≡ [] → joint_cases (map term_of (terms_in env es)) ≤ most_cases
joint_few expr.End env f = omega arith
joint_few (expr.Then e rest) env f = no_more _ _ (not_when _ _ f)

pub arguments_fit : (es : SourceExprs) (procs : List Proc) (width : ℕ) (env : Env) (right : Bool) → all_expression_faults env right es ≡ [] → joint_faults env es ≡ []
    → EnvFits procs width env → env.next + all_temporaries es ≤ env.ret → all_source_operators es ≤ most_operators
    → args_fit width (map term_of (terms_in env es)) ≡ true
arguments_fit es procs width env right f j h r o =
    both _ _ (both _ _ (terms_below es procs width env right f h r)
    (is_at_most _ most_operators (let x = terms_operators es env in omega (arith, x, o)))) (is_at_most _ most_cases (joint_few es env j))

-- ---- calls

pub callee_true : (procs : List Proc) (signature : CallSignature) (count : ℕ) (awaits : Bool) → IsKnown procs signature → (signature.params == count) ≡ true
    → (signature.returns || not awaits) ≡ true → callee_fits (slice_get procs signature.number) count awaits ≡ true
callee_true procs signature count awaits k p r =
    ap (λ o. callee_fits o count awaits) k.stands
    ∙ both _ _ (ap (λ (n : ℕ). n == count) k.params ∙ p) (ap (λ (b : Bool). b || not awaits) k.returns ∙ r)

pub may_count : (signature : CallSignature) (name : List ℕ) (count : ℕ) → not (may_call signature name count) ≡ false → (signature.params == count) ≡ true
may_count signature name count f = right_of _ _ (was_not _ f)

into_true : (width col : ℕ) → col < width → into_fits width (Some col) ≡ true
into_true width col l = is_below col width l

-- a call whose value goes into a column
pub call_made_fits : (c : Callee) (program : Program) (width : ℕ) (place : _) (right : Bool) (at : ℕ) (name : List ℕ) (args : List Core) (count col : ℕ)
    → value_call_faults c right at name count ≡ [] → CalleeFits program.procs c → length (map term_of args) ≡ count → col < width
    → args_fit width (map term_of args) ≡ true → statement_fits program width place (statement_of (call_statement c args col)) ≡ true
call_made_fits (callee.Special special) program width place right at name args count col f k n l a =
    ap (statement_fits program width place) (statement_of-Any col) ∙ is_below col width l
call_made_fits (callee.Own signature) program width place right at name args count col f k n l a =
    ap (statement_fits program width place) (statement_of-Call signature.number args (Some col))
    ∙ both _ _ (both _ _ (callee_true program.procs signature _ true k
    (ap (λ (x : ℕ). signature.params == x) n ∙ may_count signature name count (not_when _ _ (first_nil _ _ (first_nil _ _ f))))
    (ap (λ (b : Bool). b || false) (was_not _ (not_when _ _ (second_nil _ _ (first_nil _ _ f)))))) a) (into_true width col l)
call_made_fits callee.Nobody program width place right at name args count col f k n l a = absurd (cons_is_not_nil _ _ f)

mutual
  pub calls_fit : (e : SourceExpr) (program : Program) (width : ℕ) (place : _) (env : Env) (right : Bool) → expression_faults env right e ≡ [] → EnvFits program.procs width env
      → env.next + temporaries e ≤ env.ret → source_operators e ≤ most_operators → code_fits program width place (code_of (calls_in env e)) ≡ true
  calls_fit (Lit at value) program width place env right f h r o = refl
  calls_fit (Var at name) program width place env right f h r o = refl
  calls_fit (Call at name args) program width place env right f h r o =
      let f3 = first_nil _ _ f in let f2 = first_nil _ _ f3 in
      let room : env.next + all_temporaries args ≤ env.ret = omega (arith, r) in
      code_push program width place (all_calls_in env args) _
      (all_calls_fit args program width place env right (second_nil _ _ f2) h room o)
      (call_made_fits (callee_of env.scopes name) program width place right at name (terms_in env args) (count_of args) (env.next + all_temporaries args)
      (first_nil _ _ f2) (call_known program.procs width env.scopes name h.scopes) (terms_count args env) (let e = h.ret in omega (arith, r, e))
      (arguments_fit args program.procs width env right (second_nil _ _ f2) (second_nil _ _ f3) h room o))
  calls_fit (Unary at sign inner) program width place env right f h r o = calls_fit inner program width place env right f h r (omega (arith, o))
  calls_fit (Binary at op left rest) program width place env right f h r o =
      code_append program width place (calls_in env left) _
      (calls_fit left program width place env right (first_nil _ _ f) h (omega (arith, r)) (omega (arith, o)))
      (calls_fit rest program width place (with_columns_taken (temporaries left) env) _ (second_nil _ _ f) (taken_env (temporaries left) env h)
      (room_behind (temporaries left) (temporaries rest) env r) (omega (arith, o)))

  pub all_calls_fit : (es : SourceExprs) (program : Program) (width : ℕ) (place : _) (env : Env) (right : Bool) → all_expression_faults env right es ≡ [] → EnvFits program.procs width env
      → env.next + all_temporaries es ≤ env.ret → all_source_operators es ≤ most_operators → code_fits program width place (code_of (all_calls_in env es)) ≡ true
  all_calls_fit expr.End program width place env right f h r o = refl
  all_calls_fit (expr.Then e rest) program width place env right f h r o =
      code_append program width place (calls_in env e) _
      (calls_fit e program width place env right (first_nil _ _ f) h (omega (arith, r)) (omega (arith, o)))
      (all_calls_fit rest program width place (with_columns_taken (temporaries e) env) right (second_nil _ _ f) (taken_env (temporaries e) env h)
      (room_behind (temporaries e) (all_temporaries rest) env r) (omega (arith, o)))

-- ---- a value that is put into a column

set_fits : (e : SourceExpr) (program : Program) (width : ℕ) (place : _) (env : Env) (col : ℕ) → expression_faults env false e ++ value_faults env e ≡ []
    → EnvFits program.procs width env → col < width → env.next + temporaries e ≤ env.ret → source_operators e ≤ most_operators
    → code_fits program width place (code_of (calls_in env e ++ stmt.Set col (term_in env e) ∷ [])) ≡ true
set_fits e program width place env col f h l r o =
    code_push program width place (calls_in env e) _ (calls_fit e program width place env false (first_nil _ _ f) h r o)
    (ap (statement_fits program width place) (statement_of-Set col (term_in env e))
    ∙ both _ _ (is_below col width l) (both _ _ (both _ _ (term_below e program.procs width env false (first_nil _ _ f) h r)
    (is_at_most _ most_operators (let x = term_operators e env in omega (arith, x, o))))
    (is_at_most _ most_cases (no_more _ _ (not_when _ _ (second_nil _ _ f))))))

pub put_fits : (e : SourceExpr) (program : Program) (width : ℕ) (place : _) (env : Env) (col : ℕ) → put_faults env e ≡ [] → EnvFits program.procs width env → col < width
    → env.next + put_temporaries e ≤ env.ret → source_operators e ≤ most_operators → code_fits program width place (code_of (put_in env col e)) ≡ true
put_fits (Lit at value) program width place env col f h l r o = set_fits (Lit at value) program width place env col f h l r o
put_fits (Var at name) program width place env col f h l r o = set_fits (Var at name) program width place env col f h l r o
put_fits (Call at name args) program width place env col f h l r o =
    let f2 = first_nil _ _ f in
    code_push program width place (all_calls_in env args) _
    (all_calls_fit args program width place env false (second_nil _ _ f2) h r o)
    (call_made_fits (callee_of env.scopes name) program width place false at name (terms_in env args) (count_of args) col
    (first_nil _ _ f2) (call_known program.procs width env.scopes name h.scopes) (terms_count args env) l
    (arguments_fit args program.procs width env false (second_nil _ _ f2) (second_nil _ _ f) h r o))
put_fits (Unary at sign inner) program width place env col f h l r o = set_fits (Unary at sign inner) program width place env col f h l r o
put_fits (Binary at op left right) program width place env col f h l r o = set_fits (Binary at op left right) program width place env col f h l r o
