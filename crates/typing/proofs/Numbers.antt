-- Each assertion of a text stands once in its statements.
use Rattle.std.proofs.Common.{inl, inr, ◌≡◌, ℕ, ◌+◌, true, false, Option, None, Some, List, [], ◌∷◌, ◌++◌, length, refl, sym, ap, arith, ◌∙◌, pos}
use Rattle.std.specs.Prelude.{◌==◌, ◌&&◌, nat_le, nat_lt, if◌then◌else◌}
use Rattle.std.proofs.lemmas.Bool.{cases_lt, cases_eq}
use Rattle.std.proofs.lemmas.Grind.{common_steps}
use Rattle.std.proofs.Common.{length-append}
use Rattle.syntax_tree.specs.declared.core_expr.Core.{Core}
use Rattle.syntax_tree.specs.declared.core_expr.Core.TheVariants as core
use Rattle.syntax_tree.specs.declared.stmt.Stmt.{Stmt}
use Rattle.syntax_tree.specs.declared.stmt.Stmt.TheVariants as stmt
use Rattle.syntax_tree.specs.Code.{code_of, statement_of}
use Rattle.syntax_tree.specs.SourceExpr.{SourceExpr, Lit, Var, Call, Unary, Binary, SourceExprs}
use Rattle.syntax_tree.specs.SourceExpr as expr
use Rattle.syntax_tree.specs.SourceLine.{SourceLine, Block, Local, Assign, Act, If, Loop, Break, Continue, Return, SourceLines, End, Then}
use Rattle.syntax_tree.specs.WellFormed.{code_checks, statement_checks}
use Rattle.syntax_tree.proofs.Codes.{statement_of-Set, statement_of-Any, statement_of-Call, statement_of-Guard, statement_of-Check, statement_of-If, statement_of-Loop, statement_of-Break, statement_of-Continue, statement_of-Return}
use Rattle.typing.specs.declared.callee.Callee.{Callee}
use Rattle.typing.specs.declared.callee.Callee.TheVariants as callee
use Rattle.typing.specs.declared.env.Env.{Env}
use Rattle.typing.specs.declared.special.Special.{Special}
use Rattle.typing.specs.declared.special.Special.TheVariants.{Assert, Assume, Nondet, Error, Abort, Exit}
use Rattle.typing.specs.Calls.{act_checks, act_in, all_calls_in, call_statement, calls_in, if_assertion, listed_if, put_in, act_statements, condition_of}
use Rattle.typing.specs.declared.meaning.Meaning.{Meaning}
use Rattle.typing.specs.declared.meaning.Meaning.TheVariants.{Variable, Procedure}
use Rattle.typing.specs.Env.{with_columns_taken, with_scope, with_variable}
use Rattle.typing.specs.Lines.{after, all_checks_of, all_statements_of, at_body, at_first_body, at_last_step, at_last_test, at_step, at_test, checks_of, in_branch, in_second_branch, local_statements, statements_of, value_statements}
use Rattle.typing.specs.Scopes.{callee_of, column_of, if_special, if_procedure, meaning_of}
use Rattle.typing.specs.Specials.{special_of}
use Rattle.typing.specs.Terms.{all_temporaries, temporaries, term_in, terms_in}
use Rattle.typing.proofs.Moves.{moves_opened, line_moves, sum_of_places, to_branch, to_second_branch, to_step, to_body, to_first_body, to_last_step}

-- how often k is among so many numbers behind a number
abbrev pub listed : ℕ → ℕ → ℕ → ℕ
listed above count k = if nat_lt above k && nat_le k (above + count) then 1 else 0

pub listed_then : (above m n k : ℕ) → listed above m k + listed (above + m) n k ≡ listed above (m + n) k
listed_then above m n k = elim (cases_lt above k) [
  | inl a ↦ elim (cases_lt (above + m) k) [ inl b ↦ grind (arith, common_steps) | inr b ↦ grind (arith, common_steps) ]
  | inr a ↦ grind (arith, common_steps)
]

listed_none : (above k : ℕ) → listed above 0 k ≡ 0
listed_none above k = grind (arith, common_steps)

listed_one : (above k : ℕ) → (if k == above + 1 then 1 else 0) ≡ listed above 1 k
listed_one above k = elim (cases_eq k (above + 1)) [ inl e ↦ grind (arith, common_steps) | inr ne ↦ grind (arith, common_steps) ]

pub checks_append : (k : ℕ) (xs ys : List Stmt) → code_checks k (code_of (xs ++ ys)) ≡ code_checks k (code_of xs) + code_checks k (code_of ys)
checks_append k [] ys = omega arith
checks_append k (x ∷ xs) ys = let more = checks_append k xs ys in omega (arith, more)

-- a statement behind others
checks_push : (k : ℕ) (xs : List Stmt) (s : Stmt) → code_checks k (code_of (xs ++ s ∷ [])) ≡ code_checks k (code_of xs) + statement_checks k (statement_of s)
checks_push k xs s = let more = checks_append k xs (s ∷ []) in omega (arith, more)

call_made_none : (k : ℕ) (c : Callee) (args : List Core) (col : ℕ) → statement_checks k (statement_of (call_statement c args col)) ≡ 0
call_made_none k (callee.Special special) args col = ap (statement_checks k) (statement_of-Any col)
call_made_none k (callee.Own signature) args col = ap (statement_checks k) (statement_of-Call signature.number args (Some col))
call_made_none k callee.Nobody args col = ap (statement_checks k) (statement_of-Call 0 args (Some col))

mutual
  calls_none : (k : ℕ) (e : SourceExpr) (env : Env) → code_checks k (code_of (calls_in env e)) ≡ 0
  calls_none k (Lit at value) env = refl
  calls_none k (Var at name) env = refl
  calls_none k (Call at name args) env =
      let a = all_calls_none k args env in
      let b = call_made_none k (callee_of env.scopes name) (terms_in env args) (env.next + all_temporaries args) in
      let c = checks_push k (all_calls_in env args) (call_statement (callee_of env.scopes name) (terms_in env args) (env.next + all_temporaries args)) in
      omega (arith, a, b, c)
  calls_none k (Unary at sign inner) env = calls_none k inner env
  calls_none k (Binary at op left right) env =
      let a = calls_none k left env in
      let b = calls_none k right (with_columns_taken (temporaries left) env) in
      let c = checks_append k (calls_in env left) (calls_in (with_columns_taken (temporaries left) env) right) in
      omega (arith, a, b, c)

  all_calls_none : (k : ℕ) (es : SourceExprs) (env : Env) → code_checks k (code_of (all_calls_in env es)) ≡ 0
  all_calls_none k expr.End env = refl
  all_calls_none k (expr.Then e rest) env =
      let a = calls_none k e env in
      let b = all_calls_none k rest (with_columns_taken (temporaries e) env) in
      let c = checks_append k (calls_in env e) (all_calls_in (with_columns_taken (temporaries e) env) rest) in
      omega (arith, a, b, c)

set_none : (k : ℕ) (col : ℕ) (value : Core) → statement_checks k (statement_of (stmt.Set col value)) ≡ 0
set_none k col value = ap (statement_checks k) (statement_of-Set col value)

set_behind : (k : ℕ) (env : Env) (e : SourceExpr) (col : ℕ) → code_checks k (code_of (calls_in env e ++ stmt.Set col (term_in env e) ∷ [])) ≡ 0
set_behind k env e col = let a = calls_none k e env in let b = set_none k col (term_in env e) in let c = checks_push k (calls_in env e) (stmt.Set col (term_in env e)) in omega (arith, a, b, c)

put_none : (k : ℕ) (e : SourceExpr) (env : Env) (col : ℕ) → code_checks k (code_of (put_in env col e)) ≡ 0
put_none k (Lit at value) env col = set_behind k env (Lit at value) col
put_none k (Var at name) env col = set_behind k env (Var at name) col
put_none k (Call at name args) env col =
    let a = all_calls_none k args env in
    let b = call_made_none k (callee_of env.scopes name) (terms_in env args) col in
    let c = checks_push k (all_calls_in env args) (call_statement (callee_of env.scopes name) (terms_in env args) col) in
    omega (arith, a, b, c)
put_none k (Unary at sign inner) env col = set_behind k env (Unary at sign inner) col
put_none k (Binary at op left right) env col = set_behind k env (Binary at op left right) col

value_put_none : (k : ℕ) (value : Option SourceExpr) (env : Env) (col : ℕ) → code_checks k (code_of (value_statements env col value)) ≡ 0
value_put_none k None env col = refl
value_put_none k (Some e) env col = put_none k e env col

local_put_none : (k : ℕ) (value : Option SourceExpr) (env : Env) (col : ℕ) → code_checks k (code_of (local_statements env col value)) ≡ 0
local_put_none k None env col = let a = ap (statement_checks k) (statement_of-Any col) in omega (arith, a)
local_put_none k (Some e) env col = put_none k e env col

-- the statement of a call by itself has the next number, if it is an assertion
own_made : (k : ℕ) (m : Option Meaning) (args : List Core) (number : ℕ) → code_checks k (code_of (act_statements number (if_procedure m) args)) ≡ 0
own_made k None args number = let a = ap (statement_checks k) (statement_of-Call 0 args None) in omega (arith, a)
own_made k (Some (Variable col)) args number = let a = ap (statement_checks k) (statement_of-Call 0 args None) in omega (arith, a)
own_made k (Some (Procedure signature)) args number = let a = ap (statement_checks k) (statement_of-Call signature.number args None) in omega (arith, a)

check_made : (k : ℕ) (above : ℕ) (cond : Core) → code_checks k (code_of (stmt.Check (above + 1) cond ∷ [])) ≡ listed above 1 k
check_made k above cond = let a = ap (statement_checks k) (statement_of-Check (above + 1) cond) in let b = listed_one above k in omega (arith, a, b)

guard_made : (k : ℕ) (above : ℕ) (cond : Core) → code_checks k (code_of (stmt.Guard cond ∷ [])) ≡ listed above 0 k
guard_made k above cond = let a = ap (statement_checks k) (statement_of-Guard cond) in let b = listed_none above k in omega (arith, a, b)

made_listed : (k : ℕ) (o : Option Special) (m : Option Meaning) (args : List Core) (above at : ℕ)
    → code_checks k (code_of (act_statements (above + 1) (if_special o (if_procedure m)) args)) ≡ listed above (length (listed_if (if_assertion o) at)) k
made_listed k None m args above at = let a = own_made k m args (above + 1) in let b = listed_none above k in omega (arith, a, b)
made_listed k (Some Assert) m args above at = check_made k above (condition_of args)
made_listed k (Some Assume) m args above at = guard_made k above (condition_of args)
made_listed k (Some Nondet) m args above at = sym (listed_none above k)
made_listed k (Some Error) m args above at = check_made k above (core.Lit (pos 0))
made_listed k (Some Abort) m args above at = guard_made k above (core.Lit (pos 0))
made_listed k (Some Exit) m args above at = guard_made k above (core.Lit (pos 0))

call_listed : (k : ℕ) (env : Env) (at : ℕ) (name : List ℕ) (args : List Core)
    → code_checks k (code_of (act_statements (env.number + 1) (callee_of env.scopes name) args)) ≡ listed env.number (length (listed_if (if_assertion (special_of name)) at)) k
unfolding callee_of
call_listed k env at name args = made_listed k (special_of name) (meaning_of env.scopes name) args env.number at

none_listed : (k above : ℕ) (xs : List Stmt) → code_checks k (code_of xs) ≡ 0 → code_checks k (code_of xs) ≡ listed above 0 k
none_listed k above xs e = let b = listed_none above k in omega (arith, e, b)

act_listed : (k : ℕ) (call : SourceExpr) (env : Env) → code_checks k (code_of (act_in env call)) ≡ listed env.number (length (act_checks call)) k
act_listed k (Lit at value) env = sym (listed_none env.number k)
act_listed k (Var at name) env = sym (listed_none env.number k)
act_listed k (Call at name args) env =
    let a = all_calls_none k args env in
    let b = call_listed k env at name (terms_in env args) in
    let c = checks_append k (all_calls_in env args) (act_statements (env.number + 1) (callee_of env.scopes name) (terms_in env args)) in
    omega (arith, a, b, c)
act_listed k (Unary at sign inner) env = none_listed k env.number (calls_in env inner) (calls_none k inner env)
act_listed k (Binary at op left right) env = none_listed k env.number (calls_in env (Binary at op left right)) (calls_none k (Binary at op left right) env)

-- the same number behind what has no assertion
listed_at : (k count a b : ℕ) → a ≡ b → listed a count k ≡ listed b count k
listed_at k count a b e = ap (λ (n : ℕ). listed n count k) e

-- what is listed behind one environment, told of another
listed_from : (k : ℕ) (to env : Env) (count moved : ℕ) (xs : List Stmt) → to.number ≡ env.number + moved
    → code_checks k (code_of xs) ≡ listed to.number count k → code_checks k (code_of xs) ≡ listed (env.number + moved) count k
listed_from k to env count moved xs e h = h ∙ listed_at k count to.number (env.number + moved) e

three_listed : (k above : ℕ) (xs ys zs : List ℕ) (a b c all : ℕ) → a ≡ listed above (length xs) k → b ≡ listed (above + length xs) (length ys) k
    → c ≡ listed (above + length xs + length ys) (length zs) k → all ≡ a + (b + c) → all ≡ listed above (length (xs ++ ys ++ zs)) k
three_listed k above xs ys zs a b c all p q r e =
    let l = ap (λ (n : ℕ). listed above n k) (sum_of_places xs ys zs) in
    let one = listed_then above (length xs) (length ys) k in
    let two = listed_then above (length xs + length ys) (length zs) k in
    let w = listed_at k (length zs) (above + (length xs + length ys)) (above + length xs + length ys) (omega arith) in
    omega (arith, p, q, r, e, l, one, two, w)

mutual
  pub line_listed : (k : ℕ) (line : SourceLine) (env : Env) → code_checks k (code_of (statements_of env line)) ≡ listed env.number (length (checks_of line)) k
  line_listed k (Block lines) env = listed_from k (with_scope env) env _ 0 (all_statements_of (with_scope env) lines) (moves_opened env).number (lines_listed k lines (with_scope env))
      ∙ listed_at k _ (env.number + 0) env.number (omega arith)
  line_listed k (Local name at init) env = none_listed k env.number (local_statements (with_variable name env) env.next init) (local_put_none k init (with_variable name env) env.next)
  line_listed k (Assign name at value) env = none_listed k env.number (put_in env (column_of env.scopes name) value) (put_none k value env (column_of env.scopes name))
  line_listed k (Act call) env = act_listed k call env
  line_listed k (If cond on_true on_false) env =
      let a = listed_from k (in_branch env cond) env _ 0 (all_statements_of (in_branch env cond) on_true) (to_branch env cond).number (lines_listed k on_true (in_branch env cond)) in
      let b = listed_from k (in_second_branch env cond on_true) env _ _ (all_statements_of (in_second_branch env cond on_true) on_false) (to_second_branch env cond on_true).number
      (lines_listed k on_false (in_second_branch env cond on_true)) in
      let z = listed_at k (length (all_checks_of on_true)) (env.number + 0) env.number (omega arith) in
      let c = calls_none k cond env in
      let s = ap (statement_checks k) (statement_of-If (term_in env cond) (all_statements_of (in_branch env cond) on_true) (all_statements_of (in_second_branch env cond on_true) on_false)) in
      let p = checks_push k (calls_in env cond) (stmt.If (term_in env cond) (all_statements_of (in_branch env cond) on_true) (all_statements_of (in_second_branch env cond on_true) on_false)) in
      let l = length-append (all_checks_of on_true) (all_checks_of on_false) in
      let r = listed_then env.number (length (all_checks_of on_true)) (length (all_checks_of on_false)) k in
      let m = ap (λ (n : ℕ). listed env.number n k) l in
      omega (arith, a, b, z, c, s, p, r, m)
  line_listed k (Loop init cond step body false) env =
      let pre = calls_in (at_test env init) cond in
      let inside = all_statements_of (at_body env init cond step) body in
      let steps = all_statements_of (at_step env init cond) step in
      let i = listed_from k (with_scope env) env _ 0 (all_statements_of (with_scope env) init) (moves_opened env).number (lines_listed k init (with_scope env)) in
      let z = listed_at k (length (all_checks_of init)) (env.number + 0) env.number (omega arith) in
      let c = calls_none k cond (at_test env init) in
      let t = listed_from k (at_step env init cond) env _ _ steps (to_step env init cond).number (lines_listed k step (at_step env init cond)) in
      let b = listed_from k (at_body env init cond step) env _ _ inside (to_body env init cond step).number (lines_listed k body (at_body env init cond step)) in
      let w = listed_at k (length (all_checks_of body)) (env.number + (length (all_checks_of init) + length (all_checks_of step))) (env.number + length (all_checks_of init) + length (all_checks_of step)) (omega arith) in
      let s = ap (statement_checks k) (statement_of-Loop pre (term_in (at_test env init) cond) inside steps false) in
      let p = checks_push k (all_statements_of (with_scope env) init) (stmt.Loop pre (term_in (at_test env init) cond) inside steps false) in
      three_listed k env.number (all_checks_of init) (all_checks_of step) (all_checks_of body) _ _ _ _ (i ∙ z) t (b ∙ w) (omega (arith, c, s, p))
  line_listed k (Loop init cond step body true) env =
      let pre = calls_in (at_last_test env init body) cond in
      let inside = all_statements_of (at_first_body env init) body in
      let steps = all_statements_of (at_last_step env init body cond) step in
      let i = listed_from k (with_scope env) env _ 0 (all_statements_of (with_scope env) init) (moves_opened env).number (lines_listed k init (with_scope env)) in
      let z = listed_at k (length (all_checks_of init)) (env.number + 0) env.number (omega arith) in
      let b = listed_from k (at_first_body env init) env _ _ inside (to_first_body env init).number (lines_listed k body (at_first_body env init)) in
      let c = calls_none k cond (at_last_test env init body) in
      let t = listed_from k (at_last_step env init body cond) env _ _ steps (to_last_step env init body cond).number (lines_listed k step (at_last_step env init body cond)) in
      let w = listed_at k (length (all_checks_of step)) (env.number + (length (all_checks_of init) + length (all_checks_of body))) (env.number + length (all_checks_of init) + length (all_checks_of body)) (omega arith) in
      let s = ap (statement_checks k) (statement_of-Loop pre (term_in (at_last_test env init body) cond) inside steps true) in
      let p = checks_push k (all_statements_of (with_scope env) init) (stmt.Loop pre (term_in (at_last_test env init body) cond) inside steps true) in
      three_listed k env.number (all_checks_of init) (all_checks_of body) (all_checks_of step) _ _ _ _ (i ∙ z) b (t ∙ w) (omega (arith, c, s, p))
  line_listed k (Break at) env = none_listed k env.number (stmt.Break ∷ []) (let a = ap (statement_checks k) statement_of-Break in omega (arith, a))
  line_listed k (Continue at) env = none_listed k env.number (stmt.Continue ∷ []) (let a = ap (statement_checks k) statement_of-Continue in omega (arith, a))
  line_listed k (Return at value) env = none_listed k env.number (value_statements env env.ret value ++ stmt.Return ∷ [])
      (let a = ap (statement_checks k) statement_of-Return in let b = value_put_none k value env env.ret in let c = checks_push k (value_statements env env.ret value) stmt.Return in omega (arith, a, b, c))

  pub lines_listed : (k : ℕ) (lines : SourceLines) (env : Env) → code_checks k (code_of (all_statements_of env lines)) ≡ listed env.number (length (all_checks_of lines)) k
  lines_listed k End env = sym (listed_none env.number k)
  lines_listed k (Then line rest) env =
      let a = line_listed k line env in
      let b = lines_listed k rest (after env line) in
      let c = checks_append k (statements_of env line) (all_statements_of (after env line) rest) in
      let n = (line_moves line env).number in
      let e = listed_at k (length (all_checks_of rest)) _ _ n in
      let l = ap (λ (n : ℕ). listed env.number n k) (length-append (checks_of line) (all_checks_of rest)) in
      let r = listed_then env.number (length (checks_of line)) (length (all_checks_of rest)) k in
      omega (arith, a, b, c, e, l, r)
