-- Lines without faults become statements that fit a program.
use Rattle.std.proofs.Common.{◌≡◌, ℕ, ◌+◌, ◌≤◌, ◌<◌, Bool, true, false, Option, None, Some, List, [], ◌∷◌, length, map, refl, sym, ap, subst, arith, ◌∙◌, pos}
use Rattle.std.proofs.Common.{length-append}
use Rattle.std.specs.Prelude.{◌==◌, ◌||◌, not}
use Rattle.std.proofs.lemmas.Grind.{common_steps}
use Rattle.syntax_tree.specs.declared.core_expr.Core.{Core}
use Rattle.syntax_tree.specs.declared.core_expr.Core.TheVariants as core
use Rattle.syntax_tree.specs.Limits.{most_cases, most_operators}
use Rattle.syntax_tree.specs.declared.program.Proc.{Proc}
use Rattle.syntax_tree.specs.declared.program.Program.{Program}
use Rattle.syntax_tree.specs.declared.stmt.Stmt.TheVariants as stmt
use Rattle.syntax_tree.specs.Code.{code_of}
use Rattle.syntax_tree.specs.SourceExpr.{SourceExpr, Lit, Var, Call, Unary, Binary, SourceExprs}
use Rattle.syntax_tree.specs.SourceExpr as expr
use Rattle.syntax_tree.specs.SourceLine.{SourceLine, Block, Local, Assign, Act, If, Loop, Break, Continue, Return, SourceLines, End, Then}
use Rattle.syntax_tree.specs.Term.{Term, term_of}
use Rattle.syntax_tree.specs.SourceOperators.{all_source_operators, has_fewer, if_fewer, line_has_fewer, lines_have_fewer, source_operators}
use Rattle.syntax_tree.specs.WellFormed as fit
use Rattle.syntax_tree.specs.WellFormed.{args_fit, code_fits, columns_below, cond_fits, statement_fits}
use Rattle.syntax_tree.proofs.Codes.{statement_of-Any, statement_of-Call, statement_of-Guard, statement_of-Check, statement_of-If, statement_of-Loop, statement_of-Break, statement_of-Continue, statement_of-Return}
use Rattle.syntax_tree.proofs.Terms.{term_of-Lit}
use Rattle.typing.specs.declared.env.Env.{Env}
use Rattle.typing.specs.declared.env.LoopPlace.{LoopPlace}
use Rattle.typing.specs.declared.env.LoopPlace.TheVariants.{Outside, InBody, InStep}
use Rattle.typing.specs.declared.meaning.Meaning.{Meaning}
use Rattle.typing.specs.declared.meaning.Meaning.TheVariants.{Variable, Procedure}
use Rattle.typing.specs.declared.special.Special.{Special}
use Rattle.typing.specs.declared.special.Special.TheVariants.{Assert, Assume, Nondet, Error, Abort, Exit}
use Rattle.typing.specs.CallFaults.{act_faults, all_expression_faults, argument_faults, condition_faults, first_truth_faults, has_many_ways, statement_call_faults}
use Rattle.typing.specs.Calls.{act_checks, act_in, all_calls_in, calls_in, condition_of, if_assertion, listed_if, put_temporaries, act_statements}
use Rattle.typing.specs.Env.{body_place, without_scope, with_variable, with_assertions, with_scope, with_place, with_columns_taken}
use Rattle.typing.specs.LineFaults.{all_faults_in, faults_in, init_faults, may_leave, return_faults}
use Rattle.typing.specs.Lines.{after, after_all, all_checks_of, all_columns_of, all_statements_of, at_body, at_first_body, at_last_step, at_last_test, at_step, at_test, checks_of, columns_of, in_branch, in_second_branch, local_statements, nameless, statements_of, value_columns, value_statements, with_value}
use Rattle.typing.specs.Scopes.{callee_of, column_of, if_procedure, if_special, meaning_of}
use Rattle.typing.specs.Specials.{special_of}
use Rattle.typing.specs.Terms.{all_temporaries, count_of, temporaries, term_in, terms_in}
use Rattle.typing.proofs.Splits.{cons_is_not_nil, first_nil, second_nil, not_when}
use Rattle.typing.proofs.Meanings.{EnvFits, IfFits, closed_env, declared_env, meaning_fits, numbered_env, opened_env, placed_env, taken_env, variable_below}
use Rattle.typing.proofs.Moves.{Moves, line_moves, moves_opened, moves_declared, nameless_length, sum_of_places, sum_of_three, sum_of_four, to_branch, to_second_branch, to_test, to_step, to_body, to_first_body, to_last_test, to_last_step}
use Rattle.typing.proofs.TermsFit.{all_calls_fit, arguments_fit, both, callee_true, calls_fit, code_append, code_push, is_at_most, is_below, left_of, may_count, no_more, put_fits, right_of, term_below, term_operators, terms_count}

abbrev IsYes : Bool → Type 0
IsYes true = Unit {0}
IsYes false = ⊥

pub true_is_not_false : true ≡ false → ⊥
true_is_not_false e = subst (λ (b : Bool). IsYes b) e tt

-- ---- conditions

or_left : (a b : Bool) → (a || b) ≡ false → a ≡ false
or_left true b e = e
or_left false b e = refl

or_right : (a b : Bool) → (a || b) ≡ false → b ≡ false
or_right true true e = e
or_right true false e = refl
or_right false b e = e

or_true : (a : Bool) → (a || true) ≡ true
or_true true = refl
or_true false = refl

few_ways : (width : ℕ) (t : Term) → columns_below width t ≡ true → fit.operators_of t ≤ most_operators → has_many_ways t ≡ false → cond_fits width t ≡ true
few_ways width t c o w =
    both _ _ (both _ _ (both _ _ c (is_at_most _ most_operators o)) (is_at_most _ most_cases (no_more _ _ (or_left _ _ w)))) (is_at_most _ most_cases (no_more _ _ (or_right _ _ w)))

pub condition_fits : (cond : SourceExpr) (procs : List Proc) (width : ℕ) (env : Env) → condition_faults env cond ≡ [] → EnvFits procs width env
    → env.next + temporaries cond ≤ env.ret → source_operators cond ≤ most_operators → cond_fits width (term_of (term_in env cond)) ≡ true
condition_fits cond procs width env f h r o =
    few_ways width (term_of (term_in env cond)) (term_below cond procs width env false (first_nil _ _ f) h r) (let x = term_operators cond env in omega (arith, x, o)) (not_when _ _ (second_nil _ _ f))

zero_fits : (width : ℕ) → cond_fits width (term_of (core.Lit (pos 0))) ≡ true
zero_fits width = ap (cond_fits width) (term_of-Lit (pos 0))

first_fits : (es : SourceExprs) (procs : List Proc) (width : ℕ) (env : Env) → all_expression_faults env false es ≡ [] → first_truth_faults (terms_in env es) es ≡ []
    → EnvFits procs width env → env.next + all_temporaries es ≤ env.ret → all_source_operators es ≤ most_operators
    → cond_fits width (term_of (condition_of (terms_in env es))) ≡ true
first_fits expr.End procs width env f t h r o = zero_fits width
first_fits (expr.Then e rest) procs width env f t h r o =
    few_ways width (term_of (term_in env e)) (term_below e procs width env false (first_nil _ _ f) h (omega (arith, r))) (let x = term_operators e env in omega (arith, x, o)) (not_when _ _ t)

-- ---- calls by themselves

own_fits : (m : Option Meaning) (program : Program) (width : ℕ) (place : _) (number at : ℕ) (name : List ℕ) (args : List Core) (count : ℕ)
    → statement_call_faults (if_procedure m) at name count ≡ [] → IfFits program.procs width m → length (map term_of args) ≡ count
    → args_fit width (map term_of args) ≡ true → code_fits program width place (code_of (act_statements number (if_procedure m) args)) ≡ true
own_fits None program width place number at name args count f k n a = absurd (cons_is_not_nil _ _ f)
own_fits (Some (Variable col)) program width place number at name args count f k n a = absurd (cons_is_not_nil _ _ f)
own_fits (Some (Procedure signature)) program width place number at name args count f k n a =
    both _ _ (ap (statement_fits program width place) (statement_of-Call signature.number args None)
    ∙ both _ _ (both _ _ (callee_true program.procs signature _ false k
    (ap (λ (x : ℕ). signature.params == x) n ∙ may_count signature name count (not_when _ _ f)) (or_true signature.returns)) a) refl) refl

check_fits : (program : Program) (width : ℕ) (place : _) (number : ℕ) (cond : Core) → number + 1 ≤ length program.checks → cond_fits width (term_of cond) ≡ true
    → code_fits program width place (code_of (stmt.Check (number + 1) cond ∷ [])) ≡ true
check_fits program width place number cond l c =
    both _ _ (ap (statement_fits program width place) (statement_of-Check (number + 1) cond)
    ∙ both _ _ (both _ _ (is_at_most 1 (number + 1) (omega arith)) (is_at_most _ _ l)) c) refl

guard_fits : (program : Program) (width : ℕ) (place : _) (cond : Core) → cond_fits width (term_of cond) ≡ true
    → code_fits program width place (code_of (stmt.Guard cond ∷ [])) ≡ true
guard_fits program width place cond c = both _ _ (ap (statement_fits program width place) (statement_of-Guard cond) ∙ c) refl

made_fits : (o : Option Special) (m : Option Meaning) (es : SourceExprs) (program : Program) (width : ℕ) (place : _) (env : Env) (at : ℕ) (name : List ℕ)
    → statement_call_faults (if_special o (if_procedure m)) at name (count_of es) ≡ [] → all_expression_faults env false es ≡ []
    → argument_faults env.number (terms_in env es) (if_special o (if_procedure m)) at es ≡ [] → IfFits program.procs width m
    → EnvFits program.procs width env → env.next + all_temporaries es ≤ env.ret → all_source_operators es ≤ most_operators
    → env.number + length (listed_if (if_assertion o) at) ≤ length program.checks
    → code_fits program width place (code_of (act_statements (env.number + 1) (if_special o (if_procedure m)) (terms_in env es))) ≡ true
made_fits None None es program width place env at name f e j k h r o l = absurd (cons_is_not_nil _ _ f)
made_fits None (Some (Variable col)) es program width place env at name f e j k h r o l = absurd (cons_is_not_nil _ _ f)
made_fits None (Some (Procedure signature)) es program width place env at name f e j k h r o l =
    own_fits (Some (Procedure signature)) program width place (env.number + 1) at name (terms_in env es) (count_of es) f k (terms_count es env)
    (arguments_fit es program.procs width env false e j h r o)
made_fits (Some Assert) m es program width place env at name f e j k h r o l =
    check_fits program width place env.number (condition_of (terms_in env es)) l (first_fits es program.procs width env e (second_nil _ _ j) h r o)
made_fits (Some Assume) m es program width place env at name f e j k h r o l =
    guard_fits program width place (condition_of (terms_in env es)) (first_fits es program.procs width env e j h r o)
made_fits (Some Nondet) m es program width place env at name f e j k h r o l = refl
made_fits (Some Error) m es program width place env at name f e j k h r o l = check_fits program width place env.number (core.Lit (pos 0)) l (zero_fits width)
made_fits (Some Abort) m es program width place env at name f e j k h r o l = guard_fits program width place (core.Lit (pos 0)) (zero_fits width)
made_fits (Some Exit) m es program width place env at name f e j k h r o l = guard_fits program width place (core.Lit (pos 0)) (zero_fits width)

statement_fits_here : (es : SourceExprs) (program : Program) (width : ℕ) (place : _) (env : Env) (at : ℕ) (name : List ℕ)
    → statement_call_faults (callee_of env.scopes name) at name (count_of es) ≡ [] → all_expression_faults env false es ≡ []
    → argument_faults env.number (terms_in env es) (callee_of env.scopes name) at es ≡ []
    → EnvFits program.procs width env → env.next + all_temporaries es ≤ env.ret → all_source_operators es ≤ most_operators
    → env.number + length (listed_if (if_assertion (special_of name)) at) ≤ length program.checks
    → code_fits program width place (code_of (act_statements (env.number + 1) (callee_of env.scopes name) (terms_in env es))) ≡ true
unfolding callee_of
statement_fits_here es program width place env at name f e j h r o l =
    made_fits (special_of name) (meaning_of env.scopes name) es program width place env at name f e j (meaning_fits program.procs width env.scopes name h.scopes) h r o l

pub act_fits : (call : SourceExpr) (program : Program) (width : ℕ) (place : _) (env : Env) → act_faults env call ≡ [] → EnvFits program.procs width env
    → env.next + put_temporaries call ≤ env.ret → source_operators call ≤ most_operators → env.number + length (act_checks call) ≤ length program.checks
    → code_fits program width place (code_of (act_in env call)) ≡ true
act_fits (Lit at value) program width place env f h r o l = refl
act_fits (Var at name) program width place env f h r o l = refl
act_fits (Call at name args) program width place env f h r o l =
    let f2 = first_nil _ _ f in
    code_append program width place (all_calls_in env args) _
    (all_calls_fit args program width place env false (second_nil _ _ f2) h r o)
    (statement_fits_here args program width place env at name (first_nil _ _ f2) (second_nil _ _ f2) (second_nil _ _ f) h r o l)
act_fits (Unary at sign inner) program width place env f h r o l = calls_fit (Unary at sign inner) program width place env false f h r o
act_fits (Binary at op left right) program width place env f h r o l = calls_fit (Binary at op left right) program width place env false f h r o

-- ---- places

-- where a line stands agrees with where its statements stand, of which this says whether they may
-- leave, and where a body is then
abbrev pub AgreesBy : {T : Type 0} → (T → Bool) → (T → T) → LoopPlace → T → Type 0
AgreesBy leave body Outside place = (leave (body place) ≡ true) × (body (body place) ≡ body place)
AgreesBy leave body InBody place = (leave place ≡ true) × (body place ≡ place)
AgreesBy leave body InStep place = Unit {0}

body_agrees : (p : LoopPlace) (place : _) → AgreesBy fit.may_leave fit.body_place p place → AgreesBy fit.may_leave fit.body_place (body_place p) (fit.body_place place)
body_agrees Outside place a = a
body_agrees InBody place a = (ap fit.may_leave a.1 ∙ a.0, ap fit.body_place a.1)
body_agrees InStep place a = tt

leave_agrees : (p : LoopPlace) (place : _) → AgreesBy fit.may_leave fit.body_place p place → not (may_leave p) ≡ false → fit.may_leave place ≡ true
leave_agrees Outside place a f = absurd (true_is_not_false f)
leave_agrees InBody place a f = a.0
leave_agrees InStep place a f = absurd (true_is_not_false f)

-- a line leaves the place as it was
mutual
  unfolding with_columns_taken with_variable with_assertions with_scope without_scope with_place

  line_place : (line : SourceLine) (env : Env) → (after env line).place ≡ env.place
  line_place (Block lines) env = lines_place lines (with_scope env)
  line_place (Local name at None) env = refl
  line_place (Local name at (Some e)) env = refl
  line_place (Assign name at value) env = refl
  line_place (Act call) env = refl
  line_place (If cond on_true on_false) env =
      lines_place on_false (in_second_branch env cond on_true) ∙ lines_place on_true (in_branch env cond)
  line_place (Loop init cond step body false) env = refl
  line_place (Loop init cond step body true) env = refl
  line_place (Break at) env = refl
  line_place (Continue at) env = refl
  line_place (Return at None) env = refl
  line_place (Return at (Some e)) env = refl

  pub lines_place : (lines : SourceLines) (env : Env) → (after_all env lines).place ≡ env.place
  lines_place End env = refl
  lines_place (Then line rest) env = lines_place rest (after env line) ∙ line_place line env

-- ---- lines

-- the statements of lines fit, and so does what they leave
pub record Fit (program : Program) (width : ℕ) (made : Bool) (to : Env) : Type 0 where
  pub code : made ≡ true
  pub env : EnvFits program.procs width to

few_operators : (e : SourceExpr) → has_fewer (most_operators + 1) e ≡ true → source_operators e ≤ most_operators
few_operators e h = grind (arith, common_steps, h)

value_fits_at : (value : Option SourceExpr) (program : Program) (width : ℕ) (place : _) (env : Env) (col : ℕ) → init_faults env value ≡ [] → EnvFits program.procs width env
    → col < width → env.next + length (value_columns value) ≤ env.ret → if_fewer (most_operators + 1) value ≡ true → code_fits program width place (code_of (value_statements env col value)) ≡ true
value_fits_at None program width place env col f h l r o = refl
value_fits_at (Some e) program width place env col f h l r o =
    let n = nameless_length (put_temporaries e) in
    put_fits e program width place env col f h l (omega (arith, r, n)) (few_operators e o)

local_fits : (value : Option SourceExpr) (program : Program) (width : ℕ) (place : _) (env : Env) (col : ℕ) → init_faults env value ≡ [] → EnvFits program.procs width env
    → col < width → env.next + length (value_columns value) ≤ env.ret → if_fewer (most_operators + 1) value ≡ true → code_fits program width place (code_of (local_statements env col value)) ≡ true
local_fits None program width place env col f h l r o = both _ _ (ap (statement_fits program width place) (statement_of-Any col) ∙ is_below col width l) refl
local_fits (Some e) program width place env col f h l r o = value_fits_at (Some e) program width place env col f h l r o

with_value_env : {procs : List Proc} {width : ℕ} (value : Option SourceExpr) (env : Env) → EnvFits procs width env → EnvFits procs width (with_value value env)
with_value_env None env h = h
with_value_env (Some e) env h = taken_env (put_temporaries e) env h

return_init : (value : Option SourceExpr) (env : Env) (at : ℕ) → return_faults env at value ≡ [] → init_faults env value ≡ []
return_init None env at f = refl
return_init (Some e) env at f = second_nil _ _ f

ret_below : {procs : List Proc} {width : ℕ} (env : Env) → EnvFits procs width env → env.ret < width
ret_below env h = let e = h.ret in omega (arith, e)

-- ---- room for the parts of a line

room : {env to : Env} {columns checks : ℕ} (total n : ℕ) → Moves env to columns checks → env.next + total ≤ env.ret → columns + n ≤ total → to.next + n ≤ to.ret
room total n m r l = let a = m.next in let b = m.ret in omega (arith, a, b, r, l)

left_over : {env to : Env} {columns checks : ℕ} (most total n : ℕ) → Moves env to columns checks → env.number + total ≤ most → checks + n ≤ total → to.number + n ≤ most
left_over most total n m r l = let a = m.number in omega (arith, a, r, l)

-- ---- places of the parts of a line

pub agrees_at : (p q : LoopPlace) (place : _) → q ≡ p → AgreesBy fit.may_leave fit.body_place p place → AgreesBy fit.may_leave fit.body_place q place
agrees_at p q place e a = subst (λ (x : LoopPlace). AgreesBy fit.may_leave fit.body_place x place) (sym e) a

opened_place : (env : Env) → (with_scope env).place ≡ env.place
unfolding with_scope
opened_place env = refl

branch_place : (env : Env) (cond : SourceExpr) → (in_branch env cond).place ≡ env.place
unfolding with_scope with_columns_taken
branch_place env cond = refl

second_place : (env : Env) (cond : SourceExpr) (on_true : SourceLines) → (in_second_branch env cond on_true).place ≡ env.place
unfolding with_scope with_columns_taken without_scope
second_place env cond on_true = lines_place on_true (in_branch env cond)

step_place : (env : Env) (init : SourceLines) (cond : SourceExpr) → (at_step env init cond).place ≡ InStep
unfolding with_place
step_place env init cond = refl

body_place_at : (env : Env) (init : SourceLines) (cond : SourceExpr) (step : SourceLines) → (at_body env init cond step).place ≡ body_place env.place
unfolding with_scope with_place
body_place_at env init cond step = refl

first_body_place : (env : Env) (init : SourceLines) → (at_first_body env init).place ≡ body_place env.place
unfolding with_scope with_place
first_body_place env init = ap body_place (lines_place init (with_scope env))

last_step_place : (env : Env) (init body : SourceLines) (cond : SourceExpr) → (at_last_step env init body cond).place ≡ InStep
unfolding with_place
last_step_place env init body cond = refl

mutual
  pub line_fits : (line : SourceLine) (program : Program) (width : ℕ) (place : _) (env : Env) → faults_in env line ≡ [] → EnvFits program.procs width env
      → AgreesBy fit.may_leave fit.body_place env.place place → env.next + length (columns_of line) ≤ env.ret → env.number + length (checks_of line) ≤ length program.checks
      → line_has_fewer (most_operators + 1) line ≡ true → Fit program width (code_fits program width place (code_of (statements_of env line))) (after env line)
  line_fits (Block lines) program width place env f h a r l o =
      let one = lines_fit lines program width place (with_scope env) f (opened_env env h) (agrees_at _ _ place (opened_place env) a)
      (room _ _ (moves_opened env) r (omega arith)) (left_over _ _ _ (moves_opened env) l (omega arith)) o in
      record { code = one.code; env = closed_env _ one.env }
  line_fits (Local name at init) program width place env f h a r l o =
      let low : env.next < width = (let e = h.ret in omega (arith, r, e)) in
      let d = declared_env name env low h in
      record {
        code = local_fits init program width place (with_variable name env) env.next (second_nil _ _ f) d low (room _ _ (moves_declared name env) r (omega arith)) o;
        env = with_value_env init (with_variable name env) d;
      }
  line_fits (Assign name at value) program width place env f h a r l o =
      let n = nameless_length (put_temporaries value) in
      record {
        code = put_fits value program width place env (column_of env.scopes name) (second_nil _ _ f) h
            (variable_below program.procs width env at name h.scopes (first_nil _ _ f)) (omega (arith, r, n)) (few_operators value o);
        env = taken_env (put_temporaries value) env h;
      }
  line_fits (Act call) program width place env f h a r l o =
      let n = nameless_length (put_temporaries call) in
      record {
        code = act_fits call program width place env f h (omega (arith, r, n)) (few_operators call o) l;
        env = numbered_env (length (act_checks call)) _ (taken_env (put_temporaries call) env h);
      }
  line_fits (If cond on_true on_false) program width place env f h a r l o =
      let f2 = first_nil _ _ f in
      let n = nameless_length (temporaries cond) in
      let s = sum_of_three (nameless (temporaries cond)) (all_columns_of on_true) (all_columns_of on_false) in
      let k = length-append (all_checks_of on_true) (all_checks_of on_false) in
      let oc = few_operators cond (left_of _ _ o) in
      let ob = right_of (has_fewer (most_operators + 1) cond) _ o in
      let c : env.next + temporaries cond ≤ env.ret = omega (arith, r, n, s) in
      let one = lines_fit on_true program width place (in_branch env cond) (second_nil _ _ f2) (opened_env _ (taken_env (temporaries cond) env h))
      (agrees_at _ _ place (branch_place env cond) a) (room _ (length (all_columns_of on_true)) (to_branch env cond) r (omega (arith, n, s)))
      (left_over _ _ (length (all_checks_of on_true)) (to_branch env cond) l (omega (arith, k))) (left_of _ _ ob) in
      let two = lines_fit on_false program width place (in_second_branch env cond on_true) (second_nil _ _ f) (opened_env _ (closed_env _ one.env))
      (agrees_at _ _ place (second_place env cond on_true) a) (room _ (length (all_columns_of on_false)) (to_second_branch env cond on_true) r (omega (arith, n, s)))
      (left_over _ _ (length (all_checks_of on_false)) (to_second_branch env cond on_true) l (omega (arith, k))) (right_of (lines_have_fewer (most_operators + 1) on_true) _ ob) in
      record {
        code = code_push program width place (calls_in env cond) _ (calls_fit cond program width place env false (first_nil _ _ (first_nil _ _ f2)) h c oc)
            (ap (statement_fits program width place) (statement_of-If (term_in env cond) (all_statements_of (in_branch env cond) on_true) (all_statements_of (in_second_branch env cond on_true) on_false))
            ∙ both _ _ (both _ _ (condition_fits cond program.procs width env (first_nil _ _ f2) h c oc) one.code) two.code);
        env = closed_env _ two.env;
      }
  line_fits (Loop init cond step body false) program width place env f h a r l o =
      let f3 = first_nil _ _ f in let f2 = first_nil _ _ f3 in
      let n = nameless_length (temporaries cond) in
      let s = sum_of_four (all_columns_of init) (nameless (temporaries cond)) (all_columns_of step) (all_columns_of body) in
      let k = sum_of_places (all_checks_of init) (all_checks_of step) (all_checks_of body) in
      let oc = few_operators cond (left_of _ _ o) in
      let oi = right_of (has_fewer (most_operators + 1) cond) _ o in
      let os = right_of (lines_have_fewer (most_operators + 1) init) _ oi in
      let one = lines_fit init program width place (with_scope env) (first_nil _ _ f2) (opened_env env h) (agrees_at _ _ place (opened_place env) a)
      (room _ (length (all_columns_of init)) (moves_opened env) r (omega (arith, s))) (left_over _ _ (length (all_checks_of init)) (moves_opened env) l (omega (arith, k))) (left_of _ _ oi) in
      let c = room _ (temporaries cond) (to_test env init) r (omega (arith, n, s)) in
      let two = lines_fit step program width _ (at_step env init cond) (second_nil _ _ f3) (placed_env InStep _ (taken_env (temporaries cond) (at_test env init) one.env))
      (agrees_at InStep _ _ (step_place env init cond) tt) (room _ (length (all_columns_of step)) (to_step env init cond) r (omega (arith, n, s)))
      (left_over _ _ (length (all_checks_of step)) (to_step env init cond) l (omega (arith, k))) (left_of _ _ os) in
      let three = lines_fit body program width (fit.body_place place) (at_body env init cond step) (second_nil _ _ f)
      (opened_env _ (placed_env _ _ (placed_env env.place _ two.env)))
      (agrees_at _ _ (fit.body_place place) (body_place_at env init cond step) (body_agrees env.place place a))
      (room _ (length (all_columns_of body)) (to_body env init cond step) r (omega (arith, n, s)))
      (left_over _ _ (length (all_checks_of body)) (to_body env init cond step) l (omega (arith, k))) (right_of (lines_have_fewer (most_operators + 1) step) _ os) in
      record {
        code = code_push program width place (all_statements_of (with_scope env) init) _ one.code
            (ap (statement_fits program width place) (statement_of-Loop (calls_in (at_test env init) cond) (term_in (at_test env init) cond)
            (all_statements_of (at_body env init cond step) body) (all_statements_of (at_step env init cond) step) false)
            ∙ both _ _ (both _ _ (both _ _ (condition_fits cond program.procs width (at_test env init) (second_nil _ _ f2) one.env c oc)
            (calls_fit cond program width _ (at_test env init) false (first_nil _ _ (second_nil _ _ f2)) one.env c oc)) three.code) two.code);
        env = closed_env _ (placed_env env.place _ (closed_env _ three.env));
      }
  line_fits (Loop init cond step body true) program width place env f h a r l o =
      let f3 = first_nil _ _ f in let f2 = first_nil _ _ f3 in
      let n = nameless_length (temporaries cond) in
      let s = sum_of_four (all_columns_of init) (all_columns_of body) (nameless (temporaries cond)) (all_columns_of step) in
      let k = sum_of_places (all_checks_of init) (all_checks_of body) (all_checks_of step) in
      let oc = few_operators cond (left_of _ _ o) in
      let oi = right_of (has_fewer (most_operators + 1) cond) _ o in
      let os = right_of (lines_have_fewer (most_operators + 1) init) _ oi in
      let one = lines_fit init program width place (with_scope env) (first_nil _ _ f2) (opened_env env h) (agrees_at _ _ place (opened_place env) a)
      (room _ (length (all_columns_of init)) (moves_opened env) r (omega (arith, s))) (left_over _ _ (length (all_checks_of init)) (moves_opened env) l (omega (arith, k))) (left_of _ _ oi) in
      let two = lines_fit body program width (fit.body_place place) (at_first_body env init) (second_nil _ _ f2)
      (opened_env _ (placed_env _ _ one.env))
      (agrees_at _ _ (fit.body_place place) (first_body_place env init) (body_agrees env.place place a))
      (room _ (length (all_columns_of body)) (to_first_body env init) r (omega (arith, n, s)))
      (left_over _ _ (length (all_checks_of body)) (to_first_body env init) l (omega (arith, k))) (right_of (lines_have_fewer (most_operators + 1) step) _ os) in
      let behind = placed_env env.place _ (closed_env _ two.env) in
      let c = room _ (temporaries cond) (to_last_test env init body) r (omega (arith, n, s)) in
      let three = lines_fit step program width _ (at_last_step env init body cond) (second_nil _ _ f) (placed_env InStep _ (taken_env (temporaries cond) (at_last_test env init body) behind))
      (agrees_at InStep _ _ (last_step_place env init body cond) tt) (room _ (length (all_columns_of step)) (to_last_step env init body cond) r (omega (arith, n, s)))
      (left_over _ _ (length (all_checks_of step)) (to_last_step env init body cond) l (omega (arith, k))) (left_of _ _ os) in
      record {
        code = code_push program width place (all_statements_of (with_scope env) init) _ one.code
            (ap (statement_fits program width place) (statement_of-Loop (calls_in (at_last_test env init body) cond) (term_in (at_last_test env init body) cond)
            (all_statements_of (at_first_body env init) body) (all_statements_of (at_last_step env init body cond) step) true)
            ∙ both _ _ (both _ _ (both _ _ (condition_fits cond program.procs width (at_last_test env init body) (second_nil _ _ f3) behind c oc)
            (calls_fit cond program width _ (at_last_test env init body) false (first_nil _ _ (second_nil _ _ f3)) behind c oc)) two.code) three.code);
        env = closed_env _ (placed_env env.place _ three.env);
      }
  line_fits (Break at) program width place env f h a r l o =
      record { code = both _ _ (ap (statement_fits program width place) statement_of-Break ∙ leave_agrees env.place place a (not_when _ _ f)) refl; env = h }
  line_fits (Continue at) program width place env f h a r l o =
      record { code = both _ _ (ap (statement_fits program width place) statement_of-Continue ∙ leave_agrees env.place place a (not_when _ _ f)) refl; env = h }
  line_fits (Return at value) program width place env f h a r l o =
      record {
        code = code_push program width place (value_statements env env.ret value) stmt.Return
            (value_fits_at value program width place env env.ret (return_init value env at f) h (ret_below env h) r o)
            (ap (statement_fits program width place) statement_of-Return);
        env = with_value_env value env h;
      }

  pub lines_fit : (lines : SourceLines) (program : Program) (width : ℕ) (place : _) (env : Env) → all_faults_in env lines ≡ [] → EnvFits program.procs width env
      → AgreesBy fit.may_leave fit.body_place env.place place → env.next + length (all_columns_of lines) ≤ env.ret → env.number + length (all_checks_of lines) ≤ length program.checks
      → lines_have_fewer (most_operators + 1) lines ≡ true → Fit program width (code_fits program width place (code_of (all_statements_of env lines))) (after_all env lines)
  lines_fit End program width place env f h a r l o = record { code = refl; env = h }
  lines_fit (Then line rest) program width place env f h a r l o =
      let s = length-append (columns_of line) (all_columns_of rest) in
      let k = length-append (checks_of line) (all_checks_of rest) in
      let one = line_fits line program width place env (first_nil _ _ f) h a (omega (arith, r, s)) (omega (arith, l, k)) (left_of _ _ o) in
      let two = lines_fit rest program width place (after env line) (second_nil _ _ f) one.env (agrees_at _ _ place (line_place line env) a)
      (room _ (length (all_columns_of rest)) (line_moves line env) r (omega (arith, s))) (left_over _ _ (length (all_checks_of rest)) (line_moves line env) l (omega (arith, k)))
      (right_of (line_has_fewer (most_operators + 1) line) _ o) in
      record { code = code_append program width place (statements_of env line) _ one.code two.code; env = two.env }
