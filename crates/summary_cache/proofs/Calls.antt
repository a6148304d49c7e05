-- Each call of one of the text's own procedures is a statement of the program, and no other
-- statement is a call.
use Rattle.std.proofs.Common.{◌≡◌, ℕ, ◌+◌, Bool, true, false, Option, None, Some, List, [], ◌∷◌, ◌++◌, length, map, refl, sym, ap, subst, arith, ◌∙◌, append_assoc, append-nil, length-append, pos}
use Rattle.std.proofs.lemmas.List.{map-append}
use Rattle.std.specs.Prelude.{codes, is_some, slice_get, if◌then◌else◌, ◌||◌}
use Rattle.std.specs.Option.{option_map}
use Rattle.std.specs.Str.{bytes_eq}
use Rattle.syntax_tree.specs.declared.core_expr.Core.{Core}
use Rattle.syntax_tree.specs.declared.core_expr.Core.TheVariants as core
use Rattle.syntax_tree.specs.declared.line.Line.{Line}
use Rattle.syntax_tree.specs.declared.program.Proc.{Proc}
use Rattle.syntax_tree.specs.declared.program.Program.{Program}
use Rattle.syntax_tree.specs.declared.stmt.Stmt.{Stmt}
use Rattle.syntax_tree.specs.declared.stmt.Stmt.TheVariants as stmt
use Rattle.syntax_tree.specs.declared.tree.Item.{Item}
use Rattle.syntax_tree.specs.declared.tree.Item.TheVariants.{Global, Proto, Body}
use Rattle.syntax_tree.specs.declared.tree.Param.{Param}
use Rattle.syntax_tree.specs.Code.{Statement, code_of, statement_of}
use Rattle.syntax_tree.specs.SourceExpr as expr
use Rattle.syntax_tree.specs.SourceExpr.{SourceExpr, SourceExprs, Lit, Var, Call, Unary, Binary}
use Rattle.syntax_tree.specs.SourceLine.{SourceLine, SourceLines, Block, Local, Assign, Act, If, Loop, Break, Continue, Return, End, Then, source_lines_of}
use Rattle.syntax_tree.proofs.Codes.{statement_of-Set, statement_of-Any, statement_of-Call, statement_of-Guard, statement_of-Check, statement_of-If, statement_of-Loop, statement_of-Break, statement_of-Continue, statement_of-Return}
use Rattle.c_lexer.proofs.Slices.{bytes_eq-true}
use Rattle.flow_graph.specs.Groups.{called, called_in}
use Rattle.typing.specs.CallFaults.{act_faults, all_expression_faults, expression_faults, put_faults, statement_call_faults, value_call_faults}
use Rattle.typing.specs.Calls.{act_checks, act_in, act_statements, all_calls_in, call_statement, callee_asserts, calls_in, condition_of, put_in, put_temporaries, special_statements}
use Rattle.typing.specs.Elaborated.{proc_of, procs_of}
use Rattle.typing.specs.Env.{body_place, with_assertions, with_columns_taken, with_place, with_scope, with_variable, without_scope}
use Rattle.typing.specs.Faults.{body_faults, procs_faults}
use Rattle.typing.specs.LineFaults.{all_faults_in, faults_in, init_faults, return_faults}
use Rattle.typing.specs.Lines.{after, after_all, all_checks_of, all_statements_of, at_body, at_first_body, at_last_step, at_last_test, at_step, at_test, in_branch, in_second_branch, local_statements, statements_of, value_statements, with_value}
use Rattle.typing.specs.Scopes.{Entry, Scope, callee_of, column_of, with_declaration, if_procedure, if_special, meaning_in, meaning_of, or_outer, outer_of}
use Rattle.typing.specs.Specials.{arguments_of, special_of}
use Rattle.typing.specs.Terms.{all_temporaries, count_of, temporaries, term_in, terms_in}
use Rattle.typing.specs.Texts.{beginning, body_columns, body_env, count_globals, declarations, procedure, with_params}
use Rattle.typing.proofs.Outcomes.{answered}
use Rattle.typing.proofs.Splits.{cons_is_not_nil, first_nil, second_nil}
use Rattle.summary_cache.specs.Calls.{CallsAreStatements, all_expression_names, all_line_names, called_names, callees, callees_in, expression_names, line_names, name_at, own_name, proc_name, value_names}

-- ---- types of elaboration, by its functions

abbrev Domain : {A B : Type 0} → (A → B) → Type 0
Domain {A} {B} f = A

abbrev Range : {A B : Type 0} → (A → B) → Type 0
Range {A} {B} f = B

abbrev Env : Type 0
Env = Domain with_scope

abbrev Place : Type 0
Place = Domain body_place

abbrev Meaning : Type 0
Meaning = Range (procedure 0 true)

abbrev Callee : Type 0
Callee = Domain callee_asserts

abbrev Special : Type 0
Special = Domain arguments_of

-- ---- numbers and names

-- these numbers are those of the procedures with these names
abbrev Stand : List Proc → List ℕ → List (List ℕ) → Type 0
Stand procs numbers names = map (name_at procs) numbers ≡ map Some names

stand-both : (procs : List Proc) (xs ys : List ℕ) (ns ms : List (List ℕ)) → Stand procs xs ns → Stand procs ys ms → Stand procs (xs ++ ys) (ns ++ ms)
stand-both procs xs ys ns ms h k =
    map-append (name_at procs) xs ys
    ∙ ap (λ l. l ++ map (name_at procs) ys) h
    ∙ ap (λ l. map Some ns ++ l) k
    ∙ sym (map-append Some ns ms)

called-append : (xs ys : List Stmt) → called (code_of (xs ++ ys)) ≡ called (code_of xs) ++ called (code_of ys)
called-append [] ys = refl
called-append (x ∷ xs) ys =
    ap (λ l. called_in (statement_of x) ++ l) (called-append xs ys) ∙ sym (append_assoc (called_in (statement_of x)) (called (code_of xs)) (called (code_of ys)))

code-stands : (procs : List Proc) (xs ys : List Stmt) (ns ms : List (List ℕ)) → Stand procs (called (code_of xs)) ns → Stand procs (called (code_of ys)) ms
    → Stand procs (called (code_of (xs ++ ys))) (ns ++ ms)
code-stands procs xs ys ns ms h k = ap (map (name_at procs)) (called-append xs ys) ∙ stand-both procs (called (code_of xs)) (called (code_of ys)) ns ms h k

-- one statement, whose plain form is known
statement-stands : (procs : List Proc) (s : Stmt) (plain : Statement) (ns : List (List ℕ)) → statement_of s ≡ plain → Stand procs (called_in plain) ns
    → Stand procs (called (code_of (s ∷ []))) ns
statement-stands procs s plain ns e h =
    ap (λ (p : Statement). map (name_at procs) (called_in p ++ [])) e ∙ ap (map (name_at procs)) (append-nil (called_in plain)) ∙ h

-- a statement that calls nothing, behind others
quiet-stands : (procs : List Proc) (xs : List Stmt) (s : Stmt) (plain : Statement) (ns : List (List ℕ)) → Stand procs (called (code_of xs)) ns → statement_of s ≡ plain
    → called_in plain ≡ [] → Stand procs (called (code_of (xs ++ s ∷ []))) ns
quiet-stands procs xs s plain ns h e q =
    code-stands procs xs (s ∷ []) ns [] h (statement-stands procs s plain [] e (ap (map (name_at procs)) q)) ∙ ap (map Some) (append-nil ns)

-- ---- what the names in scope mean

-- a call that means this is a call of the procedure with the name, or a fault
abbrev CallNamed : List Proc → List ℕ → Callee → Type 0
CallNamed procs name callee =
    ((right : Bool) (at count col : ℕ) (args : List Core) → value_call_faults callee right at name count ≡ []
    → Stand procs (called (code_of (call_statement callee args col ∷ []))) (name ∷ []))
    × ((at count number : ℕ) (args : List Core) → statement_call_faults callee at name count ≡ []
    → Stand procs (called (code_of (act_statements number callee args))) (name ∷ []))

abbrev IfNamed : List Proc → List ℕ → Option Meaning → Type 0
IfNamed procs name m = CallNamed procs name (if_procedure m)

nobody-named : (procs : List Proc) (name : List ℕ) → IfNamed procs name None
nobody-named procs name = (λ right at count col args f. absurd (cons_is_not_nil _ _ f), λ at count number args f. absurd (cons_is_not_nil _ _ f))

procedure-named : (procs : List Proc) (name : List ℕ) (number : ℕ) (returns : Bool) (params : List Param) → name_at procs number ≡ Some name
    → IfNamed procs name (Some (procedure number returns params))
procedure-named procs name number returns params h = (
  λ right at count col args f. statement-stands procs _ _ (name ∷ []) (statement_of-Call number args (Some col)) (ap (λ x. x ∷ []) h),
  λ at count into args f. statement-stands procs _ _ (name ∷ []) (statement_of-Call number args None) (ap (λ x. x ∷ []) h),
)

abbrev ScopeNamed : List Proc → Scope → Type 0
ScopeNamed procs [] = Unit {0}
ScopeNamed procs (entry ∷ rest) = IfNamed procs entry.0 (Some entry.1) × ScopeNamed procs rest

abbrev ScopesNamed : List Proc → List Scope → Type 0
ScopesNamed procs [] = Unit {0}
ScopesNamed procs (scope ∷ outer) = ScopeNamed procs scope × ScopesNamed procs outer

if-named : (procs : List Proc) (b : Bool) (other name : List ℕ) (m : Meaning) (y : Option Meaning) → (b ≡ true → other ≡ name) → IfNamed procs other (Some m) → IfNamed procs name y
    → IfNamed procs name (if b then Some m else y)
if-named procs true other name m y e h k = subst (λ n. IfNamed procs n (Some m)) (e refl) h
if-named procs false other name m y e h k = k

found-named : (procs : List Proc) (scope : Scope) (name : List ℕ) → ScopeNamed procs scope → IfNamed procs name (meaning_in scope name)
found-named procs [] name h = nobody-named procs name
found-named procs (entry ∷ rest) name h =
    if-named procs (bytes_eq entry.0 name) entry.0 name entry.1 (meaning_in rest name) (bytes_eq-true entry.0 name) h.0 (found-named procs rest name h.1)

or-named : (procs : List Proc) (name : List ℕ) (x y : Option Meaning) → IfNamed procs name x → IfNamed procs name y → IfNamed procs name (or_outer x y)
or-named procs name None y h k = k
or-named procs name (Some m) y h k = h

meaning-named : (procs : List Proc) (scopes : List Scope) (name : List ℕ) → ScopesNamed procs scopes → IfNamed procs name (meaning_of scopes name)
meaning-named procs [] name h = nobody-named procs name
meaning-named procs (scope ∷ outer) name h =
    or-named procs name (meaning_in scope name) (meaning_of outer name) (found-named procs scope name h.0) (meaning-named procs outer name h.1)

scope-append : (procs : List Proc) (scope : Scope) (entry : Entry) → ScopeNamed procs scope → IfNamed procs entry.0 (Some entry.1) → ScopeNamed procs (scope ++ entry ∷ [])
scope-append procs [] entry h m = (m, tt)
scope-append procs (e ∷ rest) entry h m = (h.0, scope-append procs rest entry h.1 m)

declared-named : (procs : List Proc) (scopes : List Scope) (name : List ℕ) (meaning : Meaning) → ScopesNamed procs scopes → IfNamed procs name (Some meaning)
    → ScopesNamed procs (with_declaration name meaning scopes)
declared-named procs [] name meaning h m = ((m, tt), tt)
declared-named procs (scope ∷ outer) name meaning h m = (scope-append procs scope (name, meaning) h.0 m, h.1)

outer-named : (procs : List Proc) (scopes : List Scope) → ScopesNamed procs scopes → ScopesNamed procs (outer_of scopes)
outer-named procs [] h = tt
outer-named procs (scope ∷ outer) h = h.1

-- each procedure in scope stands in the program under its name
record IsNamed (procs : List Proc) (env : Env) : Type 0 where
  scopes : ScopesNamed procs env.scopes

env-taken : {procs : List Proc} (n : ℕ) (env : Env) → IsNamed procs env → IsNamed procs (with_columns_taken n env)
unfolding with_columns_taken
env-taken n env h = record { scopes = h.scopes }

env-numbered : {procs : List Proc} (n : ℕ) (env : Env) → IsNamed procs env → IsNamed procs (with_assertions n env)
unfolding with_assertions
env-numbered n env h = record { scopes = h.scopes }

env-declared : {procs : List Proc} (name : List ℕ) (env : Env) → IsNamed procs env → IsNamed procs (with_variable name env)
unfolding with_variable
env-declared {procs = procs} name env h = record { scopes = declared-named procs env.scopes name _ h.scopes (nobody-named procs name) }

env-opened : {procs : List Proc} (env : Env) → IsNamed procs env → IsNamed procs (with_scope env)
unfolding with_scope
env-opened env h = record { scopes = (tt, h.scopes) }

env-closed : {procs : List Proc} (env : Env) → IsNamed procs env → IsNamed procs (without_scope env)
unfolding without_scope
env-closed {procs = procs} env h = record { scopes = outer-named procs env.scopes h.scopes }

env-placed : {procs : List Proc} (place : Place) (env : Env) → IsNamed procs env → IsNamed procs (with_place place env)
unfolding with_place
env-placed place env h = record { scopes = h.scopes }

env-valued : {procs : List Proc} (value : Option SourceExpr) (env : Env) → IsNamed procs env → IsNamed procs (with_value value env)
env-valued None env h = h
env-valued (Some value) env h = env-taken (put_temporaries value) env h

env-parameters : {procs : List Proc} (params : List Param) (env : Env) → IsNamed procs env → IsNamed procs (with_params env params)
env-parameters [] env h = h
env-parameters (param ∷ rest) env h = env-parameters rest (with_variable param.name env) (env-declared param.name env h)

env-beginning : (procs : List Proc) (text : Scope) (globals number columns : ℕ) (returns : Bool) → ScopeNamed procs text → IsNamed procs (beginning text globals number returns columns)
unfolding beginning
env-beginning procs text globals number columns returns h = record { scopes = (tt, (h, tt)) }

-- ---- calls

made-stands : (o : Option Special) (m : Option Meaning) (procs : List Proc) (right : Bool) (at : ℕ) (name : List ℕ) (args : List Core) (count col : ℕ)
    → value_call_faults (if_special o (if_procedure m)) right at name count ≡ [] → IfNamed procs name m
    → Stand procs (called (code_of (call_statement (if_special o (if_procedure m)) args col ∷ []))) (if is_some o then [] else name ∷ [])
made-stands None m procs right at name args count col f h = h.0 right at count col args f
made-stands (Some special) m procs right at name args count col f h = statement-stands procs _ _ [] (statement_of-Any col) refl

call-stands : (procs : List Proc) (env : Env) (right : Bool) (at : ℕ) (name : List ℕ) (args : List Core) (count col : ℕ)
    → value_call_faults (callee_of env.scopes name) right at name count ≡ [] → IsNamed procs env
    → Stand procs (called (code_of (call_statement (callee_of env.scopes name) args col ∷ []))) (own_name name)
unfolding callee_of
call-stands procs env right at name args count col f h =
    made-stands (special_of name) (meaning_of env.scopes name) procs right at name args count col f (meaning-named procs env.scopes name h.scopes)

-- a special call calls no procedure
abbrev IsQuiet : Option Special → Type 0
IsQuiet None = Unit {0}
IsQuiet (Some special) = (number : ℕ) (args : List Core) → called (code_of (special_statements number special args)) ≡ []

if-quiet : (b : Bool) (some rest : Option Special) → IsQuiet some → IsQuiet rest → IsQuiet (if b then some else rest)
if-quiet true some rest h k = h
if-quiet false some rest h k = k

check-quiet : (number : ℕ) (cond : Core) → called (code_of (stmt.Check number cond ∷ [])) ≡ []
check-quiet number cond = ap (λ (p : Statement). called_in p ++ []) (statement_of-Check number cond)

guard-quiet : (cond : Core) → called (code_of (stmt.Guard cond ∷ [])) ≡ []
guard-quiet cond = ap (λ (p : Statement). called_in p ++ []) (statement_of-Guard cond)

special-quiet : (name : List ℕ) → IsQuiet (special_of name)
unfolding special_of
special-quiet name =
    let is_assert = bytes_eq name (codes "assert") || bytes_eq name (codes "__VERIFIER_assert") in
    let is_assume = bytes_eq name (codes "assume") || bytes_eq name (codes "__VERIFIER_assume") in
    let is_nondet = bytes_eq name (codes "__VERIFIER_nondet_int") in
    let is_error = bytes_eq name (codes "__VERIFIER_error") in
    let is_abort = bytes_eq name (codes "abort") in
    let is_exit = bytes_eq name (codes "exit") in
    let exit : Option Special = if is_exit then special_of (codes "exit") else None in
    let abort : Option Special = if is_abort then special_of (codes "abort") else exit in
    let error : Option Special = if is_error then special_of (codes "__VERIFIER_error") else abort in
    let nondet : Option Special = if is_nondet then special_of (codes "__VERIFIER_nondet_int") else error in
    let assume : Option Special = if is_assume then special_of (codes "assume") else nondet in
    if-quiet is_assert (special_of (codes "assert")) assume (λ number args. check-quiet number (condition_of args))
    (if-quiet is_assume (special_of (codes "assume")) nondet (λ number args. guard-quiet (condition_of args))
    (if-quiet is_nondet (special_of (codes "__VERIFIER_nondet_int")) error (λ number args. refl)
    (if-quiet is_error (special_of (codes "__VERIFIER_error")) abort (λ number args. check-quiet number (core.Lit (pos 0)))
    (if-quiet is_abort (special_of (codes "abort")) exit (λ number args. guard-quiet (core.Lit (pos 0)))
    (if-quiet is_exit (special_of (codes "exit")) None (λ number args. guard-quiet (core.Lit (pos 0))) tt)))))

acted-stands : (o : Option Special) (m : Option Meaning) (procs : List Proc) (at : ℕ) (name : List ℕ) (args : List Core) (count number : ℕ)
    → statement_call_faults (if_special o (if_procedure m)) at name count ≡ [] → IfNamed procs name m → IsQuiet o
    → Stand procs (called (code_of (act_statements number (if_special o (if_procedure m)) args))) (if is_some o then [] else name ∷ [])
acted-stands None m procs at name args count number f h q = h.1 at count number args f
acted-stands (Some special) m procs at name args count number f h q = ap (map (name_at procs)) (q number args)

act-stands : (procs : List Proc) (env : Env) (at : ℕ) (name : List ℕ) (args : List Core) (count number : ℕ)
    → statement_call_faults (callee_of env.scopes name) at name count ≡ [] → IsNamed procs env
    → Stand procs (called (code_of (act_statements number (callee_of env.scopes name) args))) (own_name name)
unfolding callee_of
act-stands procs env at name args count number f h =
    acted-stands (special_of name) (meaning_of env.scopes name) procs at name args count number f (meaning-named procs env.scopes name h.scopes) (special-quiet name)

mutual
  calls-stand : (e : SourceExpr) (procs : List Proc) (env : Env) (right : Bool) → expression_faults env right e ≡ [] → IsNamed procs env
      → Stand procs (called (code_of (calls_in env e))) (expression_names e)
  calls-stand (Lit at value) procs env right f h = refl
  calls-stand (Var at name) procs env right f h = refl
  calls-stand (Call at name args) procs env right f h =
      let f2 = first_nil _ _ (first_nil _ _ f) in
      code-stands procs (all_calls_in env args) _ (all_expression_names args) _
      (all_calls-stand args procs env right (second_nil _ _ f2) h)
      (call-stands procs env right at name (terms_in env args) (count_of args) (env.next + all_temporaries args) (first_nil _ _ f2) h)
  calls-stand (Unary at sign inner) procs env right f h = calls-stand inner procs env right f h
  calls-stand (Binary at op left rest) procs env right f h =
      code-stands procs (calls_in env left) _ (expression_names left) _
      (calls-stand left procs env right (first_nil _ _ f) h)
      (calls-stand rest procs (with_columns_taken (temporaries left) env) _ (second_nil _ _ f) (env-taken (temporaries left) env h))

  all_calls-stand : (es : SourceExprs) (procs : List Proc) (env : Env) (right : Bool) → all_expression_faults env right es ≡ [] → IsNamed procs env
      → Stand procs (called (code_of (all_calls_in env es))) (all_expression_names es)
  all_calls-stand expr.End procs env right f h = refl
  all_calls-stand (expr.Then e rest) procs env right f h =
      code-stands procs (calls_in env e) _ (expression_names e) _
      (calls-stand e procs env right (first_nil _ _ f) h)
      (all_calls-stand rest procs (with_columns_taken (temporaries e) env) right (second_nil _ _ f) (env-taken (temporaries e) env h))

set-stands : (e : SourceExpr) (procs : List Proc) (env : Env) (col : ℕ) → expression_faults env false e ≡ [] → IsNamed procs env
    → Stand procs (called (code_of (calls_in env e ++ stmt.Set col (term_in env e) ∷ []))) (expression_names e)
set-stands e procs env col f h =
    quiet-stands procs (calls_in env e) _ _ (expression_names e) (calls-stand e procs env false f h) (statement_of-Set col (term_in env e)) refl

put-stands : (e : SourceExpr) (procs : List Proc) (env : Env) (col : ℕ) → put_faults env e ≡ [] → IsNamed procs env
    → Stand procs (called (code_of (put_in env col e))) (expression_names e)
put-stands (Lit at value) procs env col f h = set-stands (Lit at value) procs env col (first_nil _ _ f) h
put-stands (Var at name) procs env col f h = set-stands (Var at name) procs env col (first_nil _ _ f) h
put-stands (Call at name args) procs env col f h =
    let f2 = first_nil _ _ f in
    code-stands procs (all_calls_in env args) _ (all_expression_names args) _
    (all_calls-stand args procs env false (second_nil _ _ f2) h)
    (call-stands procs env false at name (terms_in env args) (count_of args) col (first_nil _ _ f2) h)
put-stands (Unary at sign inner) procs env col f h = set-stands (Unary at sign inner) procs env col (first_nil _ _ f) h
put-stands (Binary at op left right) procs env col f h = set-stands (Binary at op left right) procs env col (first_nil _ _ f) h

-- ---- lines

value-stands : (value : Option SourceExpr) (procs : List Proc) (env : Env) (col : ℕ) → init_faults env value ≡ [] → IsNamed procs env
    → Stand procs (called (code_of (value_statements env col value))) (value_names value)
value-stands None procs env col f h = refl
value-stands (Some e) procs env col f h = put-stands e procs env col f h

local-stands : (value : Option SourceExpr) (procs : List Proc) (env : Env) (col : ℕ) → init_faults env value ≡ [] → IsNamed procs env
    → Stand procs (called (code_of (local_statements env col value))) (value_names value)
local-stands None procs env col f h = statement-stands procs _ _ [] (statement_of-Any col) refl
local-stands (Some e) procs env col f h = put-stands e procs env col f h

statement_call-stands : (call : SourceExpr) (procs : List Proc) (env : Env) → act_faults env call ≡ [] → IsNamed procs env
    → Stand procs (called (code_of (act_in env call))) (expression_names call)
statement_call-stands (Lit at value) procs env f h = refl
statement_call-stands (Var at name) procs env f h = refl
statement_call-stands (Call at name args) procs env f h =
    let f2 = first_nil _ _ f in
    code-stands procs (all_calls_in env args) _ (all_expression_names args) _
    (all_calls-stand args procs env false (second_nil _ _ f2) h)
    (act-stands procs env at name (terms_in env args) (count_of args) (env.number + 1) (first_nil _ _ f2) h)
statement_call-stands (Unary at sign inner) procs env f h = calls-stand (Unary at sign inner) procs env false f h
statement_call-stands (Binary at op left right) procs env f h = calls-stand (Binary at op left right) procs env false f h

return-init : (value : Option SourceExpr) (env : Env) (at : ℕ) → return_faults env at value ≡ [] → init_faults env value ≡ []
return-init None env at f = refl
return-init (Some e) env at f = second_nil _ _ f

-- what lines call stands in their statements, and what they leave is named
record Made (procs : List Proc) (numbers : List ℕ) (names : List (List ℕ)) (to : Env) : Type 0 where
  code : Stand procs numbers names
  env : IsNamed procs to

mutual
  line-made : (line : SourceLine) (procs : List Proc) (env : Env) → faults_in env line ≡ [] → IsNamed procs env
      → Made procs (called (code_of (statements_of env line))) (line_names line) (after env line)
  line-made (Block lines) procs env f h =
      let one = lines-made lines procs (with_scope env) f (env-opened env h) in
      record { code = one.code; env = env-closed _ one.env }
  line-made (Local name at init) procs env f h =
      let d = env-declared name env h in
      record { code = local-stands init procs (with_variable name env) env.next (second_nil _ _ f) d; env = env-valued init (with_variable name env) d }
  line-made (Assign name at value) procs env f h =
      record { code = put-stands value procs env (column_of env.scopes name) (second_nil _ _ f) h; env = env-taken (put_temporaries value) env h }
  line-made (Act call) procs env f h =
      record { code = statement_call-stands call procs env f h; env = env-numbered (length (act_checks call)) _ (env-taken (put_temporaries call) env h) }
  line-made (If cond on_true on_false) procs env f h =
      let f2 = first_nil _ _ f in
      let one = lines-made on_true procs (in_branch env cond) (second_nil _ _ f2) (env-opened _ (env-taken (temporaries cond) env h)) in
      let two = lines-made on_false procs (in_second_branch env cond on_true) (second_nil _ _ f) (env-opened _ (env-closed _ one.env)) in
      let first = all_statements_of (in_branch env cond) on_true in
      let second = all_statements_of (in_second_branch env cond on_true) on_false in
      record {
        code = code-stands procs (calls_in env cond) _ (expression_names cond) (all_line_names on_true ++ all_line_names on_false)
            (calls-stand cond procs env false (first_nil _ _ (first_nil _ _ f2)) h)
            (statement-stands procs _ _ _ (statement_of-If (term_in env cond) first second)
            (stand-both procs (called (code_of first)) (called (code_of second)) _ _ one.code two.code));
        env = env-closed _ two.env;
      }
  line-made (Loop init cond step body false) procs env f h =
      let f3 = first_nil _ _ f in let f2 = first_nil _ _ f3 in
      let one = lines-made init procs (with_scope env) (first_nil _ _ f2) (env-opened env h) in
      let two = lines-made step procs (at_step env init cond) (second_nil _ _ f3) (env-placed _ _ (env-taken (temporaries cond) (at_test env init) one.env)) in
      let three = lines-made body procs (at_body env init cond step) (second_nil _ _ f) (env-opened _ (env-placed _ _ (env-placed env.place _ two.env))) in
      let pre = calls_in (at_test env init) cond in
      let inside = all_statements_of (at_body env init cond step) body in
      let steps = all_statements_of (at_step env init cond) step in
      let test = calls-stand cond procs (at_test env init) false (first_nil _ _ (second_nil _ _ f2)) one.env in
      record {
        code = code-stands procs (all_statements_of (with_scope env) init) _ (all_line_names init) _ one.code
            (statement-stands procs _ _ _ (statement_of-Loop pre (term_in (at_test env init) cond) inside steps false)
            (stand-both procs (called (code_of pre) ++ called (code_of inside)) (called (code_of steps)) (expression_names cond ++ all_line_names body) (all_line_names step)
            (stand-both procs (called (code_of pre)) (called (code_of inside)) (expression_names cond) (all_line_names body) test three.code) two.code));
        env = env-closed _ (env-placed env.place _ (env-closed _ three.env));
      }
  line-made (Loop init cond step body true) procs env f h =
      let f3 = first_nil _ _ f in let f2 = first_nil _ _ f3 in
      let one = lines-made init procs (with_scope env) (first_nil _ _ f2) (env-opened env h) in
      let two = lines-made body procs (at_first_body env init) (second_nil _ _ f2) (env-opened _ (env-placed _ _ one.env)) in
      let here = env-placed env.place _ (env-closed _ two.env) in
      let three = lines-made step procs (at_last_step env init body cond) (second_nil _ _ f) (env-placed _ _ (env-taken (temporaries cond) (at_last_test env init body) here)) in
      let pre = calls_in (at_last_test env init body) cond in
      let inside = all_statements_of (at_first_body env init) body in
      let steps = all_statements_of (at_last_step env init body cond) step in
      let test = calls-stand cond procs (at_last_test env init body) false (first_nil _ _ (second_nil _ _ f3)) here in
      record {
        code = code-stands procs (all_statements_of (with_scope env) init) _ (all_line_names init) _ one.code
            (statement-stands procs _ _ _ (statement_of-Loop pre (term_in (at_last_test env init body) cond) inside steps true)
            (stand-both procs (called (code_of pre) ++ called (code_of inside)) (called (code_of steps)) (expression_names cond ++ all_line_names body) (all_line_names step)
            (stand-both procs (called (code_of pre)) (called (code_of inside)) (expression_names cond) (all_line_names body) test two.code) three.code));
        env = env-closed _ (env-placed env.place _ three.env);
      }
  line-made (Break at) procs env f h = record { code = statement-stands procs _ _ [] statement_of-Break refl; env = h }
  line-made (Continue at) procs env f h = record { code = statement-stands procs _ _ [] statement_of-Continue refl; env = h }
  line-made (Return at value) procs env f h =
      record {
        code = quiet-stands procs (value_statements env env.ret value) _ _ (value_names value) (value-stands value procs env env.ret (return-init value env at f) h) statement_of-Return refl;
        env = env-valued value env h;
      }

  lines-made : (lines : SourceLines) (procs : List Proc) (env : Env) → all_faults_in env lines ≡ [] → IsNamed procs env
      → Made procs (called (code_of (all_statements_of env lines))) (all_line_names lines) (after_all env lines)
  lines-made End procs env f h = record { code = refl; env = h }
  lines-made (Then line rest) procs env f h =
      let one = line-made line procs env (first_nil _ _ f) h in
      let two = lines-made rest procs (after env line) (second_nil _ _ f) one.env in
      record { code = code-stands procs (statements_of env line) _ (line_names line) _ one.code two.code; env = two.env }

-- ---- texts

at-front : (front rest : List Proc) (proc : Proc) → slice_get (front ++ proc ∷ rest) (length front) ≡ Some proc
at-front [] rest proc = refl
at-front (x ∷ front) rest proc = at-front front rest proc

scope-named : (items : List Item) (procs front : List Proc) (text : Scope) (globals g p n : ℕ) → procs ≡ front ++ procs_of text globals n items → length front ≡ p
    → ScopeNamed procs (declarations g p items)
scope-named [] procs front text globals g p n e l = tt
scope-named (Global name at init ∷ rest) procs front text globals g p n e l = (nobody-named procs name, scope-named rest procs front text globals (g + 1) p n e l)
scope-named (Proto name at returns params ∷ rest) procs front text globals g p n e l = scope-named rest procs front text globals g p n e l
scope-named (Body name at returns params lines end ∷ rest) procs front text globals g p n e l =
    let proc = proc_of text globals n name returns params lines in
    let m = n + length (all_checks_of (source_lines_of lines)) in
    let stands : slice_get procs p ≡ Some proc =
    ap (λ (i : ℕ). slice_get procs i) (sym l) ∙ ap (λ (xs : List Proc). slice_get xs (length front)) e ∙ at-front front (procs_of text globals m rest) proc in (
      procedure-named procs name p returns params (ap (option_map proc_name) stands),
      scope-named rest procs (front ++ proc ∷ []) text globals g (p + 1) m (e ∙ sym (append_assoc front (proc ∷ []) (procs_of text globals m rest)))
          (let x = length-append front (proc ∷ []) in omega (arith, x, l)),
    )

body-stands : (procs : List Proc) (text : Scope) (globals n : ℕ) (returns : Bool) (params : List Param) (lines : List Line) (end : ℕ)
    → body_faults text globals n returns params lines end ≡ [] → ScopeNamed procs text
    → Stand procs (called (code_of (all_statements_of (body_env text globals n returns params lines) (source_lines_of lines)))) (all_line_names (source_lines_of lines))
body-stands procs text globals n returns params lines end f h =
    let columns = length (body_columns params lines) in
    (lines-made (source_lines_of lines) procs (body_env text globals n returns params lines) (second_nil _ _ (first_nil _ _ f))
    (env-parameters params (beginning text globals n returns columns) (env-beginning procs text globals n columns returns h))).code

procs-stand : (items : List Item) (procs : List Proc) (text : Scope) (globals n : ℕ) → procs_faults text globals n items ≡ [] → ScopeNamed procs text
    → map (map (name_at procs)) (map callees_in (procs_of text globals n items)) ≡ map (map Some) (called_names items)
procs-stand [] procs text globals n f h = refl
procs-stand (Global name at init ∷ rest) procs text globals n f h = procs-stand rest procs text globals n f h
procs-stand (Proto name at returns params ∷ rest) procs text globals n f h = procs-stand rest procs text globals n f h
procs-stand (Body name at returns params lines end ∷ rest) procs text globals n f h =
    let m = n + length (all_checks_of (source_lines_of lines)) in
    ap (λ first. first ∷ map (map (name_at procs)) (map callees_in (procs_of text globals m rest))) (body-stands procs text globals n returns params lines end (first_nil _ _ f) h)
    ∙ ap (λ later. map Some (all_line_names (source_lines_of lines)) ∷ later) (procs-stand rest procs text globals m (second_nil _ _ f) h)

pub calls-are_statements : CallsAreStatements
calls-are_statements text program a =
    let items = a.tree.items in
    let e = answered items (length text) program a.elaborates in
    let procs = procs_of (declarations 0 0 items) (count_globals items) 0 items in
    subst (λ (p : Program). map (map (name_at p.procs)) (callees p) ≡ map (map Some) (called_names items)) (sym e.same)
    (procs-stand items procs (declarations 0 0 items) (count_globals items) 0 (second_nil _ _ (first_nil _ _ e.faultless))
    (scope-named items procs [] (declarations 0 0 items) (count_globals items) 0 0 0 refl refl))
