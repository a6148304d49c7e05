-- A text without faults has a well-formed program.
use Rattle.std.proofs.Common.{◌≡◌, ℕ, ◌+◌, ◌≤◌, ◌<◌, Bool, true, false, Option, Some, List, [], ◌∷◌, ◌++◌, length, map, take, refl, sym, ap, subst, arith, ◌∙◌, Result, Ok, Err}
use Rattle.std.proofs.Common.{length-append, append_assoc}
use Rattle.std.proofs.lemmas.List.{length-map}
use Rattle.std.proofs.lemmas.List.Elements.{All-from_recursion}
use Rattle.std.specs.List.{AllByRecursion, list_all}
use Rattle.std.specs.Prelude.{◌==◌, ◌&&◌, not, is_none, slice_get, unwrap_or, IfOk, IsSomeAnd, if◌then◌else◌}
use Rattle.std.proofs.lemmas.Grind.{common_steps}
use Rattle.syntax_tree.specs.Limits.{most_checks, most_globals, most_operators, most_parameters, most_procedures, most_slots}
use Rattle.syntax_tree.specs.declared.line.Line.{Line}
use Rattle.syntax_tree.specs.declared.program.Column.{Column}
use Rattle.syntax_tree.specs.declared.program.Proc.{Proc}
use Rattle.syntax_tree.specs.declared.program.Program.{Program}
use Rattle.syntax_tree.specs.declared.tree.Item.{Item}
use Rattle.syntax_tree.specs.declared.tree.Item.TheVariants.{Global, Proto, Body}
use Rattle.syntax_tree.specs.declared.tree.Param.{Param}
use Rattle.syntax_tree.specs.Code.{code_of}
use Rattle.syntax_tree.specs.SourceLine.{source_lines_of}
use Rattle.syntax_tree.specs.WellFormed as fit
use Rattle.syntax_tree.specs.WellFormed.{code_fits, IsProcFit, IsWellFormed, has_name, procs_checks, width_of}
use Rattle.typing.specs.declared.env.Env.{Env}
use Rattle.typing.specs.declared.env.LoopPlace.TheVariants.{Outside}
use Rattle.typing.specs.declared.error.TypeError.{TypeError}
use Rattle.typing.specs.Elaborated.{checks_in, elaborated_program, globals_of, main_from, proc_of, procs_of}
use Rattle.typing.specs.Env.{with_variable}
use Rattle.items.specs.Gives.{Gives}
use Rattle.typing.specs.Faults.{body_faults, cause, declaration_faults, elaboration_of, faults_of, parameter_faults, params_faults, procs_faults}
use Rattle.typing.specs.Lines.{after_all, all_checks_of, all_columns_of, all_statements_of}
use Rattle.syntax_tree.specs.SourceOperators.{lines_have_fewer}
use Rattle.typing.specs.Operators.{items_have_few}
use Rattle.typing.specs.Scopes.{Scope}
use Rattle.typing.specs.Specials.{is_main}
use Rattle.typing.specs.Texts.{beginning, body_columns, body_env, count_globals, declarations, param_column, with_params}
use Rattle.typing.proofs.Outcomes.{answered}
use Rattle.typing.proofs.Splits.{first_nil, second_nil, not_when}
use Rattle.typing.proofs.Moves.{Moves, moves_as, moves_on, moves_self, moves_declared, lines_move}
use Rattle.typing.proofs.Within.{IsWithin, declared_within, lines_within}
use Rattle.typing.proofs.Numbers.{listed, listed_then, lines_listed}
use Rattle.typing.proofs.Meanings.{EnvFits, ScopeFits, declared_env}
use Rattle.typing.proofs.TermsFit.{left_of, no_more, right_of, was_not}
use Rattle.typing.proofs.LinesFit.{AgreesBy, agrees_at, lines_fit, true_is_not_false}

-- ---- counts

count_bodies : List Item → ℕ
count_bodies [] = 0
count_bodies (Global name at init ∷ rest) = count_bodies rest
count_bodies (Proto name at returns params ∷ rest) = count_bodies rest
count_bodies (Body name at returns params lines end ∷ rest) = 1 + count_bodies rest

globals_count : (items : List Item) → length (globals_of items) ≡ count_globals items
globals_count [] = refl
globals_count (Global name at init ∷ rest) = let x = globals_count rest in omega (arith, x)
globals_count (Proto name at returns params ∷ rest) = globals_count rest
globals_count (Body name at returns params lines end ∷ rest) = globals_count rest

procs_count : (items : List Item) (text : Scope) (globals number : ℕ) → length (procs_of text globals number items) ≡ count_bodies items
unfolding count_bodies
procs_count [] text globals number = refl
procs_count (Global name at init ∷ rest) text globals number = procs_count rest text globals number
procs_count (Proto name at returns params ∷ rest) text globals number = procs_count rest text globals number
procs_count (Body name at returns params lines end ∷ rest) text globals number =
    let x = procs_count rest text globals (number + length (all_checks_of (source_lines_of lines))) in omega (arith, x)

another : (n most : ℕ) → (n == most) ≡ false → n ≤ most → n + 1 ≤ most
another n most e l = grind (arith, common_steps, e, l)

globals_few : (items : List Item) (above : Scope) (g p : ℕ) → declaration_faults above g p items ≡ [] → g ≤ most_globals → g + count_globals items ≤ most_globals
globals_few [] above g p f l = omega (arith, l)
globals_few (Global name at init ∷ rest) above g p f l =
    let x = another g most_globals (not_when _ _ (second_nil _ _ (first_nil _ _ f))) l in
    let y = globals_few rest _ (g + 1) p (second_nil _ _ f) x in omega (arith, y)
globals_few (Proto name at returns params ∷ rest) above g p f l = globals_few rest above g p f l
globals_few (Body name at returns params lines end ∷ rest) above g p f l = globals_few rest _ g (p + 1) (second_nil _ _ f) l

bodies_few : (items : List Item) (above : Scope) (g p : ℕ) → declaration_faults above g p items ≡ [] → p ≤ most_procedures → p + count_bodies items ≤ most_procedures
unfolding count_bodies
bodies_few [] above g p f l = omega (arith, l)
bodies_few (Global name at init ∷ rest) above g p f l = bodies_few rest _ (g + 1) p (second_nil _ _ f) l
bodies_few (Proto name at returns params ∷ rest) above g p f l = bodies_few rest above g p f l
bodies_few (Body name at returns params lines end ∷ rest) above g p f l =
    let x = another p most_procedures (not_when _ _ (second_nil _ _ (first_nil _ _ (first_nil _ _ (first_nil _ _ f))))) l in
    let y = bodies_few rest _ g (p + 1) (second_nil _ _ f) x in omega (arith, y)

params_few : (params : List Param) (above : ℕ) → parameter_faults above params ≡ [] → above ≤ most_parameters → above + length params ≤ most_parameters
params_few [] above f l = omega (arith, l)
params_few (param ∷ rest) above f l =
    let x = another above most_parameters (not_when _ _ (first_nil _ _ f)) l in
    let y = params_few rest (above + 1) (second_nil _ _ f) x in omega (arith, y)

-- ---- the scope of the text

at_front : (front rest : List Proc) (proc : Proc) → slice_get (front ++ proc ∷ rest) (length front) ≡ Some proc
at_front [] rest proc = refl
at_front (x ∷ front) rest proc = at_front front rest proc

scope_fits : (items : List Item) (procs front : List Proc) (text : Scope) (globals width g p n : ℕ) → procs ≡ front ++ procs_of text globals n items → length front ≡ p
    → g + count_globals items ≤ width → ScopeFits procs width (declarations g p items)
scope_fits [] procs front text globals width g p n e l r = tt
scope_fits (Global name at init ∷ rest) procs front text globals width g p n e l r =
    (omega (arith, r), scope_fits rest procs front text globals width (g + 1) p n e l (omega (arith, r)))
scope_fits (Proto name at returns params ∷ rest) procs front text globals width g p n e l r = scope_fits rest procs front text globals width g p n e l r
scope_fits (Body name at returns params lines end ∷ rest) procs front text globals width g p n e l r =
    let proc = proc_of text globals n name returns params lines in
    let m = n + length (all_checks_of (source_lines_of lines)) in (
      record {
        proc = proc;
        stands = ap (λ (i : ℕ). slice_get procs i) (sym l) ∙ ap (λ (xs : List Proc). slice_get xs (length front)) e ∙ at_front front (procs_of text globals m rest) proc;
        params = refl;
        returns = refl;
      },
      scope_fits rest procs (front ++ proc ∷ []) text globals width g (p + 1) m (e ∙ sym (append_assoc front (proc ∷ []) (procs_of text globals m rest)))
          (let x = length-append front (proc ∷ []) in omega (arith, x, l)) r,
    )

-- ---- `main`

is_zero : (n : ℕ) → (n == 0) ≡ true → n ≡ 0
is_zero n e = grind (arith, common_steps, e)

if_main : (b : Bool) (count p : ℕ) (rest : Option ℕ) (procs : List Proc) (proc : Proc) → (b && not (count == 0)) ≡ false → proc.params ≡ count → slice_get procs p ≡ Some proc
    → (is_none rest ≡ false → IsSomeAnd (slice_get procs (unwrap_or rest 0)) (λ (q : Proc). q.params ≡ 0))
    → is_none (if b then Some p else rest) ≡ false → IsSomeAnd (slice_get procs (unwrap_or (if b then Some p else rest) 0)) (λ (q : Proc). q.params ≡ 0)
if_main true count p rest procs proc f c s more e =
    subst (λ (o : Option Proc). IsSomeAnd o (λ (q : Proc). q.params ≡ 0)) (sym s) (c ∙ is_zero count (was_not _ f))
if_main false count p rest procs proc f c s more e = more e

main_fits : (items : List Item) (procs front : List Proc) (text above : Scope) (globals g p n : ℕ) → declaration_faults above g p items ≡ []
    → procs ≡ front ++ procs_of text globals n items → length front ≡ p → is_none (main_from p items) ≡ false
    → IsSomeAnd (slice_get procs (unwrap_or (main_from p items) 0)) (λ (q : Proc). q.params ≡ 0)
main_fits [] procs front text above globals g p n f e l h = absurd (true_is_not_false h)
main_fits (Global name at init ∷ rest) procs front text above globals g p n f e l h = main_fits rest procs front text _ globals (g + 1) p n (second_nil _ _ f) e l h
main_fits (Proto name at returns params ∷ rest) procs front text above globals g p n f e l h = main_fits rest procs front text above globals g p n f e l h
main_fits (Body name at returns params lines end ∷ rest) procs front text above globals g p n f e l h =
    let proc = proc_of text globals n name returns params lines in
    let m = n + length (all_checks_of (source_lines_of lines)) in
    if_main (is_main name) (length params) p (main_from (p + 1) rest) procs proc (not_when _ _ (second_nil _ _ (first_nil _ _ (first_nil _ _ f)))) refl
    (ap (λ (i : ℕ). slice_get procs i) (sym l) ∙ ap (λ (xs : List Proc). slice_get xs (length front)) e ∙ at_front front (procs_of text globals m rest) proc)
    (λ k. main_fits rest procs (front ++ proc ∷ []) text _ globals g (p + 1) m (second_nil _ _ f) (e ∙ sym (append_assoc front (proc ∷ []) (procs_of text globals m rest)))
    (let x = length-append front (proc ∷ []) in omega (arith, x, l)) k) h

-- ---- one procedure

with_params_moves : (params : List Param) (env : Env) → Moves env (with_params env params) (length params) 0
with_params_moves [] env = moves_self env
with_params_moves (param ∷ rest) env = moves_as (moves_on (moves_declared param.name env) (with_params_moves rest (with_variable param.name env))) (omega arith) (omega arith)

with_params_within : (params : List Param) (env : Env) → params_faults env params ≡ [] → IsWithin env → IsWithin (with_params env params)
with_params_within [] env f w = w
with_params_within (param ∷ rest) env f w =
    with_params_within rest (with_variable param.name env) (second_nil _ _ f) (declared_within param.name env param.at (first_nil _ _ f) w)

with_params_fit : {procs : List Proc} {width : ℕ} (params : List Param) (env : Env) → env.next + length params < width → EnvFits procs width env → EnvFits procs width (with_params env params)
with_params_fit [] env l h = h
with_params_fit (param ∷ rest) env l h =
    let m = (moves_declared param.name env).next in
    with_params_fit rest (with_variable param.name env) (omega (arith, l, m)) (declared_env param.name env (omega (arith, l)) h)

columns_count : (params : List Param) (lines : List Line) → length (body_columns params lines) ≡ length params + length (all_columns_of (source_lines_of lines))
columns_count params lines = length-append (map param_column params) (all_columns_of (source_lines_of lines)) ∙ ap (λ (n : ℕ). n + length (all_columns_of (source_lines_of lines))) (length-map params param_column)

pub params_named : (params : List Param) (rest : List Column) → list_all has_name (take (length params) (map param_column params ++ rest)) ≡ true
params_named [] rest = refl
params_named (param ∷ params) rest = params_named params rest

-- what a procedure begins with is within the limits, and fits
begins_within : (text : Scope) (globals n columns : ℕ) (returns : Bool) → n ≤ most_checks → IsWithin (beginning text globals n returns columns)
unfolding beginning
begins_within text globals n columns returns l = record { columns = omega arith; checks = l }

begins_fit : (procs : List Proc) (text : Scope) (globals n columns : ℕ) (returns : Bool) → ScopeFits procs (globals + columns + 1) text
    → EnvFits procs (globals + columns + 1) (beginning text globals n returns columns)
unfolding beginning
begins_fit procs text globals n columns returns h = record { scopes = (tt, (h, tt)); ret = refl }

-- the numbers of a procedure's environment behind its parameters
pub record Stands (env : Env) (globals columns params n : ℕ) : Type 0 where
  pub next : env.next ≡ globals + params
  pub number : env.number ≡ n
  pub ret : env.ret ≡ globals + columns
  pub full : env.full ≡ globals + most_slots

stands_behind : (params : List Param) (text : Scope) (globals n columns : ℕ) (returns : Bool)
    → Stands (with_params (beginning text globals n returns columns) params) globals columns (length params) n
unfolding beginning
stands_behind params text globals n columns returns =
    let m = with_params_moves params (beginning text globals n returns columns) in
    record { next = m.next; number = m.number ∙ omega arith; ret = m.ret; full = m.full }

next_begin : (params : ℕ) (text : Scope) (globals n columns : ℕ) (returns : Bool) → params ≤ columns
    → (beginning text globals n returns columns).next + params < globals + columns + 1
unfolding beginning
next_begin params text globals n columns returns l = omega (arith, l)

-- how far a body comes
body_within : (text : Scope) (globals n : ℕ) (returns : Bool) (params : List Param) (lines : List Line) (end : ℕ)
    → body_faults text globals n returns params lines end ≡ [] → n ≤ most_checks
    → IsWithin (after_all (body_env text globals n returns params lines) (source_lines_of lines))
body_within text globals n returns params lines end f l =
    let f2 = first_nil _ _ f in
    lines_within (source_lines_of lines) (body_env text globals n returns params lines) (second_nil _ _ f2)
    (with_params_within params (beginning text globals n returns (length (body_columns params lines))) (first_nil _ _ f2)
    (begins_within text globals n (length (body_columns params lines)) returns l))

body_few : (text : Scope) (globals n : ℕ) (returns : Bool) (params : List Param) (lines : List Line) (end : ℕ)
    → body_faults text globals n returns params lines end ≡ [] → n ≤ most_checks
    → (length (body_columns params lines) ≤ most_slots) × (n + length (all_checks_of (source_lines_of lines)) ≤ most_checks)
body_few text globals n returns params lines end f l =
    let w = body_within text globals n returns params lines end f l in
    let s = stands_behind params text globals n (length (body_columns params lines)) returns in
    let m = lines_move (source_lines_of lines) (body_env text globals n returns params lines) in
    let c = columns_count params lines in
    (omega (arith, w.columns, s.next, s.full, m.next, m.full, c), omega (arith, w.checks, s.number, m.number))

with_params_place : (params : List Param) (env : Env) → (with_params env params).place ≡ env.place
unfolding with_variable
with_params_place [] env = refl
with_params_place (param ∷ rest) env = with_params_place rest (with_variable param.name env)

begins_outside : (text : Scope) (globals n columns : ℕ) (returns : Bool) → (beginning text globals n returns columns).place ≡ Outside
unfolding beginning
begins_outside text globals n columns returns = refl

proc_code : (program : Program) (text : Scope) (globals n : ℕ) (returns : Bool) (params : List Param) (lines : List Line) (end width : ℕ) (place : _)
    → body_faults text globals n returns params lines end ≡ [] → globals + length (body_columns params lines) + 1 ≡ width
    → ((width : ℕ) → globals ≤ width → ScopeFits program.procs width text) → n + length (all_checks_of (source_lines_of lines)) ≤ length program.checks
    → lines_have_fewer (most_operators + 1) (source_lines_of lines) ≡ true → AgreesBy fit.may_leave fit.body_place Outside place
    → code_fits program width place (code_of (all_statements_of (body_env text globals n returns params lines) (source_lines_of lines))) ≡ true
proc_code program text globals n returns params lines end width place f wide scope checks o agrees =
    let columns = length (body_columns params lines) in
    let c = columns_count params lines in
    let s = stands_behind params text globals n columns returns in
    let env = body_env text globals n returns params lines in
    let fits = with_params_fit params (beginning text globals n returns columns) (next_begin (length params) text globals n columns returns (omega (arith, c)))
    (begins_fit program.procs text globals n columns returns (scope (globals + columns + 1) (omega arith))) in
    subst (λ (w : ℕ). code_fits program w place (code_of (all_statements_of env (source_lines_of lines))) ≡ true) wide
    (lines_fit (source_lines_of lines) program (globals + columns + 1) place env (second_nil _ _ (first_nil _ _ f)) fits
    (agrees_at Outside env.place place (with_params_place params (beginning text globals n returns columns) ∙ begins_outside text globals n columns returns) agrees)
    (omega (arith, s.next, s.ret, c)) (omega (arith, s.number, checks)) o).code

proc_fits : (program : Program) (text : Scope) (globals n : ℕ) (name : List ℕ) (returns : Bool) (params : List Param) (lines : List Line) (end : ℕ)
    → body_faults text globals n returns params lines end ≡ [] → parameter_faults 0 params ≡ [] → n ≤ most_checks → length program.globals ≡ globals
    → ((width : ℕ) → globals ≤ width → ScopeFits program.procs width text) → n + length (all_checks_of (source_lines_of lines)) ≤ length program.checks
    → lines_have_fewer (most_operators + 1) (source_lines_of lines) ≡ true → IsProcFit program (proc_of text globals n name returns params lines)
proc_fits program text globals n name returns params lines end f p l g scope checks o =
    let few = body_few text globals n returns params lines end f l in
    let c = columns_count params lines in
    let wide : globals + length (body_columns params lines) + 1 ≡ width_of program (proc_of text globals n name returns params lines) = omega (arith, g) in
    record {
      params = let x = params_few params 0 p (omega arith) in omega (arith, x);
      slots = few.0;
      first = omega (arith, c);
      named = params_named params (all_columns_of (source_lines_of lines));
      body = proc_code program text globals n returns params lines end _ _ f wide scope checks o (refl, refl);
      nodes = no_more _ _ (not_when _ _ (second_nil _ _ f));
    }

procs_fit : (items : List Item) (program : Program) (text above : Scope) (globals g p n : ℕ) → procs_faults text globals n items ≡ [] → declaration_faults above g p items ≡ []
    → n ≤ most_checks → length program.globals ≡ globals → ((width : ℕ) → globals ≤ width → ScopeFits program.procs width text)
    → n + length (checks_in items) ≤ length program.checks → items_have_few items ≡ true → AllByRecursion (IsProcFit program) (procs_of text globals n items)
procs_fit [] program text above globals g p n f d l e scope checks o = tt
procs_fit (Global name at init ∷ rest) program text above globals g p n f d l e scope checks o =
    procs_fit rest program text _ globals (g + 1) p n f (second_nil _ _ d) l e scope checks o
procs_fit (Proto name at returns params ∷ rest) program text above globals g p n f d l e scope checks o =
    procs_fit rest program text above globals g p n f d l e scope checks o
procs_fit (Body name at returns params lines end ∷ rest) program text above globals g p n f d l e scope checks o =
    let k = length-append (all_checks_of (source_lines_of lines)) (checks_in rest) in
    let few = body_few text globals n returns params lines end (first_nil _ _ f) l in (
      proc_fits program text globals n name returns params lines end (first_nil _ _ f) (second_nil _ _ (first_nil _ _ d)) l e scope (omega (arith, checks, k)) (left_of _ _ o),
      procs_fit rest program text _ globals g (p + 1) (n + length (all_checks_of (source_lines_of lines))) (second_nil _ _ f) (second_nil _ _ d) few.1 e scope (omega (arith, checks, k))
          (right_of (lines_have_fewer (most_operators + 1) (source_lines_of lines)) _ o),
    )

-- ---- assertions

checks_few : (items : List Item) (text : Scope) (globals n : ℕ) → procs_faults text globals n items ≡ [] → n ≤ most_checks → n + length (checks_in items) ≤ most_checks
checks_few [] text globals n f l = omega (arith, l)
checks_few (Global name at init ∷ rest) text globals n f l = checks_few rest text globals n f l
checks_few (Proto name at returns params ∷ rest) text globals n f l = checks_few rest text globals n f l
checks_few (Body name at returns params lines end ∷ rest) text globals n f l =
    let few = body_few text globals n returns params lines end (first_nil _ _ f) l in
    let x = checks_few rest text globals (n + length (all_checks_of (source_lines_of lines))) (second_nil _ _ f) few.1 in
    let y = length-append (all_checks_of (source_lines_of lines)) (checks_in rest) in
    omega (arith, x, y)

procs_listed : (k : ℕ) (items : List Item) (text : Scope) (globals n : ℕ) → procs_checks k (procs_of text globals n items) ≡ listed n (length (checks_in items)) k
procs_listed k [] text globals n = grind (arith, common_steps)
procs_listed k (Global name at init ∷ rest) text globals n = procs_listed k rest text globals n
procs_listed k (Proto name at returns params ∷ rest) text globals n = procs_listed k rest text globals n
procs_listed k (Body name at returns params lines end ∷ rest) text globals n =
    let m = length (all_checks_of (source_lines_of lines)) in
    let a = lines_listed k (source_lines_of lines) (body_env text globals n returns params lines) in
    let s = stands_behind params text globals n (length (body_columns params lines)) returns in
    let e = ap (λ (x : ℕ). listed x m k) s.number in
    let b = procs_listed k rest text globals (n + m) in
    let r = listed_then n m (length (checks_in rest)) k in
    let y = ap (λ (x : ℕ). listed n x k) (length-append (all_checks_of (source_lines_of lines)) (checks_in rest)) in
    omega (arith, a, e, b, r, y)

pub listed_within : (k count : ℕ) → 1 ≤ k → k ≤ count → listed 0 count k ≡ 1
listed_within k count l h = grind (arith, common_steps)

-- ---- together

pub elaborated_fits : (items : List Item) (length_of_text : ℕ) → faults_of items length_of_text ≡ [] → items_have_few items ≡ true → IsWellFormed (elaborated_program items)
elaborated_fits items length_of_text f o =
    let program = elaborated_program items in
    let text = declarations 0 0 items in
    let globals = count_globals items in
    let f3 = first_nil _ _ f in let f2 = first_nil _ _ f3 in
    let d : declaration_faults [] 0 0 items ≡ [] = first_nil _ _ f2 in
    let q : procs_faults text globals 0 items ≡ [] = second_nil _ _ f3 in
    let m : is_none (main_from 0 items) ≡ false = not_when _ _ (second_nil _ _ f) in
    let g = globals_count items in
    let scope : (width : ℕ) → globals ≤ width → ScopeFits program.procs width text =
    λ width l. scope_fits items program.procs [] text globals width 0 0 0 refl refl (omega (arith, l)) in
    record {
      procedures = let x = procs_count items text globals 0 in let y = bodies_few items [] 0 0 d (omega arith) in omega (arith, x, y);
      globals = let y = globals_few items [] 0 0 d (omega arith) in omega (arith, g, y);
      first_rule = omega arith;
      last_rule = omega arith;
      assertions = let x = checks_few items text globals 0 q (omega arith) in omega (arith, x);
      main = main_fits items program.procs [] text [] globals 0 0 0 d refl refl m;
      each = All-from_recursion (IsProcFit program) program.procs (procs_fit items program text [] globals 0 0 0 q d (omega arith) g scope (omega arith) o);
      once = λ k l h. procs_listed k items text globals 0 ∙ listed_within k (length (checks_in items)) l h;
    }

-- what elaboration answers is well formed
pub answer_fits : (items : List Item) (length_of_text : ℕ) (program : Program) → items_have_few items ≡ true
    → elaboration_of items length_of_text ≡ Ok program → IsWellFormed program
answer_fits items length_of_text program o e =
    let is = answered items length_of_text program e in
    subst IsWellFormed (sym is.same) (elaborated_fits items length_of_text is.faultless o)

pub answered_fits : (items : List Item) (length_of_text : ℕ) (made : Result Program TypeError) → Gives cause (λ (p : Program). p) made (elaboration_of items length_of_text)
    → items_have_few items ≡ true → IfOk made IsWellFormed
answered_fits items length_of_text (Ok program) gives o = answer_fits items length_of_text program o gives
answered_fits items length_of_text (Err fault) gives o = tt
