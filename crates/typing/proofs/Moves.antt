-- How far the lines of a procedure move: how many columns they take and how many assertions they
-- have.
use Rattle.std.proofs.Common.{◌≡◌, ℕ, ◌+◌, true, false, Option, None, Some, List, ◌++◌, length, refl, sym, ap, arith, ◌∙◌}
use Rattle.std.proofs.lemmas.List.{length-replicate}
use Rattle.std.proofs.Common.{length-append}
use Rattle.syntax_tree.specs.declared.program.Column.{Column}
use Rattle.syntax_tree.specs.SourceExpr.{SourceExpr}
use Rattle.syntax_tree.specs.SourceLine.{SourceLine, Block, Local, Assign, Act, If, Loop, Break, Continue, Return, SourceLines, End, Then}
use Rattle.typing.specs.declared.env.Env.{Env}
use Rattle.typing.specs.declared.env.LoopPlace.{LoopPlace}
use Rattle.typing.specs.declared.env.LoopPlace.TheVariants.{InStep}
use Rattle.typing.specs.Calls.{act_checks, put_temporaries}
use Rattle.typing.specs.Env.{body_place, without_scope, with_variable, with_assertions, with_scope, with_place, with_columns_taken}
use Rattle.typing.specs.Lines.{after, after_all, all_checks_of, all_columns_of, at_body, at_first_body, at_last_step, at_last_test, at_step, at_test, behind_body, checks_of, columns_of, in_body, in_branch, in_second_branch, in_step, nameless, value_columns, with_value}
use Rattle.typing.specs.Terms.{temporaries}

-- from one environment to another over so many columns and assertions; all else that is a number
-- stays
pub record Moves (env to : Env) (columns checks : ℕ) : Type 0 where
  pub next : to.next ≡ env.next + columns
  pub number : to.number ≡ env.number + checks
  pub returns : to.returns ≡ env.returns
  pub ret : to.ret ≡ env.ret
  pub full : to.full ≡ env.full

pub moves_self : (env : Env) → Moves env env 0 0
moves_self env = record { next = omega arith; number = omega arith; returns = refl; ret = refl; full = refl }

pub moves_then : (a b c : Env) (m n k l : ℕ) → Moves a b m k → Moves b c n l → Moves a c (m + n) (k + l)
moves_then a b c m n k l one two = record {
  next = omega (arith, one.next, two.next);
  number = omega (arith, one.number, two.number);
  returns = two.returns ∙ one.returns;
  ret = two.ret ∙ one.ret;
  full = two.full ∙ one.full;
}

pub moves_as : {a b : Env} {m n k l : ℕ} → Moves a b m k → m ≡ n → k ≡ l → Moves a b n l
moves_as h e f = record {
  next = omega (arith, h.next, e);
  number = omega (arith, h.number, f);
  returns = h.returns;
  ret = h.ret;
  full = h.full;
}

pub moves_on : {a b c : Env} {m n k l : ℕ} → Moves a b m k → Moves b c n l → Moves a c (m + n) (k + l)
moves_on {a = a} {b = b} {c = c} {m = m} {n = n} {k = k} {l = l} one two = moves_then a b c m n k l one two

pub moves_taken : (columns : ℕ) (env : Env) → Moves env (with_columns_taken columns env) columns 0
unfolding with_columns_taken
moves_taken columns env = record { next = refl; number = omega arith; returns = refl; ret = refl; full = refl }

pub moves_numbered : (checks : ℕ) (env : Env) → Moves env (with_assertions checks env) 0 checks
unfolding with_assertions
moves_numbered checks env = record { next = omega arith; number = refl; returns = refl; ret = refl; full = refl }

pub moves_declared : (name : List ℕ) (env : Env) → Moves env (with_variable name env) 1 0
unfolding with_variable
moves_declared name env = record { next = refl; number = omega arith; returns = refl; ret = refl; full = refl }

pub moves_opened : (env : Env) → Moves env (with_scope env) 0 0
unfolding with_scope
moves_opened env = record { next = omega arith; number = omega arith; returns = refl; ret = refl; full = refl }

pub moves_closed : (env : Env) → Moves env (without_scope env) 0 0
unfolding without_scope
moves_closed env = record { next = omega arith; number = omega arith; returns = refl; ret = refl; full = refl }

pub moves_placed : (place : LoopPlace) (env : Env) → Moves env (with_place place env) 0 0
unfolding with_place
moves_placed place env = record { next = omega arith; number = omega arith; returns = refl; ret = refl; full = refl }

-- and on, without a column or an assertion
pub then_still : {a b c : Env} {m k : ℕ} → Moves a b m k → Moves b c 0 0 → Moves a c m k
then_still h s = moves_as (moves_on h s) (omega arith) (omega arith)

pub still_then : {a b c : Env} {m k : ℕ} → Moves a b 0 0 → Moves b c m k → Moves a c m k
still_then s h = moves_as (moves_on s h) (omega arith) (omega arith)

pub nameless_length : (count : ℕ) → length (nameless count) ≡ count
nameless_length count = length-replicate count (record { name = None })

with_value_moves : (value : Option SourceExpr) (env : Env) → Moves env (with_value value env) (length (value_columns value)) 0
with_value_moves None env = moves_self env
with_value_moves (Some e) env = moves_as (moves_taken (put_temporaries e) env) (sym (nameless_length (put_temporaries e))) refl

-- a scope of its own
in_scope : {a b : Env} {m k : ℕ} → Moves (with_scope a) b m k → Moves a (without_scope b) m k
in_scope {a = a} {b = b} h = then_still (still_then (moves_opened a) h) (moves_closed b)

pub in_body_moves : (env : Env) → Moves env (in_body env) 0 0
in_body_moves env = then_still (moves_placed (body_place env.place) env) (moves_opened (with_place (body_place env.place) env))

pub behind_body_moves : (place : LoopPlace) (env : Env) → Moves env (behind_body place env) 0 0
behind_body_moves place env = then_still (moves_closed env) (moves_placed place (without_scope env))

cond_moves : (cond : SourceExpr) (env : Env) → Moves env (with_columns_taken (temporaries cond) env) (length (nameless (temporaries cond))) 0
cond_moves cond env = moves_as (moves_taken (temporaries cond) env) (sym (nameless_length (temporaries cond))) refl

pub sum_of_three : (xs ys zs : List Column) → length xs + length ys + length zs ≡ length (xs ++ ys ++ zs)
sum_of_three xs ys zs = sym (length-append (xs ++ ys) zs ∙ ap (λ (n : ℕ). n + length zs) (length-append xs ys))

pub sum_of_four : (xs ys zs us : List Column) → length xs + length ys + length zs + length us ≡ length (xs ++ ys ++ zs ++ us)
sum_of_four xs ys zs us = sym (length-append (xs ++ ys ++ zs) us ∙ ap (λ (n : ℕ). n + length us) (sym (sum_of_three xs ys zs)))

pub sum_of_places : (xs ys zs : List ℕ) → length xs + length ys + length zs ≡ length (xs ++ ys ++ zs)
sum_of_places xs ys zs = sym (length-append (xs ++ ys) zs ∙ ap (λ (n : ℕ). n + length zs) (length-append xs ys))

mutual
  pub line_moves : (line : SourceLine) (env : Env) → Moves env (after env line) (length (columns_of line)) (length (checks_of line))
  line_moves (Block lines) env = in_scope (lines_move lines (with_scope env))
  line_moves (Local name at init) env = moves_as (moves_on (moves_declared name env) (with_value_moves init (with_variable name env))) (omega arith) (omega arith)
  line_moves (Assign name at value) env = moves_as (moves_taken (put_temporaries value) env) (sym (nameless_length (put_temporaries value))) refl
  line_moves (Act call) env =
      moves_as (moves_on (moves_taken (put_temporaries call) env) (moves_numbered (length (act_checks call)) (with_columns_taken (put_temporaries call) env)))
      (omega (arith, nameless_length (put_temporaries call))) (omega arith)
  line_moves (If cond on_true on_false) env =
      let first = in_scope (lines_move on_true (with_scope (with_columns_taken (temporaries cond) env))) in
      let second = in_scope (lines_move on_false (with_scope (without_scope (after_all (with_scope (with_columns_taken (temporaries cond) env)) on_true)))) in
      moves_as (moves_on (moves_on (cond_moves cond env) first) second)
      (sum_of_three (nameless (temporaries cond)) (all_columns_of on_true) (all_columns_of on_false))
      (omega (arith, length-append (all_checks_of on_true) (all_checks_of on_false)))
  line_moves (Loop init cond step body false) env =
      let first = still_then (moves_opened env) (lines_move init (with_scope env)) in
      let test = moves_on first (cond_moves cond (after_all (with_scope env) init)) in
      let stepped = moves_on test (still_then (moves_placed InStep (with_columns_taken (temporaries cond) (after_all (with_scope env) init)))
      (lines_move step (in_step (with_columns_taken (temporaries cond) (after_all (with_scope env) init))))) in
      let back = then_still stepped (moves_placed env.place (after_all (in_step (with_columns_taken (temporaries cond) (after_all (with_scope env) init))) step)) in
      let inner = with_place env.place (after_all (in_step (with_columns_taken (temporaries cond) (after_all (with_scope env) init))) step) in
      let all = moves_on back (still_then (in_body_moves inner) (lines_move body (in_body inner))) in
      let done = then_still all (behind_body_moves env.place (after_all (in_body inner) body)) in
      moves_as (then_still done (moves_closed (behind_body env.place (after_all (in_body inner) body))))
      (sum_of_four (all_columns_of init) (nameless (temporaries cond)) (all_columns_of step) (all_columns_of body))
      (omega (arith, sum_of_places (all_checks_of init) (all_checks_of step) (all_checks_of body)))
  line_moves (Loop init cond step body true) env =
      let first = still_then (moves_opened env) (lines_move init (with_scope env)) in
      let start = after_all (with_scope env) init in
      let inner = moves_on first (still_then (in_body_moves start) (lines_move body (in_body start))) in
      let behind = behind_body env.place (after_all (in_body start) body) in
      let out = then_still inner (behind_body_moves env.place (after_all (in_body start) body)) in
      let test = moves_on out (cond_moves cond behind) in
      let stepped = moves_on test (still_then (moves_placed InStep (with_columns_taken (temporaries cond) behind)) (lines_move step (in_step (with_columns_taken (temporaries cond) behind)))) in
      let last = after_all (in_step (with_columns_taken (temporaries cond) behind)) step in
      moves_as (then_still (then_still stepped (moves_placed env.place last)) (moves_closed (with_place env.place last)))
      (sum_of_four (all_columns_of init) (all_columns_of body) (nameless (temporaries cond)) (all_columns_of step))
      (omega (arith, sum_of_places (all_checks_of init) (all_checks_of body) (all_checks_of step)))
  line_moves (Break at) env = moves_self env
  line_moves (Continue at) env = moves_self env
  line_moves (Return at value) env = with_value_moves value env

  pub lines_move : (lines : SourceLines) (env : Env) → Moves env (after_all env lines) (length (all_columns_of lines)) (length (all_checks_of lines))
  lines_move End env = moves_self env
  lines_move (Then line rest) env =
      moves_as (moves_on (line_moves line env) (lines_move rest (after env line)))
      (sym (length-append (columns_of line) (all_columns_of rest))) (sym (length-append (checks_of line) (all_checks_of rest)))

-- ---- to the parts of a line

pub to_branch : (env : Env) (cond : SourceExpr) → Moves env (in_branch env cond) (temporaries cond) 0
to_branch env cond = then_still (moves_taken (temporaries cond) env) (moves_opened (with_columns_taken (temporaries cond) env))

pub to_second_branch : (env : Env) (cond : SourceExpr) (on_true : SourceLines)
    → Moves env (in_second_branch env cond on_true) (temporaries cond + length (all_columns_of on_true)) (length (all_checks_of on_true))
to_second_branch env cond on_true =
    moves_as (moves_on (to_branch env cond) (then_still (then_still (lines_move on_true (in_branch env cond)) (moves_closed _)) (moves_opened _))) refl (omega arith)

pub to_test : (env : Env) (init : SourceLines) → Moves env (at_test env init) (length (all_columns_of init)) (length (all_checks_of init))
to_test env init = still_then (moves_opened env) (lines_move init (with_scope env))

pub to_step : (env : Env) (init : SourceLines) (cond : SourceExpr)
    → Moves env (at_step env init cond) (length (all_columns_of init) + temporaries cond) (length (all_checks_of init))
to_step env init cond =
    moves_as (moves_on (to_test env init) (then_still (moves_taken (temporaries cond) (at_test env init)) (moves_placed InStep _))) refl (omega arith)

pub to_body : (env : Env) (init : SourceLines) (cond : SourceExpr) (step : SourceLines)
    → Moves env (at_body env init cond step) (length (all_columns_of init) + temporaries cond + length (all_columns_of step)) (length (all_checks_of init) + length (all_checks_of step))
to_body env init cond step =
    then_still (then_still (moves_on (to_step env init cond) (lines_move step (at_step env init cond))) (moves_placed env.place _)) (in_body_moves _)

pub to_first_body : (env : Env) (init : SourceLines) → Moves env (at_first_body env init) (length (all_columns_of init)) (length (all_checks_of init))
to_first_body env init = then_still (to_test env init) (in_body_moves _)

pub to_last_test : (env : Env) (init body : SourceLines)
    → Moves env (at_last_test env init body) (length (all_columns_of init) + length (all_columns_of body)) (length (all_checks_of init) + length (all_checks_of body))
to_last_test env init body = then_still (moves_on (to_first_body env init) (lines_move body (at_first_body env init))) (behind_body_moves env.place _)

pub to_last_step : (env : Env) (init body : SourceLines) (cond : SourceExpr)
    → Moves env (at_last_step env init body cond) (length (all_columns_of init) + length (all_columns_of body) + temporaries cond) (length (all_checks_of init) + length (all_checks_of body))
to_last_step env init body cond =
    moves_as (moves_on (to_last_test env init body) (then_still (moves_taken (temporaries cond) (at_last_test env init body)) (moves_placed InStep _))) refl (omega arith)
