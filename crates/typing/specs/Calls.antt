-- The statements that make the calls of an expression, and those that put a value into a column.
use Rattle.std.specs.Prelude.{ℕ, pos, ◌+◌, Bool, true, false, Option, None, Some, List, [], ◌∷◌, ◌++◌}
use Rattle.syntax_tree.specs.declared.core_expr.Core.{Core}
use Rattle.syntax_tree.specs.declared.core_expr.Core.TheVariants as core
use Rattle.syntax_tree.specs.declared.stmt.Stmt.{Stmt}
use Rattle.syntax_tree.specs.declared.stmt.Stmt.TheVariants as stmt
use Rattle.syntax_tree.specs.SourceExpr.{SourceExpr, Lit, Var, Call, Unary, Binary, SourceExprs, End, Then}
use Rattle.typing.specs.declared.callee.Callee.{Callee}
use Rattle.typing.specs.declared.callee.Callee.TheVariants as callee
use Rattle.typing.specs.declared.env.Env.{Env}
use Rattle.typing.specs.declared.special.Special.{Special}
use Rattle.typing.specs.declared.special.Special.TheVariants.{Assert, Assume, Nondet, Error, Abort, Exit}
use Rattle.typing.specs.Env.{with_columns_taken}
use Rattle.typing.specs.Scopes.{callee_of}
use Rattle.typing.specs.Specials.{special_of, is_assertion}
use Rattle.typing.specs.Terms.{all_temporaries, temporaries, term_in, terms_in}

-- A call whose value goes into a column. The value of a special call is any number.
abbrev pub call_statement : Callee → List Core → ℕ → Stmt
call_statement (callee.Special special) args col = stmt.Any col
call_statement (callee.Own signature) args col = stmt.Call signature.number args (Some col)
call_statement callee.Nobody args col = stmt.Call 0 args (Some col)

-- the calls of an expression, and of several: left ones first, and inner ones before outer ones
abbrev mutual
  pub calls_in : Env → SourceExpr → List Stmt
  calls_in env (Lit at value) = []
  calls_in env (Var at name) = []
  calls_in env (Call at name args) =
      all_calls_in env args
      ++ call_statement (callee_of env.scopes name) (terms_in env args)
      (env.next + all_temporaries args) ∷ []
  calls_in env (Unary at sign inner) = calls_in env inner
  calls_in env (Binary at op left right) =
      calls_in env left ++ calls_in (with_columns_taken (temporaries left) env) right

  pub all_calls_in : Env → SourceExprs → List Stmt
  all_calls_in env End = []
  all_calls_in env (Then expr rest) =
      calls_in env expr ++ all_calls_in (with_columns_taken (temporaries expr) env) rest

-- A whole right side goes into its column; where it is a call, the call itself needs no temporary.
abbrev pub put_in : Env → ℕ → SourceExpr → List Stmt
put_in env col (Call at name args) =
    all_calls_in env args ++ call_statement (callee_of env.scopes name) (terms_in env args) col ∷ []
put_in env col value = calls_in env value ++ stmt.Set col (term_in env value) ∷ []

-- how many temporaries a whole right side takes: where it is a call, those of its arguments alone
abbrev pub put_temporaries : SourceExpr → ℕ
put_temporaries (Call at name args) = all_temporaries args
put_temporaries value = temporaries value

-- the condition of an assertion or assumption
abbrev pub condition_of : List Core → Core
condition_of [] = core.Lit (pos 0)
condition_of (term ∷ rest) = term

-- A special call that is a statement by itself. What ends the run is an assumption that nothing
-- meets.
abbrev pub special_statements : ℕ → Special → List Core → List Stmt
special_statements number Assert args = stmt.Check number (condition_of args) ∷ []
special_statements number Assume args = stmt.Guard (condition_of args) ∷ []
special_statements number Nondet args = []
special_statements number Error args = stmt.Check number (core.Lit (pos 0)) ∷ []
special_statements number Abort args = stmt.Guard (core.Lit (pos 0)) ∷ []
special_statements number Exit args = stmt.Guard (core.Lit (pos 0)) ∷ []

-- the statements of a call by itself, with this number where it is an assertion: one, or none where
-- its value would be any number
abbrev pub act_statements : ℕ → Callee → List Core → List Stmt
act_statements number (callee.Special special) args = special_statements number special args
act_statements number (callee.Own signature) args = stmt.Call signature.number args None ∷ []
act_statements number callee.Nobody args = stmt.Call 0 args None ∷ []

-- A call that is a statement by itself, whose value goes nowhere. (The grammar has no other
-- expression there.)
abbrev pub act_in : Env → SourceExpr → List Stmt
act_in env (Call at name args) =
    all_calls_in env args ++ act_statements (env.number + 1) (callee_of env.scopes name)
    (terms_in env args)
act_in env other = calls_in env other

-- the call of a name is an assertion; never where the name isn't special
abbrev pub if_assertion : Option Special → Bool
if_assertion (Some special) = is_assertion special
if_assertion None = false

-- a call of this callee is an assertion
abbrev pub callee_asserts : Callee → Bool
callee_asserts (callee.Special special) = is_assertion special
callee_asserts (callee.Own signature) = false
callee_asserts callee.Nobody = false

-- a place where a test holds, and else none
abbrev pub listed_if : Bool → ℕ → List ℕ
listed_if true at = at ∷ []
listed_if false at = []

-- the places of the assertions in a call that is a statement by itself: one or none
abbrev pub act_checks : SourceExpr → List ℕ
act_checks (Call at name args) = listed_if (if_assertion (special_of name)) at
act_checks other = []
