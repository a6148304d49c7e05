-- The expression of the core that an expression of a text becomes. Each call in it takes a column
-- for its value, a temporary: those of the left operand before those of the right one, those of
-- arguments before their call's.
use Rattle.std.specs.Prelude.{ℕ, ◌+◌, List, [], ◌∷◌}
use Rattle.syntax_tree.specs.declared.core_expr.Core.{Core}
use Rattle.syntax_tree.specs.declared.core_expr.Core.TheVariants as core
use Rattle.syntax_tree.specs.SourceExpr.{SourceExpr, Lit, Var, Call, Unary, Binary, SourceExprs, End, Then}
use Rattle.typing.specs.declared.env.Env.{Env}
use Rattle.typing.specs.Env.{with_columns_taken}
use Rattle.typing.specs.Scopes.{column_of}

-- the place of an expression
abbrev pub place_of : SourceExpr → ℕ
place_of (Lit at value) = at
place_of (Var at name) = at
place_of (Call at name args) = at
place_of (Unary at sign inner) = at
place_of (Binary at op left right) = at

-- how many expressions there are
abbrev pub count_of : SourceExprs → ℕ
count_of End = 0
count_of (Then expr rest) = 1 + count_of rest

-- the calls in an expression, and in several
abbrev mutual
  pub temporaries : SourceExpr → ℕ
  temporaries (Lit at value) = 0
  temporaries (Var at name) = 0
  temporaries (Call at name args) = all_temporaries args + 1
  temporaries (Unary at sign inner) = temporaries inner
  temporaries (Binary at op left right) = temporaries left + temporaries right

  pub all_temporaries : SourceExprs → ℕ
  all_temporaries End = 0
  all_temporaries (Then expr rest) = temporaries expr + all_temporaries rest

-- the expression itself: a call is the column of its temporary
abbrev pub term_in : Env → SourceExpr → Core
term_in env (Lit at value) = core.Lit value
term_in env (Var at name) = core.Col (column_of env.scopes name)
term_in env (Call at name args) = core.Col (env.next + all_temporaries args)
term_in env (Unary at sign inner) = core.Unary sign (term_in env inner)
term_in env (Binary at op left right) =
    core.Binary op (term_in env left) (term_in (with_columns_taken (temporaries left) env) right)

-- several expressions in their order, each with its temporaries behind those of the ones before it
abbrev pub terms_in : Env → SourceExprs → List Core
terms_in env End = []
terms_in env (Then expr rest) =
    term_in env expr ∷ terms_in (with_columns_taken (temporaries expr) env) rest
