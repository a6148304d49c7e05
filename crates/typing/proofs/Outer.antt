-- Lines declare in the innermost scope alone: the scopes around stay.
use Rattle.std.proofs.Common.{◌≡◌, ℕ, true, false, Option, None, Some, List, [], ◌∷◌, refl, ap, ◌∙◌}
use Rattle.syntax_tree.specs.declared.tree.Param.{Param}
use Rattle.syntax_tree.specs.SourceExpr.{SourceExpr}
use Rattle.syntax_tree.specs.SourceLine.{SourceLine, Block, Local, Assign, Act, If, Loop, Break, Continue, Return, SourceLines, End, Then}
use Rattle.typing.specs.declared.env.Env.{Env}
use Rattle.typing.specs.declared.meaning.Meaning.{Meaning}
use Rattle.typing.specs.Env.{without_scope, with_variable, with_assertions, with_scope, with_place, with_columns_taken}
use Rattle.typing.specs.Lines.{after, after_all, with_value}
use Rattle.typing.specs.Scopes.{Scope, with_declaration, outer_of}
use Rattle.typing.specs.Terms.{temporaries}
use Rattle.typing.specs.Texts.{with_params}

declared_in-outer : (name : List ℕ) (meaning : Meaning) (scopes : List Scope) → outer_of (with_declaration name meaning scopes) ≡ outer_of scopes
declared_in-outer name meaning [] = refl
declared_in-outer name meaning (scope ∷ outer) = refl

pub with_variable-outer : (name : List ℕ) (env : Env) → outer_of (with_variable name env).scopes ≡ outer_of env.scopes
unfolding with_variable
with_variable-outer name env = declared_in-outer name _ env.scopes

with_value-outer : (init : Option SourceExpr) (env : Env) → outer_of (with_value init env).scopes ≡ outer_of env.scopes
unfolding with_columns_taken
with_value-outer None env = refl
with_value-outer (Some value) env = refl

mutual
  unfolding with_columns_taken with_assertions with_scope without_scope with_place

  pub after-outer : (env : Env) (line : SourceLine) → outer_of (after env line).scopes ≡ outer_of env.scopes
  after-outer env (Block lines) = ap outer_of (after_all-outer (with_scope env) lines)
  after-outer env (Local name at init) = with_value-outer init (with_variable name env) ∙ with_variable-outer name env
  after-outer env (Assign name at value) = refl
  after-outer env (Act call) = refl
  after-outer env (If cond on_true on_false) =
      ap outer_of (after_all-outer (with_scope (without_scope (after_all (with_scope (with_columns_taken (temporaries cond) env)) on_true))) on_false
      ∙ after_all-outer (with_scope (with_columns_taken (temporaries cond) env)) on_true)
  after-outer env (Loop init cond step body false) =
      ap outer_of (ap outer_of (after_all-outer _ body) ∙ after_all-outer _ step ∙ after_all-outer (with_scope env) init)
  after-outer env (Loop init cond step body true) =
      ap outer_of (after_all-outer _ step ∙ ap outer_of (after_all-outer _ body) ∙ after_all-outer (with_scope env) init)
  after-outer env (Break at) = refl
  after-outer env (Continue at) = refl
  after-outer env (Return at value) = with_value-outer value env

  pub after_all-outer : (env : Env) (lines : SourceLines) → outer_of (after_all env lines).scopes ≡ outer_of env.scopes
  after_all-outer env End = refl
  after_all-outer env (Then line rest) = after_all-outer (after env line) rest ∙ after-outer env line

pub with_params-outer : (env : Env) (params : List Param) → outer_of (with_params env params).scopes ≡ outer_of env.scopes
with_params-outer env [] = refl
with_params-outer env (param ∷ rest) = with_params-outer (with_variable param.name env) rest ∙ with_variable-outer param.name env

-- behind the lines of a scope the scopes around are there again
pub without_scope-scopes : (env : Env) → (without_scope env).scopes ≡ outer_of env.scopes
unfolding without_scope
without_scope-scopes env = refl

pub ruleset outer = (after_all-outer, with_params-outer, without_scope-scopes)
