-- Lists of statements and of expressions, by their plain forms.
use Rattle.std.proofs.Common.{◌≡◌, ℕ, suc, Bool, true, false, List, [], ◌∷◌, length, refl, ap}
use Rattle.std.specs.Prelude.{◌&&◌}
use Rattle.std.specs.Cmp.Derive.Mapped.{pointwise-map}
use Rattle.syntax_tree.specs.declared.stmt.Stmt.{Stmt}
use Rattle.syntax_tree.specs.Code.{code_of, statement_of}
use Rattle.alike_groups.specs.Tests.{is_alike_code, is_alike_statement}

-- lists of different lengths are not alike
pub code-uneven : (test : ℕ → ℕ → Bool) (stmts others : List Stmt) → (length stmts ≡ length others → ⊥) → is_alike_code test (code_of stmts) (code_of others) ≡ false
code-uneven test [] [] h = absurd (h refl)
code-uneven test [] (o ∷ others) h = refl
code-uneven test (s ∷ stmts) [] h = refl
code-uneven test (s ∷ stmts) (o ∷ others) h = go (is_alike_statement test (statement_of s) (statement_of o)) (code-uneven test stmts others (λ e. h (ap suc e)))
  where
    go : (b : Bool) → is_alike_code test (code_of stmts) (code_of others) ≡ false → (b && is_alike_code test (code_of stmts) (code_of others)) ≡ false
    go true rest = rest
    go false rest = refl

pub ruleset uneven = code-uneven

pub ruleset mapped = pointwise-map
