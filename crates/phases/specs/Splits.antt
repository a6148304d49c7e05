-- The inequalities by which a body may split into phases: those of its rows that read the state
-- where a turn begins, and their contraries. A polynomial p stands for the inequality p <= 0.
use Rattle.std.specs.Prelude.{ℕ, pos, List, [], ◌∷◌, take, Option, None, Some, Result, Ok, Err, option_to_list, if◌then◌else◌}
use Rattle.std.specs.List.{flat_map}
use Rattle.linear_terms.specs.declared.error.TermError.{TermError}
use Rattle.linear_terms.specs.declared.row.Kind.{Kind}
use Rattle.linear_terms.specs.declared.row.Kind.TheVariants.{AtMost, Equal}
use Rattle.linear_terms.specs.declared.row.Normal.{Normal}
use Rattle.linear_terms.specs.declared.row.Normal.TheVariants.{Constant, Kept}
use Rattle.linear_terms.specs.declared.row.Row.{Row}
use Rattle.linear_terms.specs.Equality.{poly_eq}
use Rattle.linear_terms.specs.Expressions.{Made, ◌⊞◌, all_of, negative_of, whole}
use Rattle.linear_terms.specs.Polynomial.{Polynomial}
use Rattle.linear_terms.specs.Row.{normal_form}
use Rattle.transition_formula.specs.Transition.{Transition, every_column, is_below}
use Rattle.polyhedra.specs.Directions.{distinct}
use Rattle.phases.specs.Limits.{most_splits}

-- p <= 0
abbrev pub inequality : Polynomial → Row
inequality p = record { poly = p; kind = AtMost }

-- -p + 1, which is at most 0 exactly where p is not
abbrev pub contrary : Polynomial → Made
contrary p = negative_of (Ok p) ⊞ whole (pos 1)

-- what a row offers: p <= 0 itself and its contrary, and p = 0 its two halves, each with its
-- contrary
abbrev pub offers : Kind → Polynomial → Result (List Polynomial) TermError
offers AtMost p = all_of (Ok p ∷ contrary p ∷ [])
offers Equal p = all_of (Ok p ∷ contrary p ∷ negative_of (Ok p) ∷ (Ok p ⊞ whole (pos 1)) ∷ [])

-- the polynomial of a row in normal form; none where the row is constant
abbrev pub polynomial_in : Result Normal TermError → Option Polynomial
polynomial_in (Ok (Kept row)) = Some row.poly
polynomial_in (Ok (Constant holds)) = None
polynomial_in (Err e) = None

-- the polynomial of an inequality in normal form; None where that is constant, or cannot be made
abbrev pub normal_polynomial : Polynomial → Option Polynomial
normal_polynomial p = polynomial_in (normal_form (inequality p))

-- in normal form; a row at which a step leaves 128 bits offers none
abbrev pub normal_polynomials : Result (List Polynomial) TermError → List Polynomial
normal_polynomials (Ok ps) = flat_map (λ p. option_to_list (normal_polynomial p)) ps
normal_polynomials (Err e) = []

-- the inequalities of a row, if it has entry columns alone
abbrev pub splits_of : ℕ → Row → List Polynomial
splits_of from row = if every_column (is_below from 0) row.poly
    then normal_polynomials (offers row.kind row.poly) else []

-- case by case and row by row
abbrev pub all_splits : Transition → List Polynomial
all_splits body = flat_map (λ case. flat_map (splits_of body.from) case.rows) body.cases

-- each once, no more than so many
unfoldable pub splits : Transition → List Polynomial
splits body = take most_splits (distinct poly_eq (all_splits body))
