-- Equations solved for an auxiliary.
use Rattle.std.specs.Prelude.{ℕ, ◌+◌, ℤ, pos, negsuc, List, [], ◌∷◌, Option, None, Some, ◌&&◌, ◌||◌, ◌==◌, count_by, Result, Ok, if◌then◌else◌}
use Rattle.std.specs.Option.{option_map}
use Rattle.std.specs.Ordering.{int_eq}
use Rattle.linear_terms.specs.declared.col.Col.{Col}
use Rattle.linear_terms.specs.declared.col.Col.TheVariants.{At, Aux}
use Rattle.linear_terms.specs.declared.error.TermError.{TermError}
use Rattle.linear_terms.specs.declared.row.Kind.{Kind}
use Rattle.linear_terms.specs.declared.row.Kind.TheVariants.{AtMost, Equal}
use Rattle.linear_terms.specs.declared.row.Row.{Row}
use Rattle.linear_terms.specs.Polynomial.{Terms, Polynomial, coefficient_in}
use Rattle.linear_terms.specs.Operations.{multiple_of, substituted_polynomial}
use Rattle.linear_terms.specs.Auxiliaries.{has_auxiliary, occurs, without, put_for}
use Rattle.transition_formula.specs.Composition.{Operation}

-- the term is the auxiliary alone with number 1 or -1, and no other term of the polynomial has it
abbrev pub solves : Terms → List Col × ℤ → Option ℕ
solves all ([], number) = None
solves all (At m ∷ more, number) = None
solves all (Aux n ∷ [], number) =
    if (int_eq number (pos 1) || int_eq number (negsuc 0)) && count_by (λ t. has_auxiliary n t.0)
    all == 1 then Some n else None
solves all (Aux n ∷ col ∷ more, number) = None

-- the first that is found
abbrev pub or_else : Option ℕ → Option ℕ → Option ℕ
or_else (Some n) later = Some n
or_else None later = later

-- the auxiliary of the first term that solves for one; None where no term does
abbrev pub first_solved : Terms → Terms → Option ℕ
first_solved all [] = None
first_solved all (t ∷ ts) = or_else (solves all t) (first_solved all ts)

-- the auxiliary for which an equation can be solved: the first in print order is the least
abbrev pub solvable_auxiliary : Kind → Polynomial → Option ℕ
solvable_auxiliary AtMost p = None
solvable_auxiliary Equal p = first_solved p.terms p.terms

-- the place 0 and the auxiliary of the first row, if it has one; else what is found behind it, one
-- place further
abbrev pub place_from : Option ℕ → Option (ℕ × ℕ) → Option (ℕ × ℕ)
place_from (Some n) later = Some (0, n)
place_from None later = option_map (λ found. (found.0 + 1, found.1)) later

-- the place of the first equation that can be solved, from 0, and its auxiliary; None where none
-- can
abbrev pub first_equation : List Row → Option (ℕ × ℕ)
first_equation [] = None
first_equation (row ∷ rows) = place_from (solvable_auxiliary row.kind row.poly) (first_equation rows)

-- what the equation says that its auxiliary is: the other terms, turned where its number is 1
abbrev pub solution : Polynomial → ℕ → Result Polynomial TermError
solution p n = if int_eq (coefficient_in p.terms (Aux n ∷ [])) (negsuc 0) then Ok (without n p)
    else multiple_of (without n p) (negsuc 0)

-- the solution put in where the auxiliary occurs
abbrev pub with_solution : ℕ → Polynomial → Operation
with_solution n by p = if occurs n p then substituted_polynomial (put_for n by) p else Ok p
