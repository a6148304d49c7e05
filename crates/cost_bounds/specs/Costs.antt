-- What comes of a case: its change in entry values, a bound on it, a ray that shows that there is
-- none, or a limit.
use Rattle.std.specs.Prelude.{ℕ, ℤ, pos, List, [], ◌∷◌, length, drop, Result, Ok, Err, if◌then◌else◌}
use Rattle.items.specs.Gives as gives
use Rattle.linear_terms.specs.declared.error.TermError.{TermError}
use Rattle.linear_terms.specs.declared.error.TermError.TheVariants.{Wide, Degree, Memory}
use Rattle.linear_terms.specs.declared.row.Case.{Case}
use Rattle.linear_terms.specs.declared.row.Row.{Row}
use Rattle.linear_terms.specs.Expressions.{Made, ◌⊠◌, ◌⊞◌, ◌⊟◌, whole, negation}
use Rattle.linear_terms.specs.Operations.{multiple_of, sum_of_polys}
use Rattle.linear_terms.specs.Polynomial.{Polynomial, constant_of, without_constant}
use Rattle.farkas_check.specs.declared.answer.Answer.{Answer}
use Rattle.farkas_check.specs.declared.answer.Answer.TheVariants as answer
use Rattle.farkas_check.specs.declared.answer.Limit.{Limit}
use Rattle.farkas_check.specs.declared.answer.Limit.TheVariants as limit
use Rattle.posing.specs.Posing.{Posing, Done, answer_to, ◌>>=◌}
use Rattle.cost_bounds.specs.declared.cost.Cost.{Cost}
use Rattle.cost_bounds.specs.declared.cost.Cost.TheVariants as cost
use Rattle.farkas_check.specs.Multiples.{lowest_multipliers}
use Rattle.cost_bounds.specs.declared.kept.Kept.{Kept}
use Rattle.cost_bounds.specs.Changes.{change_of, is_over_entry}
use Rattle.cost_bounds.specs.Questions.{cost_rows, entry_rows, first_question}
use Rattle.cost_bounds.specs.Small.{kept_part, least_kept}

-- ---- multipliers

-- the first of some multipliers; 0 where there is none
abbrev pub first_of : List ℤ → ℤ
first_of [] = pos 0
first_of (m ∷ by) = m

-- the multipliers behind those of the case's rows: of the rows of entry monomials, and the last
abbrev pub of_entries : List Row → List ℤ → List ℤ
of_entries rows by = drop (length rows) by

-- the multiplier of the last row, which asks for growth; 0 where there is none
abbrev pub scale_in : List Row → List Row → List ℤ → ℤ
scale_in rows entries by = first_of (drop (length entries) (of_entries rows by))

-- ---- the bound

-- a sum so far and a polynomial times a number; the polynomial's number is left
abbrev pub with_multiple : Polynomial → Polynomial → ℤ → Made
with_multiple total part m = gives.◌>>=◌ (multiple_of part m) (λ more. sum_of_polys total more)

-- a sum so far with a polynomial of each row times the row's multiplier
abbrev pub sum_of_parts : (Row → Polynomial) → Polynomial → List Row → List ℤ → Made
sum_of_parts part total [] by = Ok total
sum_of_parts part total (row ∷ rows) [] = Ok total
sum_of_parts part total (row ∷ rows) (m ∷ by) =
    gives.◌>>=◌ (with_multiple total (part row) m) (λ next. sum_of_parts part next rows by)

-- the sum of the entry monomials, each times its row's multiplier
abbrev pub monos_sum : List Row → List ℤ → Made
monos_sum entries by = sum_of_parts (λ (row : Row). row.poly) (constant_of (pos 0)) entries by

-- the sum of the constants of the case's rows, each times its row's multiplier
abbrev pub constants_sum : List Row → List ℤ → Made
constants_sum rows by = sum_of_parts (λ (row : Row). constant_of row.poly.rest) (constant_of (pos 0))
    rows by

-- the entry monomials with their multipliers, less the constants of the case with theirs, and the
-- constant of the change with the last one
abbrev pub bound_of : ℤ → List Row → List Row → List ℤ → Made
bound_of rest rows entries by =
    monos_sum entries (of_entries rows by) ⊟ constants_sum rows by
    ⊞ whole (scale_in rows entries by) ⊠ whole rest

-- ---- the answers

-- what a step that has no answer leaves: neither degree nor want of memory is an error of these
abbrev pub limit_of : TermError → Limit
limit_of (Wide left right times) = limit.Wide left right times
limit_of Degree = limit.Pivots
limit_of Memory = limit.Pivots

-- the bound with its rows and multipliers, or a limit where a step of it is too wide
abbrev pub bound_by : List Row → List Row → Row → List ℤ → Made → Cost
bound_by rows entries last by (Err e) = cost.Limit (limit_of e)
bound_by rows entries last by (Ok p) = cost.Bound (scale_in rows entries by) p
    (cost_rows rows entries last) by

-- the bound of what is left, with multipliers in lowest terms
abbrev pub kept_bound : ℤ → Row → Kept → Cost
kept_bound rest last kept = bound_by kept.rows kept.entries last (lowest_multipliers kept.by)
    (bound_of rest kept.rows kept.entries (lowest_multipliers kept.by))

-- by the answer to the first question; no other kind of answer passes its test
abbrev pub by_answer : ℤ → Row → List Row → List Row → Answer → Posing Cost
by_answer rest last rows entries (answer.Yes by) = least_kept last (kept_part rows entries by)
    >>= λ kept. Done (kept_bound rest last kept)
by_answer rest last rows entries (answer.No point) = Done (cost.Unbounded point)
by_answer rest last rows entries (answer.Limit l) = Done (cost.Limit l)
by_answer rest last rows entries (answer.Bound at certs case point) = Done (cost.Limit limit.Pivots)
by_answer rest last rows entries (answer.Unbounded case point ray) = Done (cost.Limit limit.Pivots)
by_answer rest last rows entries (answer.Basis relations spots free) =
    Done (cost.Limit limit.Pivots)

-- the cost by the answer to the first question, where the row that asks for growth is the last
unfoldable pub cost_asked : Polynomial → List Row → Row → Posing Cost
cost_asked change rows last = answer_to (first_question rows change last)
    >>= by_answer change.rest last rows (entry_rows rows change)

-- by the row that asks for growth, which can be too wide
unfoldable pub cost_by_last : Polynomial → List Row → Result Row TermError → Posing Cost
cost_by_last change rows (Err e) = Done (cost.Limit (limit_of e))
cost_by_last change rows (Ok last) = cost_asked change rows last

-- a change without auxiliaries is told as it is
unfoldable pub cost_of_change : Polynomial → List Row → Posing Cost
cost_of_change change rows = if is_over_entry change then Done (cost.Exact change)
    else cost_by_last change rows (negation (without_constant change))

-- the cost of a case by its rows and its change; a limit where the change is too wide
unfoldable pub cost_by : List Row → Made → Posing Cost
cost_by rows (Err e) = Done (cost.Limit (limit_of e))
cost_by rows (Ok change) = cost_of_change change rows

-- by how much a case changes the global of a number
abbrev pub case_cost : Case → ℕ → Posing Cost
case_cost case number = cost_by case.rows (change_of case.post number)
