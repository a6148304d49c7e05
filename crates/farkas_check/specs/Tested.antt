-- The test of an answer: its parts in order, each with its sums and products in 128 bits.
use Rattle.farkas_check.specs.Stratum.{tested_basis}
use Rattle.std.specs.Prelude.{◌≡◌, ℕ, ℤ, pos, negsuc, ◌+ℤ◌, ◌*ℤ◌, List, [], ◌∷◌, length, slice_get, Option, None, Some, Bool, true, false, not, ◌&&◌, ◌==◌, int_le, int_lt, Result, Ok, Err, if◌then◌else◌}
use Rattle.items.specs.Gives.{◌>>=◌}
use Rattle.whole_numbers.specs.Fits.{fits, sum_of, product_of}
use Rattle.whole_numbers.specs.declared.wide.Wide as Step
use Rattle.linear_terms.specs.declared.col.Col.{Col}
use Rattle.linear_terms.specs.declared.row.Row.{Row}
use Rattle.farkas_check.specs.declared.answer.Answer.{Answer}
use Rattle.farkas_check.specs.declared.answer.Answer.TheVariants as answer
use Rattle.farkas_check.specs.declared.answer.Cert.{Cert}
use Rattle.farkas_check.specs.declared.answer.Limit.{Limit}
use Rattle.farkas_check.specs.declared.answer.Limit.TheVariants.{Wide, Pivots}
use Rattle.farkas_check.specs.declared.question.Goal.{Goal}
use Rattle.farkas_check.specs.declared.question.Question.{Question}
use Rattle.farkas_check.specs.declared.question.Question.TheVariants.{Infeasible, Sup, Stratum}
use Rattle.farkas_check.specs.Kept.{IsCanonicalQuestion, HasPositive}
use Rattle.farkas_check.specs.Ratios.{Fraction, is_at_least}
use Rattle.farkas_check.specs.Columns.{columns}
use Rattle.farkas_check.specs.Multiples.{are_multipliers, sum_of_multiples, is_positive_constant, scaled_form, same_form}
use Rattle.farkas_check.specs.Parts.{and_then}
use Rattle.farkas_check.specs.Points.{ratio_at, ratio_value, slope_at, meets}

-- the columns of a goal: those of its rows and of its objective
abbrev pub goal_columns : Goal → List (List Col)
goal_columns goal = columns goal.rows goal.objective.terms

-- ---- Infeasible

-- the sum of the multiples is a positive constant
abbrev pub tested_yes : List Row → List ℤ → Result Bool Step.Wide
tested_yes rows by =
    and_then (Ok (are_multipliers rows by))
    (sum_of_multiples rows by (columns rows []) >>= λ form. Ok (is_positive_constant form))

-- one number for each column, and every row is true
abbrev pub tested_no : List Row → List Fraction → Result Bool Step.Wide
tested_no rows point =
    and_then (Ok (length point == length (columns rows [])))
    (meets (ratio_value (ratio_at (columns rows []) point)) rows)

-- ---- Sup

-- the sum of the multiples is `scale` times the objective less `sum`
abbrev pub tested_sum : Goal → Cert → Result Bool Step.Wide
tested_sum goal cert =
    sum_of_multiples goal.rows cert.by (goal_columns goal) >>= λ left.
    scaled_form cert.scale cert.sum goal.objective (goal_columns goal)
    >>= λ right. Ok (same_form left right)

-- the bound `sum / scale` is below the next whole number: sum <= scale * (at + 1) - 1, made from
-- the inside
abbrev pub tested_below : ℤ → Cert → Result Bool Step.Wide
tested_below at cert =
    sum_of at (pos 1) >>= λ next. product_of cert.scale next >>= λ limit. sum_of limit (negsuc 0)
    >>= λ most. Ok (int_le cert.sum most)

-- the certificate is one of its case, and bounds it below the next whole number
abbrev pub tested_cert : ℤ → Goal → Cert → Result Bool Step.Wide
tested_cert at goal cert =
    and_then (Ok (are_multipliers goal.rows cert.by && int_le (pos 1) cert.scale))
    (and_then (tested_sum goal cert) (tested_below at cert))

-- a certificate for each case
abbrev pub tested_certs : ℤ → List Goal → List Cert → Result Bool Step.Wide
tested_certs at [] certs = Ok true
tested_certs at (goal ∷ goals) [] = Ok true
tested_certs at (goal ∷ goals) (cert ∷ certs) =
    and_then (tested_cert at goal cert) (tested_certs at goals certs)

-- the point has one number for each column of the case, and makes its rows true
abbrev pub tested_point : Goal → List Fraction → Result Bool Step.Wide
tested_point goal point =
    and_then (Ok (length point == length (goal_columns goal)))
    (meets (ratio_value (ratio_at (goal_columns goal) point)) goal.rows)

-- the point's objective is at least `at`
abbrev pub tested_reached : ℤ → Goal → List Fraction → Result Bool Step.Wide
tested_reached at goal point =
    and_then (tested_point goal point)
    (ratio_value (ratio_at (goal_columns goal) point) goal.objective >>= λ v. is_at_least v at)

-- on the ray the rows without constants are true, and the objective without its constant is above 0
abbrev pub tested_ray : Goal → List Fraction → Result Bool Step.Wide
tested_ray goal ray =
    and_then
    (and_then (Ok (length ray == length (goal_columns goal)))
    (meets (slope_at (ratio_at (goal_columns goal) ray)) goal.rows))
    (slope_at (ratio_at (goal_columns goal) ray) goal.objective >>= λ v. Ok (int_lt (pos 0) v.num))

-- a part that speaks of the case at a place; false where there is none
abbrev pub of_case : List Goal → ℕ → (Goal → Result Bool Step.Wide) → Result Bool Step.Wide
of_case goals case part = of_found (slice_get goals case)
  where
    of_found : Option Goal → Result Bool Step.Wide
    of_found None = Ok false
    of_found (Some goal) = part goal

-- each case is bounded below the next whole number, and one gets as far as `at`
abbrev pub tested_bound : ℤ → List Goal → List Cert → ℕ → List Fraction → Result Bool Step.Wide
tested_bound at goals certs case point =
    and_then (Ok (length certs == length goals))
    (and_then (tested_certs at goals certs)
    (of_case goals case (λ goal. tested_reached at goal point)))

-- a point of a case, and a ray along which its objective grows
abbrev pub tested_unbounded : List Goal → ℕ → List Fraction → List Fraction → Result Bool Step.Wide
tested_unbounded goals case point ray =
    of_case goals case (λ goal. and_then (tested_point goal point) (tested_ray goal ray))

-- ---- limits

-- the product or sum is no number of 128 bits; it does not count among those of the test
abbrev pub is_limit : Limit → Bool
is_limit (Wide left right times) = not (fits (if times then left *ℤ right else left +ℤ right))
is_limit Pivots = true

-- ---- all

-- what the test of an answer comes to: true or false, or the first sum or product that leaves 128
-- bits
abbrev pub outcome : Question → Answer → Result Bool Step.Wide
outcome question (answer.Limit limit) = Ok (is_limit limit)
outcome (Infeasible rows) (answer.Yes by) = tested_yes rows by
outcome (Infeasible rows) (answer.No point) = tested_no rows point
outcome (Infeasible rows) (answer.Bound at certs case point) = Ok false
outcome (Infeasible rows) (answer.Unbounded case point ray) = Ok false
outcome (Infeasible rows) (answer.Basis relations spots free) = Ok false
outcome (Sup goals) (answer.Bound at certs case point) = tested_bound at goals certs case point
outcome (Sup goals) (answer.Unbounded case point ray) = tested_unbounded goals case point ray
outcome (Sup goals) (answer.Yes by) = Ok false
outcome (Sup goals) (answer.No point) = Ok false
outcome (Sup goals) (answer.Basis relations spots free) = Ok false
outcome (Stratum asked) (answer.Yes by) = Ok false
outcome (Stratum asked) (answer.No point) = Ok false
outcome (Stratum asked) (answer.Bound at certs case point) = Ok false
outcome (Stratum asked) (answer.Unbounded case point ray) = Ok false
outcome (Stratum asked) (answer.Basis relations spots free) =
    tested_basis asked.cases asked.lower relations spots free

-- whether that is true; where a step leaves 128 bits it is not
abbrev pub is_passed : Result Bool Step.Wide → Bool
is_passed (Ok holds) = holds
is_passed (Err step) = false

-- whether an answer passes the test of its question
abbrev pub passes : Question → Answer → Bool
passes question answer = is_passed (outcome question answer)

-- the answer passes the test, and both are such as their types keep them
pub record Passes (question : Question) (answer : Answer) : Type 0 where
  pub canonical : IsCanonicalQuestion question
  pub positive : HasPositive answer
  pub passed : outcome question answer ≡ Ok true

-- the limit that is named where the test leaves 128 bits
abbrev pub width_of : Result Bool Step.Wide → Option Limit
width_of (Ok holds) = None
width_of (Err step) = Some (Wide step.left step.right step.times)
