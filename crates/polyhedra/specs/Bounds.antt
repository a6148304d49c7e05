-- Rows that the greatest values of linear expressions give: before, after, and on changes.
use Rattle.std.specs.Prelude.{ℕ, ℤ, true, pos, List, [], ◌∷◌, ◌++◌, Option, None, Some, Result, Ok, Err, option_to_list, length, All}
use Rattle.items.specs.Gives as gives
use Rattle.linear_terms.specs.declared.col.Col.{Col}
use Rattle.linear_terms.specs.declared.col.Col.TheVariants.{At, Aux}
use Rattle.linear_terms.specs.declared.error.TermError.{TermError}
use Rattle.linear_terms.specs.declared.row.Row.{Row}
use Rattle.linear_terms.specs.declared.row.Case.{Case}
use Rattle.linear_terms.specs.Expressions.{Made, ◌⊟◌, ◌⊠◌, whole, column, at_most, put_into}
use Rattle.linear_terms.specs.Polynomial.{Polynomial}
use Rattle.linear_terms.specs.Replacement.{IsBelow}
use Rattle.transition_formula.specs.Loss.{error_losses, answer_of, losses_of}
use Rattle.farkas_check.specs.declared.answer.Answer.{Answer}
use Rattle.farkas_check.specs.declared.answer.Answer.TheVariants as answer
use Rattle.farkas_check.specs.declared.question.Goal.{Goal}
use Rattle.farkas_check.specs.declared.question.Question.TheVariants.{Sup}
use Rattle.polyhedra.specs.Infeasibility.{limits_of}
use Rattle.posing.specs.Logs.{loss_notes}
use Rattle.posing.specs.Posing.{Posing, Done, Noted, answer_to, ◌>>=◌}
use Rattle.polyhedra.specs.Changes.{poly_at, change}

-- a value for each entry column
abbrev pub for_entries : (ℕ → Made) → Col → Made
for_entries values (At v) = values v
for_entries values (Aux n) = whole (pos 0)

-- a direction with polynomials put in for its columns
abbrev pub put_in_for : List Polynomial → Polynomial → Made
put_in_for polys d = put_into (for_entries (λ v. Ok (poly_at polys v))) d

-- a direction has no columns but the first so many entry columns
abbrev pub IsCovered : ℕ → Polynomial → Type 0
IsCovered n d = All (λ t. All (IsBelow n 0) t.0) d.terms

-- a direction has no columns but those of the posts, in each case
abbrev pub IsCoveredByPosts : List Case → Polynomial → Type 0
IsCoveredByPosts cases d = All (λ (case : Case). IsCovered (length case.post) d) cases

-- the rows of each case with an objective in it, or the first objective that cannot be made
abbrev pub goals_of : (Case → Made) → List Case → Result (List Goal) TermError
goals_of objective [] = Ok []
goals_of objective (case ∷ cases) =
    gives.◌>>=◌ (objective case) (λ p. gives.◌>>=◌ (goals_of objective cases) (λ goals. Ok (record {
      rows = case.rows;
      objective = p;
    } ∷ goals)))

-- goals, and then those that are stated of what is left
abbrev pub goals_behind : List Goal → Result (List Goal) TermError → Result (List Goal) TermError
goals_behind made more = gives.◌>>=◌ more (λ goals. Ok (made ++ goals))

-- the bound that an answer gives; None where it gives none
abbrev pub bound_in : Answer → Option ℤ
bound_in (answer.Yes by) = None
bound_in (answer.No point) = None
bound_in (answer.Bound at certs case point) = Some at
bound_in (answer.Unbounded case point ray) = None
bound_in (answer.Basis relations spots free) = None
bound_in (answer.Limit limit) = None

-- the greatest value over all goals, if it is known; None where they cannot be made, which is noted
unfoldable pub bound_by : Result (List Goal) TermError → Posing (Option ℤ)
bound_by (Ok goals) = answer_to (Sup goals) >>= λ answer. Noted (limits_of answer)
    (Done (bound_in answer))
bound_by (Err e) = Noted (loss_notes (error_losses e)) (Done None)

-- the greatest value of an objective over all cases, if it is known. An objective that cannot be
-- made in some case is not asked: its loss is noted. A limit is noted too.
abbrev pub bound_of : List Case → (Case → Made) → Posing (Option ℤ)
bound_of cases objective = bound_by (goals_of objective cases)

-- one more row where it can be made; else its loss is noted
unfoldable pub with_row : List Row → Result Row TermError → Posing (List Row)
with_row rows made =
    Noted (loss_notes (losses_of made)) (Done (rows ++ option_to_list (answer_of made)))

-- the rows, with that of a bound behind them where there is one
abbrev pub with_row_for : List Row → (ℤ → Result Row TermError) → Option ℤ → Posing (List Row)
with_row_for rows row None = Done rows
with_row_for rows row (Some most) = with_row rows (row most)

-- the bound of an objective is asked; where there is one, it gives a row
unfoldable pub rows_with_bound : List Case → (Case → Made) → (ℤ → Result Row TermError) → List Row
    → Posing (List Row)
rows_with_bound cases objective row rows = bound_of cases objective >>= λ most. with_row_for rows row most

-- the bound before: of a direction on the entry columns
abbrev pub before_row : Polynomial → ℤ → Result Row TermError
before_row d most = at_most (Ok d ⊟ whole most)

-- the rows, with the bound of a direction on the entry columns behind them where it is known
abbrev pub rows_with_entry_bound : List Case → List Row → Polynomial → Posing (List Row)
rows_with_entry_bound cases rows d = rows_with_bound cases (λ case. Ok d) (before_row d) rows

-- the bound after: of a direction on the posts; `after` has what stands for each post in the row
abbrev pub after_row : List Polynomial → Polynomial → ℤ → Result Row TermError
after_row after d most = at_most (put_in_for after d ⊟ whole most)

-- the rows, with the bound of a direction on the posts behind them where it is known
abbrev pub rows_with_exit_bound : List Case → List Polynomial → List Row → Polynomial → Posing (List Row)
rows_with_exit_bound cases after rows d = rows_with_bound cases (λ case. put_in_for case.post d)
    (after_row after d) rows

-- a bound, or so many times the bound as a column says
abbrev pub so_often : Option Col → Made → Made
so_often None most = most
so_often (Some turns) most = most ⊠ column turns

-- the bound on differences: of a direction on the changes, where both ends have one vocabulary.
-- `moved` has what stands for each change in the row, which is at most the bound, or so many times
-- the bound as the column `turns` says
abbrev pub change_row : List Polynomial → Option Col → Polynomial → ℤ → Result Row TermError
change_row moved turns d most = at_most (put_in_for moved d ⊟ so_often turns (whole most))

-- the rows, with the bound of a direction on the changes behind them where it is known
abbrev pub bounded_change : List Case → List Polynomial → Option Col → List Row → Polynomial
    → Posing (List Row)
bounded_change cases moved turns rows d =
    rows_with_bound cases (λ case. put_into (for_entries (change true case)) d) (change_row moved turns d)
    rows
