-- Whether an assertion can fail, by the steps from points that lead to it: for each of their cases
-- and each in which the condition is false, whether its rows are infeasible together with the rows
-- that are true where the step begins.
use Rattle.std.specs.Prelude.{ℕ, ◌^◌, ◌==◌, ◌&&◌, nat_le, Bool, true, false, if◌then◌else◌, List, [], ◌∷◌, ◌++◌, Option, None, Some, drop}
use Rattle.linear_terms.specs.declared.row.Case.{Case}
use Rattle.linear_terms.specs.declared.row.Row.{Row}
use Rattle.farkas_check.specs.declared.question.Question.TheVariants.{Infeasible}
use Rattle.syntax_tree.specs.declared.program.Program.{Program}
use Rattle.syntax_tree.specs.Term.{Term}
use Rattle.transition_formula.specs.declared.loss.Loss.{Loss}
use Rattle.transition_formula.specs.Composition.{after_case, losses_by, sequence_of_cases}
use Rattle.transition_formula.specs.Posts.{case_with_posts}
use Rattle.transition_formula.specs.Rounds.{in_order}
use Rattle.posing.specs.Logs.{loss_notes}
use Rattle.posing.specs.Posing.{Posing, Done, Noted, answer_to, ◌>>=◌}
use Rattle.polyhedra.specs.Infeasibility.{is_yes}
use Rattle.leaf_cases.specs.Conditions.{columns_at}
use Rattle.leaf_cases.specs.Expression.{lists_of}
use Rattle.context.specs.SecondQuestions.{with_products}
use Rattle.context.specs.Verdicts.{falsity_of}
use Rattle.point_rows.specs.Reading.{given_rows}
use Rattle.point_steps.specs.declared.target.Target.{Target}
use Rattle.point_steps.specs.declared.target.Target.TheVariants.{Head, Entry, Exit, Check}
use Rattle.point_rounds.specs.declared.round.StepFrom.{StepFrom}
use Rattle.point_rounds.specs.declared.table.PointTable.{PointTable}
use Rattle.point_rounds.specs.Table.{rows_at}

-- ---- one question

-- whether the answer calls rows infeasible; where there are none, nothing is asked, and they are
-- not
abbrev pub refutation : List Row → Posing Bool
refutation [] = Done false
refutation (row ∷ rows) =
    answer_to (Infeasible (row ∷ rows)) >>= λ answer. Done (is_yes answer)

-- the same after a first question on rows: where it did not refute them, they are asked about once
-- more with their products, if they have some
abbrev pub refutation_after : List Row → Bool → Posing Bool
refutation_after rows true = Done true
refutation_after rows false = refutation (with_products rows)

-- whether rows are called infeasible, alone or with their products
unfoldable pub twofold_refutation : List Row → Posing Bool
twofold_refutation rows = refutation rows >>= refutation_after rows

-- ---- one case in which the assertion fails

-- a case of a step with these rows in place of its own, and without the posts at the point, which
-- are so many and its first
abbrev pub arriving_case : (columns : ℕ) → List Row → Case → Case
arriving_case columns given case = record {
  aux = case.aux;
  rows = given;
  post = drop columns case.post;
}

-- a case in which a step arrives and then one in which the condition is false, without posts
abbrev pub failing_case : Case → Case → Case
failing_case arriving bad = case_with_posts [] (sequence_of_cases arriving bad)

-- what is lost where it is made and put in order
abbrev pub losses_in_failing : Case → Case → List Loss
losses_in_failing arriving bad =
    losses_by (after_case arriving bad) bad ++ (in_order (failing_case arriving bad)).losses

-- whether what is left of a case in order is excluded; where nothing is left, it is
abbrev pub left_excluded : Option Case → Posing Bool
left_excluded None = Done true
left_excluded (Some case) = twofold_refutation case.rows

-- whether a case in which the assertion fails is excluded; what is lost is noted before the
-- questions
unfoldable pub failure_excluded : Case → Case → Posing Bool
failure_excluded arriving bad =
    Noted (loss_notes (losses_in_failing arriving bad))
    (left_excluded (in_order (failing_case arriving bad)).left)

-- ---- all cases

-- whether each of them passes, in order; the first that does not ends it
abbrev pub every : {A : Type 0} → (A → Posing Bool) → List A → Posing Bool
every test [] = Done true
every test (x ∷ xs) = test x >>= λ passes. if passes then every test xs else Done false

-- whether a case of a step is excluded with each case in which the condition is false, where these
-- rows are given; where one of them is false there, it is
abbrev pub arrival_excluded : (columns : ℕ) → (falsity : List Case) → Case → Option (List Row)
    → Posing Bool
arrival_excluded columns falsity case None = Done true
arrival_excluded columns falsity case (Some given) =
    every (failure_excluded (arriving_case columns given case)) falsity

-- how many auxiliaries a case of a step may have where it is judged; one that has more is not
-- excluded
abbrev pub most_step_auxiliaries : ℕ
most_step_auxiliaries = 2 ^ 30

-- the same by the rows where the step begins
unfoldable pub case_excluded : (columns : ℕ) → (falsity : List Case) → (source : List Row) → Case
    → Posing Bool
case_excluded columns falsity source case =
    if nat_le case.aux most_step_auxiliaries
    then arrival_excluded columns falsity case (given_rows case.post case.rows source)
    else Done false

-- ---- steps to the assertion

-- the target is the assertion of this number
abbrev pub is_check : ℕ → Target → Bool
is_check number (Check other) = number == other
is_check number (Head node) = false
is_check number (Entry callee) = false
is_check number Exit = false

-- the step leads to the assertion of this number in the procedure
abbrev pub leads_to_check : (proc check : ℕ) → StepFrom → Bool
leads_to_check proc check from = from.proc == proc && is_check check from.step.target

-- whether each case of a step is excluded, if the step leads to the assertion
unfoldable pub step_excluded : Program → PointTable → (proc check : ℕ) → (falsity : List Case)
    → StepFrom → Posing Bool
step_excluded program table proc check falsity from =
    if leads_to_check proc check from
    then every
    (case_excluded (columns_at program proc) falsity (rows_at program table proc from.node))
    from.step.formula.cases
    else Done true

-- whether each step of these is excluded, by the cases in which a condition of states of the
-- procedure is false; what is lost in making these is noted first
unfoldable pub exclusion_of : Program → (proc : ℕ) → Term → (check : ℕ) → List StepFrom
    → PointTable → Posing Bool
exclusion_of program proc cond check steps table =
    Noted (loss_notes (lists_of cond).falsity.lost)
    (every
    (step_excluded program table proc check (falsity_of (columns_at program proc) cond).cases)
    steps)
