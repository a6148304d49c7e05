-- The verdict on an assertion: the cases in which it would fail, from the start of the program to
-- where it stands, and what is answered of each.
use Rattle.std.specs.Prelude.{ℕ, ◌+◌, ◌-◌, Bool, true, false, List, [], ◌∷◌, ◌++◌, Option, None, Some, length, map, drop, unwrap_or, if◌then◌else◌}
use Rattle.std.specs.List.{filter_map, find, list_any, range_with_len}
use Rattle.linear_terms.specs.declared.col.Col.TheVariants.{Aux}
use Rattle.linear_terms.specs.declared.row.Case.{Case}
use Rattle.linear_terms.specs.declared.row.Row.{Row}
use Rattle.linear_terms.specs.Polynomial.{column_of}
use Rattle.farkas_check.specs.declared.answer.Answer.{Answer}
use Rattle.farkas_check.specs.declared.answer.Answer.TheVariants as answer
use Rattle.farkas_check.specs.declared.question.Question.TheVariants.{Infeasible}
use Rattle.syntax_tree.specs.declared.program.Proc.{Proc}
use Rattle.syntax_tree.specs.declared.program.Program.{Program}
use Rattle.syntax_tree.specs.Term.{Term}
use Rattle.syntax_tree.specs.WellFormed.{width_of}
use Rattle.transition_formula.specs.declared.loss.Loss.{Loss}
use Rattle.transition_formula.specs.Composition.{sequence_of, losses_in_sequence}
use Rattle.transition_formula.specs.Posts.{with_posts}
use Rattle.transition_formula.specs.Rounds.{in_order}
use Rattle.transition_formula.specs.Transition.{Transition}
use Rattle.leaf_cases.specs.Expression.{lists_of}
use Rattle.leaf_cases.specs.Guard.{guard_of}
use Rattle.vocabularies.specs.Ends.{entry_width, full_of, named_columns_from, start_of}
use Rattle.posing.specs.declared.note.Note.{Note}
use Rattle.posing.specs.declared.note.Note.TheVariants as note
use Rattle.posing.specs.Logs.{loss_notes}
use Rattle.posing.specs.Posing.{Posing, Done, Noted, answer_to, ◌>>=◌, each}
use Rattle.checked_tree.specs.Evaluation.{settled_and_fitted}
use Rattle.phases.specs.Rules.{has_phases}
use Rattle.report.specs.declared.verdict.Verdict.{Verdict}
use Rattle.report.specs.declared.verdict.Verdict.TheVariants.{Proved, Unproved, UnprovedLimit}
use Rattle.context.specs.declared.place.AssertionPlace.{AssertionPlace}
use Rattle.context.specs.Entries.{stand_of}
use Rattle.context.specs.SecondQuestions.{by_rule}

-- ---- where it stands

-- the columns that are told: the globals, and those behind them that have a name in the text
abbrev pub shown_columns_of : Program → Proc → List ℕ
shown_columns_of program p =
    range_with_len 0 (length program.globals) ++ named_columns_from (length program.globals) p.columns

-- how many columns the procedure's entry and its states have, the vocabularies of the start and of
-- its states, and the columns that are told
abbrev pub place_of : Program → Proc → AssertionPlace
place_of program p =
    record {
      entry = entry_width program p;
      columns = width_of program p;
      start = start_of program;
      full = full_of program p;
      shown = shown_columns_of program p;
    }

-- ---- from the start to there

-- a procedure that is not reached has an entry without a case
abbrev pub entry_or_none : ℕ → Option Transition → Transition
entry_or_none columns None = record { from = 0; to = columns; cases = [] }
entry_or_none columns (Some f) = f

-- further columns have any numbers: each is a new auxiliary, after those of the case
abbrev pub extended_case : ℕ → Case → Case
extended_case more case =
    record {
      aux = case.aux + more;
      rows = case.rows;
      post = case.post ++ map (λ n. column_of (Aux n)) (range_with_len case.aux more);
    }

-- the formula with as many posts as that
abbrev pub extended_formula : ℕ → Transition → Transition
extended_formula columns f =
    record { from = f.from; to = columns; cases = map (extended_case (columns - f.to)) f.cases }

-- from the start to the procedure's entry, all of whose columns have numbers
abbrev pub entry_from_start : AssertionPlace → Option Transition → Transition
entry_from_start place entry = extended_formula place.columns (entry_or_none place.entry entry)

-- and then on to where the assertion stands, settled and fitted
unfoldable pub reach_from : AssertionPlace → Transition → Transition → Posing Transition
reach_from place begun stand =
    Noted (loss_notes (losses_in_sequence begun stand))
    (settled_and_fitted (sequence_of begun stand) place.start place.full)

-- ---- where the condition is false

-- the formula of states in which the condition is false, which stay as they are
abbrev pub falsity_of : ℕ → Term → Transition
falsity_of columns cond = guard_of columns (lists_of cond).falsity.cases

-- the formula composed with the falsity of the condition, with the posts of named columns alone
abbrev pub failing_of : AssertionPlace → Term → Transition → Transition
failing_of place cond f = with_posts place.shown (sequence_of f (falsity_of place.columns cond))

-- what is lost in making the failing cases: in the falsity of the condition, and then in the
-- composition
abbrev pub losses_in_failing : AssertionPlace → Term → Transition → List Loss
losses_in_failing place cond f =
    (lists_of cond).falsity.lost ++ losses_in_sequence f (falsity_of place.columns cond)

-- ---- one case

-- an answer of another kind does not pass the test of this question
abbrev pub verdict_by : Case → Answer → Verdict
verdict_by case (answer.Yes by) = Proved
verdict_by case (answer.No point) = Unproved case point
verdict_by case (answer.Limit limit) = UnprovedLimit case limit
verdict_by case (answer.Bound at certs place point) = Unproved case []
verdict_by case (answer.Unbounded place point ray) = Unproved case []
verdict_by case (answer.Basis relations spots free) = Unproved case []

-- a case without rows is refuted by the empty point; of another it is asked whether its rows are
-- infeasible
abbrev pub verdict_at : Case → List Row → Posing Verdict
verdict_at case [] = Done (Unproved case [])
verdict_at case (row ∷ rows) = answer_to (Infeasible (row ∷ rows))
    >>= λ answer. Done (verdict_by case answer)

-- the verdict on what is left of a case in order; where nothing is left, it is proved. The number
-- is that of the rule, here and below
abbrev pub verdict_left : ℕ → Option Case → Posing Verdict
verdict_left rule None = Done Proved
verdict_left rule (Some case) = by_rule (has_phases rule) (verdict_at case case.rows)

-- it is put in order first, and what is lost in that is noted
unfoldable pub case_verdict : ℕ → Case → Posing Verdict
case_verdict rule case =
    Noted (loss_notes (in_order case).losses) (verdict_left rule (in_order case).left)

-- the verdict on one case more, behind those that are made
unfoldable pub with_verdict : ℕ → List Verdict → Case → Posing (List Verdict)
with_verdict rule made case = case_verdict rule case >>= λ verdict. Done (made ++ verdict ∷ [])

-- ---- all cases

-- whether a verdict is unproved with a point
abbrev pub is_refuted : Verdict → Bool
is_refuted Proved = false
is_refuted (Unproved case point) = true
is_refuted (UnprovedLimit case limit) = false

-- whether a verdict is unproved with a limit
abbrev pub is_limited : Verdict → Bool
is_limited Proved = false
is_limited (Unproved case point) = false
is_limited (UnprovedLimit case limit) = true

-- the first verdict, else the other; where there is neither, it is proved
abbrev pub else_by : Option Verdict → Option Verdict → Verdict
else_by (Some verdict) other = verdict
else_by None other = unwrap_or other Proved

-- the first case with a point, else the first with a limit, else it is proved
abbrev pub verdict_from : List Verdict → Verdict
verdict_from verdicts = else_by (find is_refuted verdicts) (find is_limited verdicts)

-- the limit that a verdict carries, as a note; None where it carries none
abbrev pub limit_of : Verdict → Option Note
limit_of Proved = None
limit_of (Unproved case point) = None
limit_of (UnprovedLimit case limit) = Some (note.Limit limit)

-- each limit is noted, but for the one that the verdict carries
abbrev pub limits_of : List Verdict → List Note
limits_of verdicts =
    drop (if list_any is_refuted verdicts then 0 else 1) (filter_map limit_of verdicts)

-- all cases are asked about, whatever is found of the first ones; limits are noted last
unfoldable pub verdict_on_cases_from : ℕ → List Case → Posing Verdict
verdict_on_cases_from rule cases =
    each (with_verdict rule) [] cases >>= λ verdicts. Noted (limits_of verdicts)
    (Done (verdict_from verdicts))

-- ---- the assertion

-- the verdict by the formula that leads from the start to where the assertion stands; what is lost
-- in making the failing cases is noted first
unfoldable pub failure_verdict_from : AssertionPlace → Term → Transition → Posing Verdict
failure_verdict_from place cond f =
    Noted (loss_notes (losses_in_failing place cond f))
    (verdict_on_cases_from place.full.rule (failing_of place cond f).cases)

-- by its condition, the entry of its procedure, and the formula of where it stands
unfoldable pub verdict_of : AssertionPlace → Term → Option Transition → Option Transition → Posing Verdict
verdict_of place cond entry stand =
    reach_from place (entry_from_start place entry) (stand_of place.columns stand)
    >>= failure_verdict_from place cond
