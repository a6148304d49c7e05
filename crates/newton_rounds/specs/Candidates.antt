-- Candidates: rows over the pairs of entry and exit that may hold of all activations, and rounds
-- that drop those that one more unfolding does not show.
use Rattle.std.specs.Prelude.{ℕ, suc, Bool, true, false, if◌then◌else◌, List, [], ◌∷◌, ◌++◌, Option, None, Some, Result, Ok, length, map, option_to_list}
use Rattle.std.specs.List.{filter_map, flat_map, range_with_len}
use Rattle.std.specs.Option.{unwrap_or}
use Rattle.items.specs.Gives as gives
use Rattle.linear_terms.specs.declared.error.TermError.{TermError}
use Rattle.linear_terms.specs.declared.row.Row.{Row}
use Rattle.linear_terms.specs.declared.row.Case.{Case}
use Rattle.linear_terms.specs.declared.row.Kind.TheVariants.{AtMost}
use Rattle.linear_terms.specs.Expressions.{negation}
use Rattle.linear_terms.specs.Operations.{substituted_polynomial}
use Rattle.linear_terms.specs.Replacement.{put_in}
use Rattle.farkas_check.specs.declared.answer.Answer.{Answer}
use Rattle.farkas_check.specs.declared.answer.Answer.TheVariants as answer
use Rattle.farkas_check.specs.declared.answer.Limit.{Limit}
use Rattle.farkas_check.specs.declared.question.Question.TheVariants.{Infeasible}
use Rattle.farkas_check.specs.Columns.{columns}
use Rattle.syntax_tree.specs.declared.program.Proc.{Proc}
use Rattle.syntax_tree.specs.declared.program.Program.{Program}
use Rattle.transition_formula.specs.Hiding.{hidden, own_auxiliaries}
use Rattle.transition_formula.specs.Loss.{answer_of, losses_of}
use Rattle.transition_formula.specs.Posts.{with_entries}
use Rattle.transition_formula.specs.Rounds.{in_order}
use Rattle.transition_formula.specs.Transition.{Transition}
use Rattle.posing.specs.declared.note.Note.{Note}
use Rattle.posing.specs.declared.note.Note.TheVariants as note
use Rattle.posing.specs.declared.note.Witness.{Witness}
use Rattle.posing.specs.declared.note.Witness.TheVariants as witness
use Rattle.posing.specs.Logs.{loss_notes}
use Rattle.posing.specs.Posing.{Posing, Done, Noted, answer_to, ◌>>=◌, each, until}
use Rattle.polyhedra.specs.Bounds.{rows_with_exit_bound}
use Rattle.polyhedra.specs.Directions.{directions}
use Rattle.phases.specs.Rules.{has_phases}
use Rattle.leaf_cases.specs.Guard.{columns_of}
use Rattle.leaf_cases.specs.Guard as cases
use Rattle.proc_summary.specs.Flow.{cells_from, columns_of as state_columns, formula_at}
use Rattle.proc_summary.specs.Subject.{subject_of}
use Rattle.proc_summary.specs.Summary.{ends_of, summary_from}
use Rattle.newton_rounds.specs.declared.findings.Findings.{Findings}
use Rattle.newton_rounds.specs.declared.dropping.JudgedRow.{JudgedRow}
use Rattle.newton_rounds.specs.declared.findings.Judgements.{Judgements}
use Rattle.newton_rounds.specs.declared.findings.RoundEnd.{RoundEnd}
use Rattle.newton_rounds.specs.Members.{members_of, with_table}
use Rattle.newton_rounds.specs.Pairs.{PairEnds}
use Rattle.newton_rounds.specs.Closure.{pair_ends, with_places_from}

-- ---- a candidate

-- a formula's cases with the entry's columns before the posts, so that a pair's columns have values
abbrev pub paired_case : ℕ → Case → Case
paired_case from case = cases.with_posts (columns_of from ++ case.post) case

-- the bounds of a formula in the directions of its pairs; without a case nothing is asked, and
-- there is no row
abbrev pub candidate_by : PairEnds → ℕ → List Case → Posing (List Row)
candidate_by member from [] = Done []
candidate_by member from (case ∷ more) =
    each (rows_with_exit_bound (map (paired_case from) (case ∷ more)) (columns_of member.pair.columns)) []
    (directions member.pair)

-- the candidate of a member by its formula: rows over its pair
unfoldable pub candidate_of : PairEnds → Transition → Posing (List Row)
candidate_of member f = candidate_by member f.from f.cases

-- it as a formula: one case, in which the exit's columns are auxiliaries and posts
abbrev pub candidate_formula : PairEnds → List Row → Transition
candidate_formula member rows =
    hidden member.ends.entry.columns
    (with_entries (range_with_len member.ends.entry.columns member.ends.exit.columns)
    record {
      from = member.pair.columns;
      to = 0;
      cases = record { aux = 0; rows = rows; post = [] } ∷ [];
    })

-- the candidates as formulas, in the order of the members, as far as both lists go
abbrev pub table_of : List PairEnds → List (List Row) → List Transition
table_of [] candidates = []
table_of (member ∷ members) [] = []
table_of (member ∷ members) (rows ∷ candidates) = candidate_formula member rows ∷ table_of members
    candidates

-- ---- what refutes a row

-- the row that holds where the candidate's row does not, over the entry and the posts of a case
abbrev pub contrary : ℕ → Case → Row → Result Row TermError
contrary from case row =
    gives.◌>>=◌ (negation row.poly) (λ opposite.
    gives.◌>>=◌ (substituted_polynomial (put_in (columns_of from ++ case.post) (own_auxiliaries case.aux))
    opposite.poly) (λ p.
    Ok record { poly = p; kind = AtMost }))

-- the case with that row; where it is lost, without it
abbrev pub against : ℕ → Case → Row → Case
against from case row =
    record {
      aux = case.aux;
      rows = case.rows ++ option_to_list (answer_of (contrary from case row));
      post = case.post;
    }

-- with a point: the first stays
abbrev pub with_point : Findings → Witness → Findings
with_point found point = record {
  point = Some (unwrap_or found.point point);
  limits = found.limits;
}

-- the findings with the answer to the question of these rows: a point, a limit behind the others,
-- or nothing more
abbrev pub with_answer : Findings → List Row → Answer → Findings
with_answer found rows (answer.No point) = with_point found (witness.Point (columns rows []) point)
with_answer found rows (answer.Limit limit) = record {
  point = found.point;
  limits = found.limits ++ limit ∷ [];
}
with_answer found rows _ = found

-- a case without rows is refuted by the point without numbers
abbrev pub findings_in : Findings → List Row → Posing Findings
findings_in found [] = Done (with_point found (witness.Point [] []))
findings_in found (row ∷ rows) =
    answer_to (Infeasible (row ∷ rows)) >>= λ answer. Done (with_answer found (row ∷ rows) answer)

-- the findings with what is left of a case in order; where nothing is left, the case refutes
-- nothing
abbrev pub found_left : Findings → Option Case → Posing Findings
found_left found None = Done found
found_left found (Some case) = findings_in found case.rows

-- one case with the contrary row, put in order; losses are noted before the question
unfoldable pub with_case : ℕ → Row → Findings → Case → Posing Findings
with_case from row found case =
    Noted (loss_notes
    (losses_of (contrary from case row) ++ (in_order (against from case row)).losses))
    (found_left found (in_order (against from case row)).left)

-- each limit as a note, in order
abbrev pub limit_notes : List Limit → List Note
limit_notes limits = map (λ limit. note.Limit limit) limits

-- a point, else the first limit, else None; limits that stand in no dropped note are noted by
-- themselves
abbrev pub outcome_by : Option Witness → List Limit → Posing (Option Witness)
outcome_by (Some point) limits = Noted (limit_notes limits) (Done (Some point))
outcome_by None [] = Done None
outcome_by None (limit ∷ limits) = Noted (limit_notes limits) (Done (Some (witness.Limit limit)))

-- what refutes a row, by what was found over the cases
abbrev pub outcome : Findings → Posing (Option Witness)
outcome found = outcome_by found.point found.limits

-- what refutes a row of a candidate, over all cases of the formula that one more unfolding makes:
-- the first point, else the first limit, if there is one
unfoldable pub refutation : Transition → Row → Posing (Option Witness)
refutation f row = each (with_case f.from row) record {
  point = None;
  limits = [];
} f.cases >>= λ found. outcome found

-- ---- a round

-- a row more with what refutes it, if anything does, behind those that are judged
unfoldable pub with_judged : Transition → List JudgedRow → Row → Posing (List JudgedRow)
with_judged f made row = refutation f row >>= λ by. Done (made ++ record { row = row; by = by } ∷ [])

-- the formula of a member as for a procedure that is not recursive, where calls of the group are
-- read by the candidates
unfoldable pub unfolded_formula : Program → List (Option Transition) → Proc → Posing Transition
unfolded_formula program known p =
    cells_from (subject_of program p known) 0 >>= λ cells.
    summary_from (ends_of program p)
    (formula_at (state_columns (subject_of program p known)) cells
    (subject_of program p known).exit)

-- where there is no member, nothing is judged
abbrev pub no_judgements : Judgements
no_judgements = record { rows = []; formulas = [] }

-- with one member more: its judged rows, and the formula by which they are judged
abbrev pub judgements_and : Judgements → Transition → List JudgedRow → Judgements
judgements_and made f judged = record {
  rows = made.rows ++ judged ∷ [];
  formulas = made.formulas ++ f ∷ [];
}

-- with one member more, by its unfolded formula
unfoldable pub with_round : Program → List (Option Transition) → Judgements → Proc × List Row
    → Posing Judgements
with_round program known made member =
    unfolded_formula program known member.0 >>= λ f.
    each (with_judged f) [] member.1 >>= λ judged. Done (judgements_and made f judged)

-- the row where nothing refutes it, else None
abbrev pub unless_refuted : Row → Option Witness → Option Row
unless_refuted row None = Some row
unless_refuted row (Some by) = None

-- the row of a judgement, if it stays
abbrev pub kept_row : JudgedRow → Option Row
kept_row judged = unless_refuted judged.row judged.by

-- a dropped row is noted by the place of its procedure in the group
abbrev pub drop_notes_by : ℕ → Row → Option Witness → List Note
drop_notes_by place row None = []
drop_notes_by place row (Some by) = note.Dropped place row by ∷ []

-- the notes of the dropped rows of the member at a place, in the order of its rows
abbrev pub drop_notes_in : ℕ × List JudgedRow → List Note
drop_notes_in member = flat_map (λ judged. drop_notes_by member.0 judged.row judged.by) member.1

-- the notes of the dropped rows of all members, in the order of the group
abbrev pub dropped_notes : List (List JudgedRow) → List Note
dropped_notes judged = flat_map drop_notes_in (with_places_from 0 judged)

-- whether there is a note
abbrev pub some_note : List Note → Bool
some_note [] = false
some_note (n ∷ ns) = true

-- the procedures with their candidates, as far as both lists go
abbrev pub members_with : List Proc → List (List Row) → List (Proc × List Row)
members_with [] candidates = []
members_with (p ∷ ps) [] = []
members_with (p ∷ ps) (rows ∷ candidates) = (p, rows) ∷ members_with ps candidates

-- the rows that stay, with the formulas by which they were judged
abbrev pub end_of_round : Judgements → RoundEnd
end_of_round judged = record {
  candidates = map (filter_map kept_row) judged.rows;
  formulas = judged.formulas;
}

-- all rows that are refuted are dropped together at its end; whether any was
unfoldable pub round : Program → List ℕ → List (Option Transition) → List (List Row)
    → Posing (RoundEnd × Bool)
round program procs known candidates =
    each
    (with_round program
    (with_table procs (table_of (map (pair_ends program) (members_of program procs)) candidates)
    known))
    no_judgements (members_with (members_of program procs) candidates) >>= λ judged.
    Noted (dropped_notes judged.rows)
    (Done (end_of_round judged, some_note (dropped_notes judged.rows)))

-- how many rounds there are at most: each but the last drops a row at least
abbrev pub most_rounds : List (List Row) → ℕ
most_rounds candidates = suc (length (flat_map (λ rows. rows) candidates))

-- what stands before the first round
abbrev pub before_rounds : List (List Row) → RoundEnd
before_rounds candidates = record { candidates = candidates; formulas = [] }

-- the end of the last round, after rounds until none drops a row
unfoldable pub last_round : Program → List ℕ → List (Option Transition) → List (List Row)
    → Posing RoundEnd
last_round program procs known candidates =
    until (λ (end : RoundEnd). round program procs known end.candidates) (most_rounds candidates)
    (before_rounds candidates)

-- ---- summaries

-- under a rule with phases the formulas that the last round made, else the candidates as formulas
abbrev pub summaries_by_round : ℕ → List PairEnds → RoundEnd → List Transition
summaries_by_round rule members end = if has_phases rule then end.formulas
    else table_of members end.candidates
