-- The state of a point: from the start of a program, by the entry of a procedure and on to a point
-- of it, to the columns of the procedure there, and behind them the columns of the entry as they
-- were at the entry.
use Rattle.std.specs.Prelude.{ℕ, ◌+◌, ◌-◌, nat_le, List, [], ◌++◌, map, take, Option, if◌then◌else◌}
use Rattle.std.specs.List.{flat_map, range_with_len}
use Rattle.linear_terms.specs.declared.row.Case.{Case}
use Rattle.linear_terms.specs.Polynomial.{Polynomial}
use Rattle.polyhedra.specs.Vocabulary.{Vocabulary}
use Rattle.syntax_tree.specs.declared.program.Proc.{Proc}
use Rattle.syntax_tree.specs.declared.program.Program.{Program}
use Rattle.syntax_tree.specs.WellFormed.{width_of}
use Rattle.transition_formula.specs.declared.loss.Loss.{Loss}
use Rattle.transition_formula.specs.Composition.{after_case, losses_by, sequence_of_cases}
use Rattle.transition_formula.specs.Transition.{Transition}
use Rattle.vocabularies.specs.Ends.{entry_width, full_of, start_of}
use Rattle.posing.specs.Logs.{loss_notes}
use Rattle.posing.specs.Posing.{Posing, Done, Noted, ◌>>=◌}
use Rattle.checked_tree.specs.Evaluation.{settled_and_fitted}
use Rattle.context.specs.Entries.{stand_of}
use Rattle.context.specs.Verdicts.{entry_or_none, extended_case, extended_formula}
use Rattle.point_steps.specs.declared.ends.PointEnds.{PointEnds}

-- ---- columns

-- how many columns a formula may have afterwards where it is fitted
abbrev pub most_fitted_columns : ℕ
most_fitted_columns = 63

-- how many columns of the entry are remembered at the points of a procedure of so many columns: all
-- of them, or as many as can be fitted with those of the procedure
abbrev pub remembered_count : (columns entry : ℕ) → ℕ
remembered_count columns entry =
    if nat_le (columns + entry) most_fitted_columns then entry else most_fitted_columns - columns

-- the vocabulary with so many columns more, which are named; harvested terms are over the old ones
abbrev pub with_named_columns : ℕ → Vocabulary → Vocabulary
with_named_columns more voc =
    record {
      columns = voc.columns + more;
      named = voc.named ++ range_with_len voc.columns more;
      harvested = voc.harvested;
      rule = voc.rule;
      extra = [];
    }

-- how many columns the states and the entry of a procedure have, how many of the entry's are
-- remembered at points, and the vocabularies of the start of the program and of points
abbrev pub ends_of : Program → Proc → PointEnds
ends_of program p =
    let kept : ℕ = remembered_count (width_of program p) (entry_width program p) in
    record {
      columns = width_of program p;
      entry = entry_width program p;
      remembered = kept;
      start = start_of program;
      point = with_named_columns kept (full_of program p);
    }

-- ---- cases

-- the cases that come of each case of one formula with each of another
abbrev pub pair_cases : (Case → Case → Case) → Transition → Transition → List Case
pair_cases f a b = flat_map (λ first. map (f first) b.cases) a.cases

-- what is lost where each case of one formula, made ready, is followed by each case of another
abbrev pub losses_in_pairs : (Case → Case) → Transition → Transition → List Loss
losses_in_pairs ready a b =
    flat_map (λ first. flat_map (λ second. losses_by (after_case (ready first) second) second) b.cases)
    a.cases

-- the case with further posts before its own and behind them
abbrev pub told_case : (front behind : List Polynomial) → Case → Case
told_case front behind case = record {
  aux = case.aux;
  rows = case.rows;
  post = front ++ (case.post ++ behind);
}

-- ---- the state

-- a case of the entry, whose other columns have any numbers
abbrev pub begun_case : PointEnds → Case → Case
begun_case ends entry = extended_case (ends.columns - ends.entry) entry

-- a case of the entry and then one that leads on, with the entry's posts that are remembered behind
-- the posts at the point
abbrev pub state_case : PointEnds → Case → Case → Case
state_case ends entry reach =
    told_case [] (take ends.remembered entry.post)
    (sequence_of_cases (begun_case ends entry) reach)

-- each case of the entry with each that leads on
abbrev pub state_formula : PointEnds → Transition → Transition → Transition
state_formula ends entry reach = record {
  from = 0;
  to = ends.columns + ends.remembered;
  cases = pair_cases (state_case ends) entry reach;
}

-- what is lost where these are made
abbrev pub losses_in_state : PointEnds → Transition → Transition → List Loss
losses_in_state ends entry reach = losses_in_pairs (begun_case ends) entry reach

-- it is settled and fitted, behind a note of what was lost; entry columns that are not remembered
-- may be any numbers
unfoldable pub state_by : PointEnds → Transition → Transition → Posing Transition
state_by ends entry reach =
    Noted (loss_notes (losses_in_state ends entry reach))
    (settled_and_fitted (state_formula ends entry reach) ends.start ends.point >>= λ f.
    Done (extended_formula (ends.columns + ends.entry) f))

-- the state of a point by the entry of its procedure and the formula from there to the point; none
-- of these holds of nothing
abbrev pub state_from : Program → Proc → Option Transition → Option Transition → Posing Transition
state_from program p entry reach =
    state_by (ends_of program p) (entry_or_none (entry_width program p) entry)
    (stand_of (width_of program p) reach)
