-- The steps from a point: its state and then a way out of it, for each way.
use Rattle.std.specs.Prelude.{ℕ, ◌+◌, List, [], ◌∷◌, ◌++◌, length, take}
use Rattle.path_expr.specs.declared.cell.Cell.{Cell}
use Rattle.linear_terms.specs.declared.row.Case.{Case}
use Rattle.syntax_tree.specs.declared.program.Proc.{Proc}
use Rattle.syntax_tree.specs.declared.program.Program.{Program}
use Rattle.syntax_tree.specs.WellFormed.{width_of}
use Rattle.transition_formula.specs.declared.loss.Loss.{Loss}
use Rattle.transition_formula.specs.Composition.{sequence_of_cases}
use Rattle.transition_formula.specs.Posts.{case_with_posts}
use Rattle.transition_formula.specs.Transition.{Transition}
use Rattle.posing.specs.Logs.{loss_notes}
use Rattle.posing.specs.Posing.{Posing, Done, Noted, ◌>>=◌, each}
use Rattle.polyhedra.specs.Settle.{settled_formula}
use Rattle.proc_summary.specs.Summary.{ends_of, exit_places}
use Rattle.point_steps.specs.declared.outs.WayOut.{WayOut}
use Rattle.point_steps.specs.declared.target.PointStep.{PointStep}
use Rattle.point_steps.specs.declared.target.Target.{Target}
use Rattle.point_steps.specs.declared.target.Target.TheVariants.{Head, Entry, Exit, Check}
use Rattle.point_steps.specs.Outs.{outs_of}
use Rattle.point_steps.specs.States.{losses_in_pairs, pair_cases, told_case}

-- ---- one case

-- a case of the state with its posts at the procedure's columns alone, of which there are so many
abbrev pub point_case : (columns : ℕ) → Case → Case
point_case columns case = record {
  aux = case.aux;
  rows = case.rows;
  post = take columns case.post;
}

-- a case of the state and then one of the way
abbrev pub through_case : (columns : ℕ) → Case → Case → Case
through_case columns state way = sequence_of_cases (point_case columns state) way

-- the posts at the point's columns, and behind them all posts of the way
abbrev pub passing_case : (columns : ℕ) → Case → Case → Case
passing_case columns state way =
    told_case (take columns state.post) [] (through_case columns state way)

-- the posts at the point's columns and those at the entry's, as they were at the entry, and behind
-- them the posts of the way at these places
abbrev pub returning_case : (columns : ℕ) → List ℕ → Case → Case → Case
returning_case columns places state way =
    told_case state.post [] (case_with_posts places (through_case columns state way))

-- ---- the formula

-- each case of the state with each of a way that stays in the procedure or leads to an entry
abbrev pub passing_formula : (columns : ℕ) → Transition → Transition → Transition
passing_formula columns state way = record {
  from = 0;
  to = columns + way.to;
  cases = pair_cases (passing_case columns) state way;
}

-- each case of the state with each of the way to the exit
abbrev pub returning_formula : (columns : ℕ) → List ℕ → Transition → Transition → Transition
returning_formula columns places state way =
    record {
      from = 0;
      to = state.to + length places;
      cases = pair_cases (returning_case columns places) state way;
    }

-- the one or the other by the target, where these places are told at exits
abbrev pub step_formula : (columns : ℕ) → List ℕ → Target → Transition → Transition → Transition
step_formula columns places Exit state way = returning_formula columns places state way
step_formula columns places (Head node) state way = passing_formula columns state way
step_formula columns places (Entry callee) state way = passing_formula columns state way
step_formula columns places (Check number) state way = passing_formula columns state way

-- what is lost where the cases of a step are made
abbrev pub losses_in_step : (columns : ℕ) → Transition → Transition → List Loss
losses_in_step columns state way = losses_in_pairs (point_case columns) state way

-- ---- steps

-- a step as a list of one; [] where no case is left of it
abbrev pub step_of : Target → Transition → List Case → List PointStep
step_of target f [] = []
step_of target f (case ∷ cases) = record { target = target; formula = f } ∷ []

-- the steps made, and behind them what is left of one more: it is settled behind a note of what was
-- lost in making the way and the step
unfoldable pub with_step : (columns : ℕ) → List ℕ → Transition → List PointStep → WayOut
    → Posing (List PointStep)
with_step columns places state made out =
    Noted (loss_notes (out.lost ++ losses_in_step columns state out.formula))
    (settled_formula (step_formula columns places out.target state out.formula) >>= λ f.
    Done (made ++ step_of out.target f f.cases))

-- the steps by these ways, in order
unfoldable pub steps_by : (columns : ℕ) → List ℕ → Transition → List WayOut
    → Posing (List PointStep)
steps_by columns places state outs = each (with_step columns places state) [] outs

-- the steps from a point of the procedure of a number, by its state and the cells of its ways
abbrev pub steps_from : Program → (proc : ℕ) → Proc → (point : ℕ) → Transition
    → List (Cell Transition) → Posing (List PointStep)
steps_from program proc p point state cells =
    steps_by (width_of program p) (exit_places (ends_of program p)) state
    (outs_of program proc p point cells)
