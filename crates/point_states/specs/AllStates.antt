-- The states of all points of a program: procedure by procedure in the order of the text, and in
-- each in the order of its points. A point whose state has no case is left out.
use Rattle.std.specs.Prelude.{ℕ, List, [], ◌∷◌, ◌++◌, Option, None, Some, length, slice_get}
use Rattle.std.specs.List.{range_with_len}
use Rattle.linear_terms.specs.declared.row.Case.{Case}
use Rattle.syntax_tree.specs.declared.program.Proc.{Proc}
use Rattle.syntax_tree.specs.declared.program.Program.{Program}
use Rattle.transition_formula.specs.Transition.{Transition}
use Rattle.posing.specs.Posing.{Posing, Done, ◌>>=◌, each}
use Rattle.proc_summary.specs.declared.stop.Flow.{Flow}
use Rattle.proc_summary.specs.declared.stop.NodeFormula.{NodeFormula}
use Rattle.point_steps.specs.States.{state_from}
use Rattle.point_rounds.specs.declared.round.PointState.{PointState}

-- the state of a point, of these cases, as a list of one; [] where it has no case
abbrev pub state_in : (proc node : ℕ) → Transition → List Case → List PointState
state_in proc node f [] = []
state_in proc node f (case ∷ cases) = record { proc = proc; node = node; formula = f } ∷ []

-- the states made, and behind them that of one point more; of a procedure that isn't there, none
abbrev pub with_point_in : Program → (proc : ℕ) → Option Proc → Option Transition → List PointState
    → NodeFormula → Posing (List PointState)
with_point_in program proc None begun made stop = Done made
with_point_in program proc (Some p) begun made stop =
    state_from program p begun stop.formula >>= λ f.
    Done (made ++ state_in proc stop.node f f.cases)

-- the states made, and behind them that of one point more of the procedure of a number, by its
-- entry and the formula from there to the point
unfoldable pub with_point : Program → (proc : ℕ) → Option Transition → List PointState
    → NodeFormula → Posing (List PointState)
with_point program proc begun made stop =
    with_point_in program proc (slice_get program.procs proc) begun made stop

-- the states made, and behind them those of these points, in order
unfoldable pub with_points : Program → (proc : ℕ) → Option Transition → List PointState
    → List NodeFormula → Posing (List PointState)
with_points program proc begun made points = each (with_point program proc begun) made points

-- the states made, and behind them those of the points of a procedure, where its entry and its flow
-- are there
abbrev pub with_flow : Program → (proc : ℕ) → Option (Option Transition) → Option Flow
    → List PointState → Posing (List PointState)
with_flow program proc (Some begun) (Some flow) made =
    with_points program proc begun made flow.points
with_flow program proc _ _ made = Done made

-- the states made, and behind them those of the procedure of a number
unfoldable pub with_procedure : Program → List (Option Transition) → List Flow → List PointState
    → ℕ → Posing (List PointState)
with_procedure program entries flows made proc =
    with_flow program proc (slice_get entries proc) (slice_get flows proc) made

-- the states of all points, by the entries and the flows of the procedures
unfoldable pub states_of_points : Program → List (Option Transition) → List Flow
    → Posing (List PointState)
states_of_points program entries flows =
    each (with_procedure program entries flows) [] (range_with_len 0 (length program.procs))
