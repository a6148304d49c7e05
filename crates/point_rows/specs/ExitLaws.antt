-- What known formulas with rows at exits say of calls.
use Rattle.std.specs.Prelude.{ℕ, ℤ, List, [], ◌∷◌, ◌++◌, Option, take}
use Rattle.syntax_tree.specs.declared.program.Program.{Program}
use Rattle.syntax_tree.specs.Code.{Statement}
use Rattle.linear_terms.specs.declared.row.Row.{Row}
use Rattle.transition_formula.specs.Transition.{Transition}
use Rattle.leaf_cases.specs.Conditions.{AreKnown, KnownCalls}
use Rattle.leaf_cases.specs.Summaries.{KnowsCallee}
use Rattle.point_rows.specs.Reading.{AreTrueOf}
use Rattle.point_rows.specs.Exits.{FitExits, exit_rows_at, formulas_with_exits}

-- A known call is one by the formulas with rows at exits, where the rows at the exit of its
-- procedure are true of the globals and arguments before, and behind them of what the formula tells
-- of the exit.
abbrev pub ExitRowsAreMet : Type 0
ExitRowsAreMet = (known : List (Option Transition)) (exits : List (List Row)) (proc : ℕ)
    (globals args left : List ℤ) (value : ℤ)
    → (call : KnownCalls known proc globals args left value)
    → AreTrueOf (exit_rows_at exits proc)
    (globals ++ (args ++ take call.formula.to (left ++ value ∷ [])))
    → KnownCalls (formulas_with_exits known exits) proc globals args left value

-- a call by the formulas with rows at exits is a known call
abbrev pub ExitCallsAreKnown : Type 0
ExitCallsAreKnown = (known : List (Option Transition)) (exits : List (List Row)) (proc : ℕ)
    (globals args left : List ℤ) (value : ℤ)
    → KnownCalls (formulas_with_exits known exits) proc globals args left value
    → KnownCalls known proc globals args left value

-- known formulas with rows at exits that fit are known formulas
abbrev pub ExitFormulasAreKnown : Type 0
ExitFormulasAreKnown = (program : Program) (known : List (Option Transition))
    (exits : List (List Row)) → AreKnown program known → FitExits known exits
    → AreKnown program (formulas_with_exits known exits)

-- the callees that are known stay known
abbrev pub CalleesStayKnown : Type 0
CalleesStayKnown = (known : List (Option Transition)) (exits : List (List Row))
    (statement : Statement) → KnowsCallee known statement
    → KnowsCallee (formulas_with_exits known exits) statement
