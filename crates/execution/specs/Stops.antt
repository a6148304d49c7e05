-- Where the chosen execution has no step, and why.
use Rattle.std.specs.Prelude.{◌≡◌, ℕ, ℤ, pos, Option, None, Some, Result, Ok, Err, List, [], ◌∷◌, ◌++◌}
use Rattle.syntax_tree.specs.declared.evaluation.EvalWide.{EvalWide}
use Rattle.syntax_tree.specs.Term.{Term}
use Rattle.syntax_tree.specs.Code.{Statement, Set, Any, Call, Guard, Check, If}
use Rattle.syntax_tree.specs.Value.{State, evaluation_result}
use Rattle.execution.specs.declared.outcome.Stop.{Stop}
use Rattle.execution.specs.declared.outcome.Stop.TheVariants as stop
use Rattle.execution.specs.Machine.{Item, Do, Test, Frame, Config, Top, returned_value, state_of}

-- the expressions whose values a statement needs, from the left
abbrev pub needs_of : Statement → List Term
needs_of (Set col value) = value ∷ []
needs_of (Call proc args into) = args
needs_of (Guard cond) = cond ∷ []
needs_of (Check number cond) = cond ∷ []
needs_of (If cond on_true on_false) = cond ∷ []
needs_of _ = []

-- the expressions whose values the step by the first item needs, from the left
abbrev pub first_needs : List Item → List Term
first_needs (Do statement ∷ rest) = needs_of statement
first_needs (Test loop ∷ rest) = loop.cond ∷ []
first_needs _ = []

-- each of several expressions has a number in 128 bits
abbrev pub HaveNumbers : List Term → State → Type 0
HaveNumbers [] state = Unit {0}
HaveNumbers (e ∷ rest) state = ((v : ℤ) × (evaluation_result e state ≡ Ok (Some v)))
    × HaveNumbers rest state

-- the first of several expressions that has no number in 128 bits, and what it has instead
pub record IsFirstWithout (terms : List Term) (state : State)
    (gave : Result (Option ℤ) EvalWide) : Type 0 where
  pub before : List Term
  pub e : Term
  pub after : List Term
  pub are : terms ≡ before ++ e ∷ after
  pub numbers : HaveNumbers before state
  pub is : evaluation_result e state ≡ gave

-- why there is no step from a top frame, where this number is handed in
abbrev pub StopsBy : Option ℤ → Top → Stop → Type 0
StopsBy number top (stop.Done v) = (top.frame.items ≡ []) × (top.below ≡ [])
    × (returned_value top.frame ≡ v)
StopsBy number top (stop.Failed n) = (cond : Term) × (rest : List Item)
    × (top.frame.items ≡ Do (Check n cond) ∷ rest)
    × (evaluation_result cond (state_of top) ≡ Ok (Some (pos 0)))
StopsBy number top stop.Guard = (cond : Term) × (rest : List Item)
    × (top.frame.items ≡ Do (Guard cond) ∷ rest)
    × (evaluation_result cond (state_of top) ≡ Ok (Some (pos 0)))
StopsBy number top stop.Zero = IsFirstWithout (first_needs top.frame.items) (state_of top) (Ok None)
StopsBy number top stop.Dry = (col : ℕ) × (rest : List Item)
    × (top.frame.items ≡ Do (Any col) ∷ rest) × (number ≡ None)
StopsBy number top (stop.Wide wide) = IsFirstWithout (first_needs top.frame.items) (state_of top)
    (Err wide)
StopsBy number top stop.Memory = ⊥

-- why there is no step from these globals and frames; nothing is a cause where there is no frame
abbrev pub StopsFrom : Option ℤ → State → List Frame → Stop → Type 0
StopsFrom number globals [] why = ⊥
StopsFrom number globals (frame ∷ below) why = StopsBy number (record {
  globals = globals;
  frame = frame;
  below = below;
}) why

-- why there is no step from a configuration, where this number is handed in
abbrev pub StopsAt : Option ℤ → Config → Stop → Type 0
StopsAt number config why = StopsFrom number config.globals config.frames why
