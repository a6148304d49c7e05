-- Evaluation as it goes on: a number, or why it stops. Only private functions say what they do in
-- these words.
use Rattle.std.specs.Prelude.{ℤ, Option, None, Some, Result, Ok, Err, [], ◌∷◌}
use Rattle.std.specs.List.{find}
use Rattle.syntax_tree.specs.declared.evaluation.EvalWide.{EvalWide}
use Rattle.syntax_tree.specs.declared.evaluation.EvalStop.{EvalStop}
use Rattle.syntax_tree.specs.declared.evaluation.EvalStop.TheVariants.{DividesByZero, Wide}
use Rattle.syntax_tree.specs.declared.op.Sign.{Sign}
use Rattle.syntax_tree.specs.Term.{Term}
use Rattle.syntax_tree.specs.Value.{State, Step, evaluation_result, is_wide, sign_steps, unary_value, step_value, unless_wide}

-- the number of an evaluation, or why it stops: at a division by 0 or at a wide step
abbrev pub as_number : Result (Option ℤ) EvalWide → Result ℤ EvalStop
as_number (Ok (Some x)) = Ok x
as_number (Ok None) = Err DividesByZero
as_number (Err wide) = Err (Wide wide)

-- the number of an expression in a state, or why its evaluation stops
unfoldable pub number_of : Term → State → Result ℤ EvalStop
number_of e s = as_number (evaluation_result e s)

-- one step alone, and its value
unfoldable pub step_number : Step → Result ℤ EvalStop
step_number step = as_number (unless_wide (find is_wide (step ∷ [])) (step_value step))

-- the number of a sign at its operand's value; it stops only where a unary minus is wide
unfoldable pub sign_number : Sign → ℤ → Result ℤ EvalStop
sign_number sign x =
    as_number (unless_wide (find is_wide (sign_steps sign x)) (Some (unary_value sign x)))
