-- The value of an expression, over whole numbers without bounds (C11 6.5), and the steps that make
-- it.
use Rattle.std.specs.Prelude.{ℤ, pos, ◌+ℤ◌, ◌-ℤ◌, ◌*ℤ◌, int_div, int_lt, int_le, Bool, false, not, ◌&&◌, ◌||◌, Option, None, Some, is_some, Result, Ok, Err, List, [], ◌∷◌, ◌++◌, if◌then◌else◌, slice_index_or}
use Rattle.std.specs.Ordering.{int_eq}
use Rattle.std.specs.List.{find}
use Rattle.whole_numbers.specs.Fits.{fits}
use Rattle.syntax_tree.specs.Term.{Term, Lit, Col, Unary, Binary}
use Rattle.syntax_tree.specs.declared.op.Op.{Op}
use Rattle.syntax_tree.specs.declared.op.Op.TheVariants.{Add, Sub, Mul, Div, Rem, Lt, Le, Gt, Ge, Eq, Ne, And, Or}
use Rattle.syntax_tree.specs.declared.op.Sign.{Sign}
use Rattle.syntax_tree.specs.declared.op.Sign.TheVariants.{Plus, Minus, Not}
use Rattle.syntax_tree.specs.declared.evaluation.EvalWide.{EvalWide}

-- a state: one number per column
abbrev pub State : Type 0
State = List ℤ

-- a test is 1 where it holds and 0 where it doesn't (C11 6.5.8)
abbrev pub truth_value : Bool → ℤ
truth_value holds = if holds then pos 1 else pos 0

-- a number is true where it isn't 0 (C11 6.5.13)
abbrev pub is_true : ℤ → Bool
is_true x = not (int_eq x (pos 0))

-- a unary operator at its operand (C11 6.5.3.3)
abbrev pub unary_value : Sign → ℤ → ℤ
unary_value Plus x = x
unary_value Minus x = pos 0 -ℤ x
unary_value Not x = truth_value (not (is_true x))

-- nothing is divided by 0 (C11 6.5.5)
abbrev pub if_divisor : ℤ → ℤ → Option ℤ
if_divisor y z = if int_eq y (pos 0) then None else Some z

-- a binary operator at both operands: `/` truncates toward zero (C11 6.5.5, 6.5.6, 6.5.8, 6.5.9)
abbrev pub result_of : Op → ℤ → ℤ → Option ℤ
result_of Add x y = Some (x +ℤ y)
result_of Sub x y = Some (x -ℤ y)
result_of Mul x y = Some (x *ℤ y)
result_of Div x y = if_divisor y (int_div x y)
result_of Rem x y = if_divisor y (x -ℤ (int_div x y *ℤ y))
result_of Lt x y = Some (truth_value (int_lt x y))
result_of Le x y = Some (truth_value (int_le x y))
result_of Gt x y = Some (truth_value (int_lt y x))
result_of Ge x y = Some (truth_value (int_le y x))
result_of Eq x y = Some (truth_value (int_eq x y))
result_of Ne x y = Some (truth_value (not (int_eq x y)))
result_of And x y = Some (truth_value (is_true x && is_true y))
result_of Or x y = Some (truth_value (is_true x || is_true y))

-- the value that `&&` and `||` have by their left operand alone (C11 6.5.13, 6.5.14)
abbrev pub early_value : Op → ℤ → Option ℤ
early_value And x = if is_true x then None else Some (pos 0)
early_value Or x = if is_true x then Some (pos 1) else None
early_value _ x = None

-- what follows a number, or none where there is none
abbrev pub with_number : Option ℤ → (ℤ → Option ℤ) → Option ℤ
with_number None next = None
with_number (Some x) next = next x

-- the first answer, or else the second
abbrev pub or_else : Option ℤ → Option ℤ → Option ℤ
or_else None second = second
or_else (Some x) second = Some x

-- The value of an expression in a state: none where a division by 0 is evaluated.
abbrev pub value_of : Term → State → Option ℤ
value_of (Lit n) s = Some n
value_of (Col c) s = Some (slice_index_or s c (pos 0))
value_of (Unary sign inner) s = with_number (value_of inner s) (λ x. Some (unary_value sign x))
value_of (Binary op left right) s = with_number (value_of left s) (λ x.
    or_else (early_value op x) (with_number (value_of right s) (result_of op x)))

-- A step of evaluation: an operator at the values of its operands.
pub record Step : Type 0 where
  pub op : Op
  pub left : ℤ
  pub right : ℤ

-- the value of a step: None where it divides by 0
abbrev pub step_value : Step → Option ℤ
step_value step = result_of step.op step.left step.right

-- the steps that follow a number
abbrev pub steps_after : Option ℤ → (ℤ → List Step) → List Step
steps_after None next = []
steps_after (Some x) next = next x

-- a unary minus is a step from 0
abbrev pub sign_steps : Sign → ℤ → List Step
sign_steps Minus x = record { op = Sub; left = pos 0; right = x } ∷ []
sign_steps _ x = []

-- The steps that evaluation makes, left to right, up to the first division by 0.
abbrev pub steps_of : Term → State → List Step
steps_of (Lit n) s = []
steps_of (Col c) s = []
steps_of (Unary sign inner) s = steps_of inner s ++ steps_after (value_of inner s) (sign_steps sign)
steps_of (Binary op left right) s = steps_of left s ++ steps_after (value_of left s) (λ x.
    if is_some (early_value op x) then [] else
    (steps_of right s ++ steps_after (value_of right s) (λ y. record {
      op = op;
      left = x;
      right = y;
    } ∷ [])))

-- whether a value is a number past 128 bits: false for None
abbrev pub is_past : Option ℤ → Bool
is_past None = false
is_past (Some z) = not (fits z)

-- a step is wide where its value is a number past 128 bits
abbrev pub is_wide : Step → Bool
is_wide step = is_past (step_value step)

-- what is told of a wide step: its operator and the values of its operands
abbrev pub wide_of : Step → EvalWide
wide_of step = record { left = step.left; right = step.right; op = step.op }

-- the value, unless a step is wide: then the first such step
abbrev pub unless_wide : Option Step → Option ℤ → Result (Option ℤ) EvalWide
unless_wide None value = Ok value
unless_wide (Some step) value = Err (wide_of step)

-- What evaluation in 128 bits comes to.
unfoldable pub evaluation_result : Term → State → Result (Option ℤ) EvalWide
evaluation_result e s = unless_wide (find is_wide (steps_of e s)) (value_of e s)
