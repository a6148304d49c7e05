-- The faults of expressions and calls, each with its place.
use Rattle.std.specs.Prelude.{ℕ, Bool, true, false, not, ◌&&◌, ◌||◌, ◌==◌, nat_lt, is_none, List, [], ◌∷◌, ◌++◌, map}
use Rattle.syntax_tree.specs.declared.core_expr.Core.{Core}
use Rattle.syntax_tree.specs.Limits.{most_cases, most_checks}
use Rattle.syntax_tree.specs.declared.op.Op.{Op}
use Rattle.syntax_tree.specs.declared.op.Op.TheVariants.{And, Or}
use Rattle.syntax_tree.specs.Cases.{cases_of, joint_cases}
use Rattle.syntax_tree.specs.SourceExpr.{SourceExpr, Lit, Var, Call, Unary, Binary, SourceExprs, End, Then}
use Rattle.syntax_tree.specs.Term.{Term, term_of}
use Rattle.typing.specs.declared.callee.Callee.{Callee}
use Rattle.typing.specs.declared.callee.Callee.TheVariants as callee
use Rattle.typing.specs.declared.env.Env.{Env}
use Rattle.typing.specs.declared.error.Limited.TheVariants as limited
use Rattle.typing.specs.declared.error.TypeError.{TypeError}
use Rattle.typing.specs.declared.error.TypeError.TheVariants.{Unknown, Arity, VoidValue, CallPlace, Many}
use Rattle.typing.specs.declared.meaning.CallSignature.{CallSignature}
use Rattle.typing.specs.declared.special.Special.{Special}
use Rattle.typing.specs.declared.special.Special.TheVariants.{Assert, Assume, Nondet, Error, Abort, Exit}
use Rattle.typing.specs.Calls.{condition_of}
use Rattle.typing.specs.Env.{with_columns_taken}
use Rattle.typing.specs.Scopes.{callee_of, variable_of}
use Rattle.typing.specs.Specials.{arguments_of, has_value, is_main}
use Rattle.typing.specs.Terms.{all_temporaries, count_of, place_of, temporaries, term_in, terms_in}

-- a fault where a test holds
abbrev pub when : Bool → TypeError → List TypeError
when true fault = fault ∷ []
when false fault = []

-- a name that means no variable
abbrev pub variable_faults : Env → ℕ → List ℕ → List TypeError
variable_faults env at name = when (is_none (variable_of env.scopes name)) (Unknown at)

-- the next column is one too many
abbrev pub slot_faults : Env → ℕ → List TypeError
slot_faults env at = when (env.next == env.full) (Many limited.Slots at)

-- a call of a procedure: it isn't `main`, and has as many arguments as parameters (C11 6.5.2.2)
abbrev pub may_call : CallSignature → List ℕ → ℕ → Bool
may_call signature name count = not (is_main name) && signature.params == count

-- A call with so many arguments, whose value is wanted, and which may stand in the right operand of
-- `&&` or `||`.
abbrev pub value_call_faults : Callee → Bool → ℕ → List ℕ → ℕ → List TypeError
value_call_faults (callee.Special special) right at name count =
    when (not (arguments_of special == count)) (Arity at) ++ when (not (has_value special))
    (VoidValue at)
value_call_faults (callee.Own signature) right at name count =
    when (not (may_call signature name count)) (Arity at)
    ++ when (not signature.returns) (VoidValue at)
    ++ when right (CallPlace at)
value_call_faults callee.Nobody right at name count = Unknown at ∷ []

-- a call that is a statement by itself
abbrev pub statement_call_faults : Callee → ℕ → List ℕ → ℕ → List TypeError
statement_call_faults (callee.Special special) at name count =
    when (not (arguments_of special == count)) (Arity at)
statement_call_faults (callee.Own signature) at name count =
    when (not (may_call signature name count)) (Arity at)
statement_call_faults callee.Nobody at name count = Unknown at ∷ []

-- arguments with too many cases together, told at the first of them
abbrev pub many_together : List Core → SourceExprs → List TypeError
many_together terms End = []
many_together terms (Then expr rest) =
    when (nat_lt most_cases (joint_cases (map term_of terms))) (Many limited.Cases (place_of expr))

-- the fault of arguments with too many cases together: one or none
abbrev pub joint_faults : Env → SourceExprs → List TypeError
joint_faults env args = many_together (terms_in env args) args

-- the operator is `&&` or `||`
abbrev pub is_logical : Op → Bool
is_logical And = true
is_logical Or = true
is_logical _ = false

-- the faults of an expression, which may stand in the right operand of `&&` or `||`, and those of
-- several
abbrev mutual
  pub expression_faults : Env → Bool → SourceExpr → List TypeError
  expression_faults env right (Lit at value) = []
  expression_faults env right (Var at name) = variable_faults env at name
  expression_faults env right (Call at name args) =
      value_call_faults (callee_of env.scopes name) right at name (count_of args)
      ++ all_expression_faults env right args
      ++ joint_faults env args
      ++ slot_faults (with_columns_taken (all_temporaries args) env) at
  expression_faults env right (Unary at sign inner) = expression_faults env right inner
  expression_faults env right (Binary at op left rest) =
      expression_faults env right left ++ expression_faults
      (with_columns_taken (temporaries left) env) (right || is_logical op) rest

  pub all_expression_faults : Env → Bool → SourceExprs → List TypeError
  all_expression_faults env right End = []
  all_expression_faults env right (Then expr rest) =
      expression_faults env right expr ++ all_expression_faults
      (with_columns_taken (temporaries expr) env) right rest

-- a value with too many cases
abbrev pub value_faults : Env → SourceExpr → List TypeError
value_faults env value =
    when (nat_lt most_cases (cases_of (term_of (term_in env value))).value)
    (Many limited.Cases (place_of value))

-- a whole right side
abbrev pub put_faults : Env → SourceExpr → List TypeError
put_faults env (Call at name args) =
    value_call_faults (callee_of env.scopes name) false at name (count_of args)
    ++ all_expression_faults env false args
    ++ joint_faults env args
put_faults env value = expression_faults env false value ++ value_faults env value

-- a condition with too many cases of its truth or of its falsity
abbrev pub has_many_ways : Term → Bool
has_many_ways cond = nat_lt most_cases (cases_of cond).truth
    || nat_lt most_cases (cases_of cond).falsity

-- the fault of a condition with too many cases, told at its place: one or none
abbrev pub truth_faults : Env → SourceExpr → List TypeError
truth_faults env cond = when (has_many_ways (term_of (term_in env cond)))
    (Many limited.Cases (place_of cond))

-- the faults of a condition: those of its expression, and too many cases
abbrev pub condition_faults : Env → SourceExpr → List TypeError
condition_faults env cond = expression_faults env false cond ++ truth_faults env cond

-- the same of the condition of an assertion or assumption, its first argument
abbrev pub first_truth_faults : List Core → SourceExprs → List TypeError
first_truth_faults terms End = []
first_truth_faults terms (Then cond rest) =
    when (has_many_ways (term_of (condition_of terms))) (Many limited.Cases (place_of cond))

-- behind so many assertions the next one is one too many
abbrev pub number_faults : ℕ → ℕ → List TypeError
number_faults number at = when (number == most_checks) (Many limited.Assertions at)

-- What a special call that is a statement by itself asks for beside its arguments. The status of an
-- exit goes nowhere, so its cases are not counted.
abbrev pub special_faults : ℕ → List Core → Special → ℕ → SourceExprs → List TypeError
special_faults number terms Assert at args = number_faults number at ++ first_truth_faults terms
    args
special_faults number terms Assume at args = first_truth_faults terms args
special_faults number terms Nondet at args = []
special_faults number terms Error at args = number_faults number at
special_faults number terms Abort at args = []
special_faults number terms Exit at args = []

-- what is wrong with all arguments of a call by itself, beside the faults of each: too many cases
-- together, or what a special call asks for
abbrev pub argument_faults : ℕ → List Core → Callee → ℕ → SourceExprs → List TypeError
argument_faults number terms (callee.Special special) at args =
    special_faults number terms special at args
argument_faults number terms (callee.Own signature) at args = many_together terms args
argument_faults number terms callee.Nobody at args = many_together terms args

-- the faults of a call that is a statement by itself: of the call, of each argument, and of all
-- arguments
abbrev pub act_faults : Env → SourceExpr → List TypeError
act_faults env (Call at name args) =
    statement_call_faults (callee_of env.scopes name) at name (count_of args)
    ++ all_expression_faults env false args
    ++ argument_faults env.number (terms_in env args) (callee_of env.scopes name) at args
act_faults env other = expression_faults env false other
