-- How the answer of an evaluation follows from those of the operands.
use Rattle.std.proofs.Common.{◌≡◌, ℕ, List, [], ◌∷◌, ◌++◌, refl, ap, ◌∙◌, ℤ, pos, arith, Option, Some, None, Result, Ok, Err}
use Rattle.std.specs.List.{find}
use Rattle.std.specs.Prelude.{is_some, slice_index_or, if◌then◌else◌, ◌-ℤ◌, ◌*ℤ◌, int_div, int_rem}
use Rattle.std.proofs.lemmas.Int.{quot-rem, ints}
use Rattle.std.proofs.lemmas.List.Folds.{find-append}
use Rattle.items.specs.Gives.{◌>>=◌}
use Rattle.syntax_tree.specs.declared.op.Op.{Op}
use Rattle.syntax_tree.specs.declared.op.Sign.{Sign}
use Rattle.syntax_tree.specs.declared.evaluation.EvalWide.{EvalWide}
use Rattle.syntax_tree.specs.declared.evaluation.EvalStop.{EvalStop}
use Rattle.syntax_tree.specs.Term.{Term, Lit, Col, Unary, Binary}
use Rattle.syntax_tree.proofs.Terms.{terms}
use Rattle.syntax_tree.specs.Value.{State, Step, early_value, evaluation_result, is_wide, or_else, result_of, sign_steps, unary_value, steps_after, steps_of, unless_wide, value_of, with_number}
use Rattle.syntax_tree.specs.Evaluation.{as_number, number_of, sign_number, step_number}

abbrev pub Answer : Type 0
Answer = Result ℤ EvalStop

abbrev pub answer_of : List Step → Option ℤ → Answer
answer_of steps value = as_number (unless_wide (find is_wide steps) value)

answer_of-after : (first : Option Step) (o : Option ℤ) (xs : List Step) (next : ℤ → List Step) (value : ℤ → Option ℤ) → find is_wide xs ≡ first
    → answer_of (xs ++ steps_after o next) (with_number o value) ≡ answer_of xs o >>= λ x. answer_of (next x) (value x)
answer_of-after None None xs next value e = grind (arith, find-append is_wide xs [], e)
answer_of-after None (Some x) xs next value e = grind (arith, find-append is_wide xs (next x), e)
answer_of-after (Some wide) None xs next value e = grind (arith, find-append is_wide xs [], e)
answer_of-after (Some wide) (Some x) xs next value e = grind (arith, find-append is_wide xs (next x), e)

pub number_of-Lit : (n : ℤ) (s : State) → number_of (Lit n) s ≡ Ok n
unfolding number_of evaluation_result
number_of-Lit n s = refl

pub number_of-Col : (c : ℕ) (s : State) → number_of (Col c) s ≡ Ok (slice_index_or s c (pos 0))
unfolding number_of evaluation_result
number_of-Col c s = refl

pub number_of-Unary : (sign : Sign) (inner : Term) (s : State) → number_of (Unary sign inner) s ≡ number_of inner s >>= sign_number sign
unfolding number_of evaluation_result sign_number
number_of-Unary sign inner s =
    answer_of-after (find is_wide (steps_of inner s)) (value_of inner s) (steps_of inner s) (sign_steps sign) (λ x. Some (unary_value sign x)) refl

-- what a binary operator answers, its left operand being a number
abbrev pub unless_early : Option ℤ → Answer → Answer
unless_early None late = late
unless_early (Some early) late = Ok early

right_answer : (early : Option ℤ) (steps : List Step) (value : Option ℤ) →
    answer_of (if is_some early then [] else steps) (or_else early value) ≡ unless_early early (answer_of steps value)
right_answer None steps value = refl
right_answer (Some v) steps value = refl

abbrev pub step_of : Op → ℤ → ℤ → Step
step_of op x y = record { op = op; left = x; right = y }

pub number_of-Binary : (op : Op) (left right : Term) (s : State) → number_of (Binary op left right) s
    ≡ number_of left s >>= λ x. unless_early (early_value op x) (number_of right s >>= λ y. step_number (step_of op x y))
unfolding number_of evaluation_result step_number
number_of-Binary op left right s =
    answer_of-after (find is_wide (steps_of left s)) (value_of left s) (steps_of left s)
    (λ x. if is_some (early_value op x) then [] else (steps_of right s ++ steps_after (value_of right s) (λ y. step_of op x y ∷ [])))
    (λ x. or_else (early_value op x) (with_number (value_of right s) (result_of op x))) refl
    ∙ ap (λ next. answer_of (steps_of left s) (value_of left s) >>= next) (λ i x. late x i)
  where
    late : (x : ℤ) → answer_of (if is_some (early_value op x) then [] else (steps_of right s ++ steps_after (value_of right s) (λ y. step_of op x y ∷ []))) (or_else (early_value op x) (with_number (value_of right s) (result_of op x)))
        ≡ unless_early (early_value op x) (answer_of (steps_of right s) (value_of right s) >>= λ y. answer_of (step_of op x y ∷ []) (result_of op x y))
    late x =
        right_answer (early_value op x) (steps_of right s ++ steps_after (value_of right s) (λ y. step_of op x y ∷ [])) (with_number (value_of right s) (result_of op x))
        ∙ ap (unless_early (early_value op x)) (answer_of-after (find is_wide (steps_of right s)) (value_of right s) (steps_of right s) (λ y. step_of op x y ∷ []) (result_of op x) refl)

pub ruleset evaluation = (terms, number_of-Lit, number_of-Col, number_of-Unary, number_of-Binary)

-- an evaluation is read back from its number, or why it stops
pub as_number-Ok : (a : Result (Option ℤ) EvalWide) (x : ℤ) → Ok x ≡ as_number a → Ok (Some x) ≡ a
as_number-Ok (Ok (Some y)) x e = cc
as_number-Ok (Ok None) x e = cc
as_number-Ok (Err wide) x e = cc

-- an answer that is no wide step is the value
pub evaluated-Ok : (e : Term) (s : State) (v : Option ℤ) → evaluation_result e s ≡ Ok v → v ≡ value_of e s
unfolding evaluation_result
evaluated-Ok e s v h = ok_value (find is_wide (steps_of e s)) h
  where
    ok_value : (first : Option Step) → unless_wide first (value_of e s) ≡ Ok v → v ≡ value_of e s
    ok_value None q = cc
    ok_value (Some wide) q = cc

pub ruleset endings = (as_number-Ok, evaluated-Ok)

-- `%` as C11 6.5.5 says it
pub minus_quotient : (a d : ℤ) → a -ℤ (int_div a d *ℤ d) ≡ int_rem a d
minus_quotient a d = let e = quot-rem a d in omega (arith, ints)
