-- No step answers want of memory: each that has no answer is noted.
use Rattle.std.proofs.Common.{Bool, true, false, negsuc, List}
use Rattle.std.specs.List.{AllByRecursion}
use Rattle.items.specs.Gives.{◌>>=◌}
use Rattle.linear_terms.specs.Operations.{multiple_of, sum_of_polys, product_of_polys, difference_of_polys}
use Rattle.linear_terms.specs.Polynomial.{Polynomial}
use Rattle.transition_formula.proofs.NotedErrors.{Tells, bind-tells, difference_of_polys-tells, multiple_of-tells, product_of_polys-tells, sum_of_polys-tells}
use Rattle.leaf_cases.specs.declared.division.Signs.{Signs}
use Rattle.leaf_cases.specs.declared.step.Arithmetic.{Arithmetic}
use Rattle.leaf_cases.specs.declared.step.Arithmetic.TheVariants.{Negate, Sum, Difference, Product}
use Rattle.leaf_cases.specs.declared.step.TestRelation.{TestRelation}
use Rattle.leaf_cases.specs.declared.step.TestRelation.TheVariants.{Less, LessOrEqual, Greater, GreaterOrEqual, Same, Negative, Positive, Zero}
use Rattle.leaf_cases.specs.Claims.{Claim}
use Rattle.leaf_cases.specs.Division.{zero, one, minus_one, equation, divisor_sign, dividend_sign, lower_bound, upper_bound, division}
use Rattle.leaf_cases.specs.Steps.{one_more, value_at, test_at}

abbrev pub AllTell : List Claim → Type 0
AllTell claims = AllByRecursion (λ (claim : Claim). Tells claim.poly) claims

pub value_at-tells : (arithmetic : Arithmetic) (a b : Polynomial) → Tells (value_at arithmetic a b)
value_at-tells Negate a b = multiple_of-tells a (negsuc 0)
value_at-tells Sum a b = sum_of_polys-tells a b
value_at-tells Difference a b = difference_of_polys-tells a b
value_at-tells Product a b = product_of_polys-tells a b

one_more-tells : (a b : Polynomial) → Tells (one_more a b)
one_more-tells a b = bind-tells (difference_of_polys a b) (λ d. sum_of_polys d one) (difference_of_polys-tells a b) (λ d. sum_of_polys-tells d one)

pub test_at-tells : (relation : TestRelation) (a b : Polynomial) → Tells (test_at relation a b)
test_at-tells Less a b = one_more-tells a b
test_at-tells LessOrEqual a b = difference_of_polys-tells a b
test_at-tells Greater a b = one_more-tells b a
test_at-tells GreaterOrEqual a b = difference_of_polys-tells b a
test_at-tells Same a b = difference_of_polys-tells a b
test_at-tells Negative a b = difference_of_polys-tells a minus_one
test_at-tells Positive a b = difference_of_polys-tells one a
test_at-tells Zero a b = difference_of_polys-tells a zero

-- ---- the rows of a division

equation-tells : (a b q r : Polynomial) → Tells (equation a b q r)
equation-tells a b q r =
    bind-tells (product_of_polys q b) (λ p. difference_of_polys a p >>= λ d. difference_of_polys d r) (product_of_polys-tells q b)
    (λ p. bind-tells (difference_of_polys a p) (λ d. difference_of_polys d r) (difference_of_polys-tells a p) (λ d. difference_of_polys-tells d r))

divisor_sign-tells : (sign : Bool) (b : Polynomial) → Tells (divisor_sign sign b)
divisor_sign-tells true b = difference_of_polys-tells one b
divisor_sign-tells false b = difference_of_polys-tells b minus_one

dividend_sign-tells : (sign : Bool) (a : Polynomial) → Tells (dividend_sign sign a)
dividend_sign-tells true a = difference_of_polys-tells zero a
dividend_sign-tells false a = difference_of_polys-tells a minus_one

lower_bound-tells : (divisor dividend : Bool) (b r : Polynomial) → Tells (lower_bound divisor dividend b r)
lower_bound-tells true true b r = difference_of_polys-tells zero r
lower_bound-tells false true b r = difference_of_polys-tells zero r
lower_bound-tells true false b r =
    bind-tells (multiple_of b (negsuc 0)) (λ turned. sum_of_polys turned one >>= λ least. difference_of_polys least r) (multiple_of-tells b (negsuc 0))
    (λ turned. bind-tells (sum_of_polys turned one) (λ least. difference_of_polys least r) (sum_of_polys-tells turned one) (λ least. difference_of_polys-tells least r))
lower_bound-tells false false b r = bind-tells (sum_of_polys b one) (λ least. difference_of_polys least r) (sum_of_polys-tells b one) (λ least. difference_of_polys-tells least r)

upper_bound-tells : (divisor dividend : Bool) (b r : Polynomial) → Tells (upper_bound divisor dividend b r)
upper_bound-tells true true b r = bind-tells (difference_of_polys b one) (λ most. difference_of_polys r most) (difference_of_polys-tells b one) (λ most. difference_of_polys-tells r most)
upper_bound-tells false true b r =
    bind-tells (multiple_of b (negsuc 0)) (λ turned. difference_of_polys turned one >>= λ most. difference_of_polys r most) (multiple_of-tells b (negsuc 0))
    (λ turned. bind-tells (difference_of_polys turned one) (λ most. difference_of_polys r most) (difference_of_polys-tells turned one) (λ most. difference_of_polys-tells r most))
upper_bound-tells true false b r = difference_of_polys-tells r zero
upper_bound-tells false false b r = difference_of_polys-tells r zero

pub division-tells : (signs : Signs) (a b q r : Polynomial) → AllTell (division signs a b q r)
division-tells signs a b q r = (
  equation-tells a b q r,
  (divisor_sign-tells signs.divisor b, (dividend_sign-tells signs.dividend a, (lower_bound-tells signs.divisor signs.dividend b r, (upper_bound-tells signs.divisor signs.dividend b r, tt)))),
)
