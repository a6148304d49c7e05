-- What a passed test means, and what sums, products and values of ratios are worth, as laws on
-- definitions.
use Rattle.std.specs.Prelude.{◌≡◌, ℤ, pos, ◌+ℤ◌, ◌*ℤ◌, ◌<ℤ◌, List, Ok}
use Rattle.linear_terms.specs.declared.col.Col.{Col}
use Rattle.linear_terms.specs.Polynomial.{Polynomial}
use Rattle.farkas_check.specs.declared.answer.Answer.{Answer}
use Rattle.farkas_check.specs.declared.question.Question.{Question}
use Rattle.farkas_check.specs.Kept.{ArePositive}
use Rattle.farkas_check.specs.Meaning.{IsTrueAnswer, IsTight, IsLimit, IsListed}
use Rattle.farkas_check.specs.Points.{ratio_at, ratio_value}
use Rattle.farkas_check.specs.Rational.{RationalPoint, sum_at}
use Rattle.farkas_check.specs.Ratios.{Fraction, ratio_sum, ratio_product}
use Rattle.farkas_check.specs.Tested.{Passes}

-- an answer that passes is true over whole numbers, and the truth about rational points unless it
-- is a limit
abbrev pub PassingIsTrue : Type 0
PassingIsTrue = (question : Question) (answer : Answer) → Passes question answer
    → IsTrueAnswer question answer × ((IsLimit answer → ⊥) → IsTight question answer)

-- ---- what ratios are worth

-- the ratio is x / d
abbrev pub IsQuotient : Fraction → ℤ → ℤ → Type 0
IsQuotient r x d = r.num *ℤ d ≡ x *ℤ r.den

-- a / b + c / d is (a * d + c * b) / (b * d), wherever each step of the sum has 128 bits
abbrev pub SumsAreExact : Type 0
SumsAreExact = (p q r : Fraction) → pos 0 <ℤ p.den → pos 0 <ℤ q.den → ratio_sum p q ≡ Ok r
    → IsQuotient r (p.num *ℤ q.den +ℤ q.num *ℤ p.den) (p.den *ℤ q.den)

-- and a / b times c / d is (a * c) / (b * d)
abbrev pub ProductsAreExact : Type 0
ProductsAreExact = (p q r : Fraction) → pos 0 <ℤ p.den → pos 0 <ℤ q.den → ratio_product p q ≡ Ok r
    → IsQuotient r (p.num *ℤ q.num) (p.den *ℤ q.den)

-- the value that the test makes of a polynomial at listed numbers is its value at the point that
-- they are
abbrev pub ValuesAreExact : Type 0
ValuesAreExact = (point : RationalPoint) (cs : List (List Col)) (numbers : List Fraction)
    (p : Polynomial) (r : Fraction)
    → ArePositive numbers → IsListed point cs numbers → ratio_value (ratio_at cs numbers) p ≡ Ok r
    → IsQuotient r (sum_at point p) point.over
