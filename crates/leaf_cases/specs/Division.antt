-- Division as rows (C11 6.5.5): the dividend is the quotient times the divisor and the remainder.
-- The quotient is truncated toward zero, so the remainder is smaller than the divisor in size, and
-- never on the other side of zero than the dividend.
use Rattle.std.specs.Prelude.{pos, negsuc, List, [], ◌∷◌, Bool, true, false}
use Rattle.items.specs.Gives.{◌>>=◌}
use Rattle.linear_terms.specs.declared.row.Kind.TheVariants.{AtMost, Equal}
use Rattle.linear_terms.specs.Polynomial.{Polynomial, constant_of}
use Rattle.linear_terms.specs.Operations.{multiple_of, sum_of_polys, product_of_polys, difference_of_polys}
use Rattle.leaf_cases.specs.declared.division.Signs.{Signs}
use Rattle.leaf_cases.specs.Claims.{Answer, Claim}

-- the polynomial 0
abbrev pub zero : Polynomial
zero = constant_of (pos 0)

-- the polynomial 1
abbrev pub one : Polynomial
one = constant_of (pos 1)

-- the polynomial -1
abbrev pub minus_one : Polynomial
minus_one = constant_of (negsuc 0)

-- a - q*b - r
abbrev pub equation : Polynomial → Polynomial → Polynomial → Polynomial → Answer
equation a b q r = product_of_polys q b >>= λ p. difference_of_polys a p
    >>= λ d. difference_of_polys d r

-- 1 <= b, or b <= -1
abbrev pub divisor_sign : Bool → Polynomial → Answer
divisor_sign true b = difference_of_polys one b
divisor_sign false b = difference_of_polys b minus_one

-- 0 <= a, or a <= -1
abbrev pub dividend_sign : Bool → Polynomial → Answer
dividend_sign true a = difference_of_polys zero a
dividend_sign false a = difference_of_polys a minus_one

-- 0 <= r for a dividend that is not negative; otherwise -b + 1 <= r or b + 1 <= r, by the sign of b
abbrev pub lower_bound : Bool → Bool → Polynomial → Polynomial → Answer
lower_bound divisor true b r = difference_of_polys zero r
lower_bound true false b r = multiple_of b (negsuc 0) >>= λ turned. sum_of_polys turned one
    >>= λ least. difference_of_polys least r
lower_bound false false b r = sum_of_polys b one >>= λ least. difference_of_polys least r

-- r <= b - 1 or r <= -b - 1 for a dividend that is not negative, by the sign of b; otherwise r <= 0
abbrev pub upper_bound : Bool → Bool → Polynomial → Polynomial → Answer
upper_bound true true b r = difference_of_polys b one >>= λ most. difference_of_polys r most
upper_bound false true b r = multiple_of b (negsuc 0) >>= λ turned. difference_of_polys turned one
    >>= λ most. difference_of_polys r most
upper_bound divisor false b r = difference_of_polys r zero

-- the row that says that a polynomial is 0
abbrev pub is_zero : Answer → Claim
is_zero poly = record { kind = Equal; poly = poly }

-- the row that says that a polynomial is at most 0
abbrev pub is_at_most_zero : Answer → Claim
is_at_most_zero poly = record { kind = AtMost; poly = poly }

-- the rows of one of the four cases
abbrev pub division : Signs → Polynomial → Polynomial → Polynomial → Polynomial → List Claim
division signs a b q r =
    is_zero (equation a b q r)
    ∷ is_at_most_zero (divisor_sign signs.divisor b)
    ∷ is_at_most_zero (dividend_sign signs.dividend a)
    ∷ is_at_most_zero (lower_bound signs.divisor signs.dividend b r)
    ∷ is_at_most_zero (upper_bound signs.divisor signs.dividend b r)
    ∷ []

-- the four cases: whether the divisor is above 0, and whether the dividend is not below 0
abbrev pub all_signs : List Signs
all_signs =
    record { divisor = true; dividend = true }
    ∷ record { divisor = true; dividend = false }
    ∷ record { divisor = false; dividend = true }
    ∷ record { divisor = false; dividend = false }
    ∷ []
