-- Expressions over polynomials: what an expression comes to, or the first step of making it that
-- leaves 128 bits or passes degree 4. An operation makes its left side, then its right side, and
-- then takes the step itself; products bind closer than sums and differences, and each of them
-- groups to the left. So a rule of the analysis reads here as it is written.
use Rattle.std.specs.Prelude.{ℤ, pos, negsuc, List, [], ◌∷◌, Result, Ok, Err}
use Rattle.items.specs.Gives.{◌>>=◌}
use Rattle.linear_terms.specs.declared.col.Col.{Col}
use Rattle.linear_terms.specs.declared.error.TermError.{TermError}
use Rattle.linear_terms.specs.declared.row.Kind.TheVariants.{AtMost, Equal}
use Rattle.linear_terms.specs.declared.row.Row.{Row}
use Rattle.linear_terms.specs.Polynomial.{Terms, Polynomial, constant_of, column_of}
use Rattle.linear_terms.specs.Operations.{with_term, multiple_of, sum_of_polys, difference_of_polys, product_of_polys, substituted_polynomial}

-- a polynomial, or the first step that cannot be made
abbrev pub Made : Type 0
Made = Result Polynomial TermError

infixl 7 ◌⊠◌
infixl 6 ◌⊞◌
infixl 6 ◌⊟◌
-- a product
abbrev pub ◌⊠◌ : Made → Made → Made
a ⊠ b = a >>= λ p. b >>= λ q. product_of_polys p q

-- a sum
abbrev pub ◌⊞◌ : Made → Made → Made
a ⊞ b = a >>= λ p. b >>= λ q. sum_of_polys p q

-- a difference: what is subtracted is multiplied by -1 and then added
abbrev pub ◌⊟◌ : Made → Made → Made
a ⊟ b = a >>= λ p. b >>= λ q. difference_of_polys p q

-- a whole number
abbrev pub whole : ℤ → Made
whole n = Ok (constant_of n)

-- a column
abbrev pub column : Col → Made
column c = Ok (column_of c)

-- an expression times -1, which stands on the right
abbrev pub negative_of : Made → Made
negative_of a = a >>= λ p. multiple_of p (negsuc 0)

-- the row that says that an expression is not positive
abbrev pub at_most : Made → Result Row TermError
at_most a = a >>= λ p. Ok record { poly = p; kind = AtMost }

-- the row that says that an expression is zero
abbrev pub equation : Made → Result Row TermError
equation a = a >>= λ p. Ok record { poly = p; kind = Equal }

-- the row that holds exactly where `p <= 0` does not: `-p + 1 <= 0`
abbrev pub negation : Polynomial → Result Row TermError
negation p = at_most (negative_of (Ok p) ⊞ whole (pos 1))

-- all of a list, each made in turn
abbrev pub all_of : List Made → Result (List Polynomial) TermError
all_of [] = Ok []
all_of (m ∷ ms) = m >>= λ p. all_of ms >>= λ ps. Ok (p ∷ ps)

-- ---- numbers times columns, and numbers times polynomials. Where one list is longer, its end
-- counts for nothing.

-- the terms with these numbers at these columns; no term where the number is zero
abbrev pub coefficients : List ℤ → List Col → Terms
coefficients [] cs = []
coefficients (n ∷ ns) [] = []
coefficients (n ∷ ns) (c ∷ cs) = with_term (c ∷ []) n (coefficients ns cs)

-- the linear polynomial without constant that has these numbers at these columns
abbrev pub linear : List ℤ → List Col → Polynomial
linear ns cs = record { terms = coefficients ns cs; rest = pos 0 }

-- a sum so far and numbers times polynomials, from the left, the number on the left of each product
abbrev pub sum_from : Polynomial → List ℤ → List Polynomial → Made
sum_from total [] ps = Ok total
sum_from total (n ∷ ns) [] = Ok total
sum_from total (n ∷ ns) (p ∷ ps) = (Ok total ⊞ whole n ⊠ Ok p) >>= λ next. sum_from next ns ps

-- numbers times polynomials, summed from zero
abbrev pub weighted_sum : List ℤ → List Polynomial → Made
weighted_sum ns ps = sum_from (constant_of (pos 0)) ns ps

-- numbers times expressions, all of which are made before they are summed
abbrev pub combination : List ℤ → List Made → Made
combination ns ms = all_of ms >>= λ ps. weighted_sum ns ps

-- ---- expressions put in for columns

-- the polynomial, and zero where it cannot be made
abbrev pub or_zero : Made → Polynomial
or_zero (Ok p) = p
or_zero (Err e) = constant_of (pos 0)

-- what follows, where each of the columns has a value that can be made; else the first value that
-- cannot
abbrev pub when_made : (Col → Made) → List Col → Made → Made
when_made values [] next = next
when_made values (c ∷ cs) next = values c >>= λ p. when_made values cs next

-- what follows, where each column of the terms has a value that can be made; else the first value
-- that cannot, in the order of the terms
abbrev pub when_all_made : (Col → Made) → Terms → Made → Made
when_all_made values [] next = next
when_all_made values (t ∷ ts) next = when_made values t.0 (when_all_made values ts next)

-- a polynomial with expressions put in for its columns; a value that cannot be made comes before
-- any step of the substitution
abbrev pub put_into : (Col → Made) → Polynomial → Made
put_into values p = when_all_made values p.terms (substituted_polynomial (λ c. or_zero (values c)) p)
