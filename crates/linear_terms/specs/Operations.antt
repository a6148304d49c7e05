-- What the operations on polynomials answer: a polynomial, or the first step that leaves 128 bits
-- or passes degree 4. Sums run over monomials in print order, the constant last.
use Rattle.std.specs.Prelude.{◌+◌, ℤ, pos, negsuc, List, [], ◌∷◌, ◌++◌, length, Result, Ok, Err, nat_lt, if◌then◌else◌}
use Rattle.std.specs.Ordering.{int_eq, match_ordering}
use Rattle.items.specs.Gives.{◌>>=◌}
use Rattle.linear_terms.specs.declared.col.Col.{Col}
use Rattle.linear_terms.specs.declared.error.TermError.{TermError}
use Rattle.linear_terms.specs.declared.error.TermError.TheVariants.{Degree}
use Rattle.linear_terms.specs.TermError.{plus, times}
use Rattle.linear_terms.specs.Mono.{mono_cmp, in_order}
use Rattle.linear_terms.specs.Polynomial.{Terms, Polynomial, constant_of}

-- ---- sums

-- the terms with one more before them, unless its coefficient is zero
abbrev pub with_term : List Col → ℤ → Terms → Terms
with_term m c ts = if int_eq c (pos 0) then ts else (m, c) ∷ ts

-- the terms, which stand in print order, with c added to the coefficient of m
abbrev pub put : List Col → ℤ → Terms → Result Terms TermError
put m c [] = Ok (with_term m c [])
put m c (t ∷ ts) =
    match_ordering (mono_cmp m t.0) (Ok (with_term m c (t ∷ ts)))
    (plus t.1 c >>= λ s. Ok (with_term t.0 s ts)) (put m c ts >>= λ made. Ok (t ∷ made))

-- the terms with others added, one after another
abbrev pub put_all : Terms → Terms → Result Terms TermError
put_all ts [] = Ok ts
put_all ts (t ∷ more) = put t.0 t.1 ts >>= λ made. put_all made more

-- the sum of two polynomials: the second's terms are put into the first's one after another, then
-- the constants are added
abbrev pub sum_of_polys : Polynomial → Polynomial → Result Polynomial TermError
sum_of_polys a b = put_all a.terms b.terms >>= λ ts. plus a.rest b.rest >>= λ r. Ok record {
  terms = ts;
  rest = r;
}

-- ---- multiples: the polynomial's number is left

-- the terms with each coefficient times a number, in order, and none where the product is zero
abbrev pub times_each : Terms → ℤ → Result Terms TermError
times_each [] by = Ok []
times_each (t ∷ ts) by = times t.1 by >>= λ c. times_each ts by >>= λ made. Ok (with_term t.0 c made)

-- the polynomial times a number, its terms first and then its constant
abbrev pub multiple_of : Polynomial → ℤ → Result Polynomial TermError
multiple_of p by = times_each p.terms by >>= λ ts. times p.rest by >>= λ r. Ok record {
  terms = ts;
  rest = r;
}

-- what is subtracted is multiplied by -1 and then added
abbrev pub difference_of_polys : Polynomial → Polynomial → Result Polynomial TermError
difference_of_polys a b = multiple_of b (negsuc 0) >>= λ turned. sum_of_polys a turned

-- ---- products: each pair is multiplied, then added; the pairs in the order of the first, then of
-- the second

-- the constant counts as the last term, at the monomial of no columns
abbrev pub parts : Polynomial → Terms
parts p = p.terms ++ ([], p.rest) ∷ []

-- the polynomial with c added to the coefficient of m
abbrev pub put_term : List Col → ℤ → Polynomial → Result Polynomial TermError
put_term m c p = put m c p.terms >>= λ ts. Ok record { terms = ts; rest = p.rest }

-- the polynomial with c added to the coefficient of m, or to its constant where m has no columns
abbrev pub put_part : List Col → ℤ → Polynomial → Result Polynomial TermError
put_part [] c p = plus p.rest c >>= λ r. Ok record { terms = p.terms; rest = r }
put_part (x ∷ m) c p = put_term (x ∷ m) c p

-- the sum so far with the product of two terms
abbrev pub add_product : List Col → ℤ → List Col → ℤ → Polynomial → Result Polynomial TermError
add_product m c n d sum =
    if nat_lt 4 (length m + length n) then Err Degree
    else (times c d >>= λ e. put_part (in_order (m ++ n)) e sum)

-- with the products of one term and each of a list
abbrev pub add_row : List Col → ℤ → Terms → Polynomial → Result Polynomial TermError
add_row m c [] sum = Ok sum
add_row m c (t ∷ ts) sum = add_product m c t.0 t.1 sum >>= λ made. add_row m c ts made

-- with the products of each of a list and each of another
abbrev pub add_rows : Terms → Terms → Polynomial → Result Polynomial TermError
add_rows [] others sum = Ok sum
add_rows (t ∷ ts) others sum = add_row t.0 t.1 others sum >>= λ made. add_rows ts others made

-- the product of two polynomials, each part of the first times each of the second, summed from zero
abbrev pub product_of_polys : Polynomial → Polynomial → Result Polynomial TermError
product_of_polys a b = add_rows (parts a) (parts b) (constant_of (pos 0))

-- ---- substitution

-- what is made so far times what is put in for each column, from the left
abbrev pub product_on : (Col → Polynomial) → Polynomial → List Col → Result Polynomial TermError
product_on put_in made [] = Ok made
product_on put_in made (c ∷ m) = product_of_polys made (put_in c) >>= λ next. product_on put_in next
    m

-- the product of what is put in for the columns of a monomial
abbrev pub product_in : (Col → Polynomial) → List Col → Result Polynomial TermError
product_in put_in [] = Ok (constant_of (pos 1))
product_in put_in (c ∷ m) = product_on put_in (put_in c) m

-- that product times the coefficient of the monomial
abbrev pub substituted_monomial : (Col → Polynomial) → List Col → ℤ → Result Polynomial TermError
substituted_monomial put_in m c = product_in put_in m >>= λ product. multiple_of product c

-- monomial by monomial: what comes of it, added to the sum so far
abbrev pub add_substituted : (Col → Polynomial) → Terms → Polynomial → Result Polynomial TermError
add_substituted put_in [] sum = Ok sum
add_substituted put_in (t ∷ ts) sum =
    substituted_monomial put_in t.0 t.1 >>= λ term. sum_of_polys sum term >>= λ made. add_substituted put_in ts
    made

-- each column replaced by a polynomial
abbrev pub substituted_polynomial : (Col → Polynomial) → Polynomial → Result Polynomial TermError
substituted_polynomial put_in p =
    add_substituted put_in p.terms (constant_of (pos 0)) >>= λ sum. plus sum.rest p.rest
    >>= λ r. Ok record {
      terms = sum.terms;
      rest = r;
    }
