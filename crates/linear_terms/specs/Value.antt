-- The value of a polynomial under numbers for the columns, which are whole and have no bound.
use Rattle.std.specs.Prelude.{ℤ, pos, ◌+ℤ◌, ◌*ℤ◌, List, [], ◌∷◌}
use Rattle.linear_terms.specs.declared.col.Col.{Col}
use Rattle.linear_terms.specs.Polynomial.{Terms, Polynomial}

-- a number for each column
abbrev pub Valuation : Type 0
Valuation = Col → ℤ

-- a monomial is the product of its columns
abbrev pub mono_value : Valuation → List Col → ℤ
mono_value at [] = pos 1
mono_value at (c ∷ m) = at c *ℤ mono_value at m

-- the sum of the coefficients times the values of their monomials; 0 where there are no terms
abbrev pub terms_value : Valuation → Terms → ℤ
terms_value at [] = pos 0
terms_value at (t ∷ ts) = t.1 *ℤ mono_value at t.0 +ℤ terms_value at ts

-- the value of a polynomial, that of its terms and its constant together
abbrev pub value_of : Valuation → Polynomial → ℤ
value_of at p = terms_value at p.terms +ℤ p.rest
