-- Polynomials as lists of terms.
use Rattle.std.specs.Prelude.{◌≢◌, ℤ, pos, List, [], ◌∷◌, if◌then◌else◌}
use Rattle.std.specs.List.{AllByRecursion}
use Rattle.std.specs.List.Sorted.{IsStrictlySortedBy}
use Rattle.std.specs.Map.{keys_of, values_of}
use Rattle.std.specs.Ordering.{eq_by_cmp}
use Rattle.linear_terms.specs.declared.col.Col.{Col}
use Rattle.linear_terms.specs.Mono.{mono_cmp}

-- monomials with their coefficients
abbrev pub Terms : Type 0
Terms = List (List Col × ℤ)

-- a polynomial, as its terms and its constant `rest`
pub record Polynomial : Type 0 where
  pub terms : Terms
  pub rest : ℤ

-- the monomials stand in print order, each once, and no coefficient is zero
pub record IsCanonical (terms : Terms) : Type 0 where
  pub in_print_order : IsStrictlySortedBy mono_cmp (keys_of terms)
  pub no_zero : AllByRecursion (λ c. c ≢ pos 0) (values_of terms)

-- a number as a polynomial without terms
abbrev pub constant_of : ℤ → Polynomial
constant_of value = record { terms = []; rest = value }

-- one column, with coefficient 1
abbrev pub column_of : Col → Polynomial
column_of col = record { terms = (col ∷ [], pos 1) ∷ []; rest = pos 0 }

-- a monomial with coefficient 1
abbrev pub mono_of : List Col → Polynomial
mono_of m = record { terms = (m, pos 1) ∷ []; rest = pos 0 }

-- the polynomial with 0 as its constant
abbrev pub without_constant : Polynomial → Polynomial
without_constant p = record { terms = p.terms; rest = pos 0 }

-- the coefficient of a monomial, and zero where it is not there
abbrev pub coefficient_in : Terms → List Col → ℤ
coefficient_in [] m = pos 0
coefficient_in (t ∷ ts) m = if eq_by_cmp mono_cmp t.0 m then t.1 else coefficient_in ts m
