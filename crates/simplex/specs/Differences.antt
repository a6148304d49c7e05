-- The difference of a relation in a case, as a polynomial.
use Rattle.std.specs.Prelude.{◌≡◌, ℤ, pos, ◌+ℤ◌, ◌*ℤ◌, List, [], ◌∷◌, Bool, Result, Ok}
use Rattle.items.specs.Gives.{◌>>=◌}
use Rattle.linear_terms.specs.declared.col.Col.{Col}
use Rattle.linear_terms.specs.declared.error.TermError.{TermError}
use Rattle.linear_terms.specs.Operations.{sum_of_polys, multiple_of}
use Rattle.linear_terms.specs.Polynomial.{Polynomial, IsCanonical, coefficient_in}
use Rattle.farkas_check.specs.Relations.{sides, difference, coefficient_at, rest_of}
use Rattle.simplex.specs.Raise.{sign_of}

-- a polynomial with a multiple of another one
abbrev pub with_multiple : Polynomial → ℤ → Polynomial → Result Polynomial TermError
with_multiple total n p = multiple_of p n >>= λ part. sum_of_polys total part

-- a polynomial with multiples of others, one after another
abbrev pub with_multiples : Polynomial → List ℤ → List Polynomial → Result Polynomial TermError
with_multiples total [] ps = Ok total
with_multiples total (n ∷ ns) [] = Ok total
with_multiples total (n ∷ ns) (p ∷ ps) = with_multiple total n p >>= λ next. with_multiples next ns
    ps

-- the sum of the values of polynomials times numbers
abbrev pub weighted_value : (Polynomial → ℤ) → List ℤ → List Polynomial → ℤ
weighted_value value [] ps = pos 0
weighted_value value (n ∷ ns) [] = pos 0
weighted_value value (n ∷ ns) (p ∷ ps) = value p *ℤ n +ℤ weighted_value value ns ps

-- the difference of a relation in a case with these terms, or minus the difference
pub record IsDifferenceOf (terms lower : List Polynomial) (numbers : List ℤ) (up : Bool)
    (p : Polynomial) : Type 0 where
  pub canonical : IsCanonical p.terms
  pub coefficient : (n : List Col)
      → coefficient_in p.terms n ≡ sign_of up *ℤ difference (coefficient_at n) (pos 0) numbers
      (sides terms lower)
  pub rest : p.rest ≡ sign_of up *ℤ difference rest_of (pos 1) numbers (sides terms lower)
