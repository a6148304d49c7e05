-- What is put in for columns: a list of polynomials for the entry columns, and one for the
-- auxiliaries.
use Rattle.std.specs.Prelude.{ℕ, pos, ◌<◌, List, length, slice_get, unwrap_or}
use Rattle.linear_terms.specs.declared.col.Col.{Col}
use Rattle.linear_terms.specs.declared.col.Col.TheVariants.{At, Aux}
use Rattle.linear_terms.specs.Polynomial.{Polynomial, constant_of}

-- the column's number is below that of the entry columns, or of the auxiliaries
abbrev pub IsBelow : ℕ → ℕ → Col → Type 0
IsBelow at aux (At number) = number < at
IsBelow at aux (Aux number) = number < aux

-- the column has a polynomial
abbrev pub HasPoly : List Polynomial → List Polynomial → Col → Type 0
HasPoly at aux col = IsBelow (length at) (length aux) col

-- what is put in for a column, by its number in the list of its kind; 0 past the last
abbrev pub put_in : List Polynomial → List Polynomial → Col → Polynomial
put_in at aux (At number) = unwrap_or (slice_get at number) (constant_of (pos 0))
put_in at aux (Aux number) = unwrap_or (slice_get aux number) (constant_of (pos 0))
