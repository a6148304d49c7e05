-- The frame of a list of rows: a column for each monomial, one for the constants, and a unit column
-- for each row.
use Rattle.std.specs.Prelude.{ℕ, zero, suc, ◌+◌, nat_eq, ℤ, pos, List, [], ◌∷◌, ◌++◌, map, length, get_or, if◌then◌else◌}
use Rattle.linear_terms.specs.declared.col.Col.{Col}
use Rattle.linear_terms.specs.declared.row.Kind.{Kind}
use Rattle.linear_terms.specs.declared.row.Kind.TheVariants.{AtMost}
use Rattle.linear_terms.specs.declared.row.Row.{Row}
use Rattle.linear_terms.specs.Polynomial.{coefficient_in}
use Rattle.simplex.specs.Exchange.{numbers_of}
use Rattle.simplex.specs.Raise.{Framed}
use Rattle.simplex.specs.declared.tableau.Tableau.{Tableau}

-- the kinds of rows, in their order
abbrev pub kinds_of : List Row → List Kind
kinds_of rows = map (λ (row : Row). row.kind) rows

-- the kind at a place; that of an inequality past the last
abbrev pub kind_at : List Kind → ℕ → Kind
kind_at kinds l = get_or kinds l AtMost

-- a row's numbers at the columns
abbrev pub coefficients : Row → List (List Col) → List ℤ
coefficients row columns = map (λ (c : List Col). coefficient_in row.poly.terms c) columns

-- 1 at one place among the first ones, and else 0
abbrev pub units_to : ℕ → ℕ → List ℤ
units_to zero place = []
units_to (suc n) place = units_to n place ++ (if nat_eq n place then pos 1 else pos 0) ∷ []

-- a row's line in its frame, which has its numbers at the columns, its constant, and 1 at its own
-- unit column
abbrev pub whole_line : List (List Col) → ℕ → ℕ → Row → List ℤ
whole_line columns count place row = (coefficients row columns ++ row.poly.rest ∷ [])
    ++ units_to count place

-- the lines of the rows from a place on
abbrev pub lines_from : List (List Col) → ℕ → ℕ → List Row → List (List ℤ)
lines_from columns count place [] = []
lines_from columns count place (row ∷ rows) = whole_line columns count place row
    ∷ lines_from columns count (place + 1) rows

-- as many unit columns from the first one on
abbrev pub units_from : ℕ → ℕ → List ℕ
units_from first zero = []
units_from first (suc n) = units_from first n ++ (first + n) ∷ []

-- the tableau of the rows that chooses the unit columns
abbrev pub framed_tableau : List (List Col) → List Row → Tableau
framed_tableau columns rows = record {
  lines = lines_from columns (length rows) 0 rows;
  chosen = units_from (length columns + 1) (length rows);
}

-- the frame of the rows is what this tableau says
abbrev pub frame_of_rows : List (List Col) → List Row → Framed
frame_of_rows columns rows = record {
  units = length columns + 1;
  rows = length rows;
  frame = numbers_of (framed_tableau columns rows);
}
