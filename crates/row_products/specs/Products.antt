-- Products of rows: rows that are true where others are and the columns are whole numbers. Where
-- each monomial counts as an unknown of its own, as it does in a question, they need not be.
use Rattle.std.specs.Prelude.{pos, List, [], ◌∷◌, ◌++◌, length, map, take, Option, None, Some, Bool, true, false, ◌&&◌, ◌==◌, nat_lt, Result, Ok, Err, if◌then◌else◌}
use Rattle.std.specs.List.{filter, filter_map, flat_map, list_all, list_any}
use Rattle.std.specs.Ordering.{eq_by_cmp}
use Rattle.items.specs.Gives.{◌>>=◌}
use Rattle.linear_terms.specs.declared.col.Col.{Col}
use Rattle.linear_terms.specs.declared.error.TermError.{TermError}
use Rattle.linear_terms.specs.declared.row.Kind.{Kind}
use Rattle.linear_terms.specs.declared.row.Kind.TheVariants.{AtMost, Equal}
use Rattle.linear_terms.specs.declared.row.Row.{Row}
use Rattle.linear_terms.specs.declared.row.Normal.{Normal}
use Rattle.linear_terms.specs.declared.row.Normal.TheVariants.{Constant, Kept}
use Rattle.linear_terms.specs.Col.{col_cmp}
use Rattle.linear_terms.specs.Equality.{poly_eq}
use Rattle.linear_terms.specs.Expressions.{Made, ◌⊠◌, ◌⊞◌, ◌⊟◌, column, negative_of, at_most}
use Rattle.linear_terms.specs.Mono.{mono_cmp}
use Rattle.linear_terms.specs.Polynomial.{Terms, Polynomial, constant_of}
use Rattle.linear_terms.specs.Row.{normal_form}
use Rattle.farkas_check.specs.Columns.{columns}
use Rattle.row_products.specs.Limits.{most_products}

-- ---- monomials of degree 2 and more

-- the monomial has degree 2 or more
abbrev pub is_high : List Col → Bool
is_high m = nat_lt 1 (length m)

-- those of the rows, in print order, each once
abbrev pub high_monos : List Row → List (List Col)
high_monos rows = filter is_high (columns rows [])

-- the column occurs in one of the monomials
abbrev pub occurs_in : List (List Col) → Col → Bool
occurs_in monos c = list_any (λ m. list_any (eq_by_cmp col_cmp c) m) monos

-- one of the monomials occurs in the polynomial
abbrev pub has_one_of : List (List Col) → Polynomial → Bool
has_one_of monos p = list_any (λ t. list_any (eq_by_cmp mono_cmp t.0) monos) p.terms

-- ---- rows in normal form

-- no numbers make it true
abbrev pub never : Row
never = record { poly = constant_of (pos 1); kind = AtMost }

-- the row that a normal form is; none where a step of it was lost, or where it is always true
abbrev pub telling : Result Normal TermError → Option Row
telling (Err e) = None
telling (Ok (Constant true)) = None
telling (Ok (Constant false)) = Some never
telling (Ok (Kept row)) = Some row

-- the normal form of the row that says that an expression is not positive
abbrev pub form_of : Made → Result Normal TermError
form_of made = at_most made >>= normal_form

-- the row in normal form that says that an expression is not positive; None where a step was lost,
-- or where it is always true
abbrev pub row_of : Made → Option Row
row_of made = telling (form_of made)

-- ---- squares: a whole number and its opposite are at most its square

-- a column less its square, which is never positive
abbrev pub below_square : Col → Made
below_square x = column x ⊟ column x ⊠ column x

-- minus the sum of a column's square and the column, which is never positive
abbrev pub above_square : Col → Made
above_square x = negative_of (column x ⊠ column x ⊞ column x)

-- of a monomial that is a square `x*x`: `x - x*x <= 0`, then `-x*x - x <= 0`
abbrev pub square_rows : List Col → List (Option Row)
square_rows [] = []
square_rows (x ∷ []) = []
square_rows (x ∷ y ∷ []) =
    if eq_by_cmp col_cmp x y then row_of (below_square x) ∷ row_of (above_square x) ∷ [] else []
square_rows (x ∷ y ∷ z ∷ m) = []

-- ---- products: of two numbers that are not positive the product is not negative

-- a row of the kind with the terms is an inequality of degree 1 that has a column of the monomials
abbrev pub is_factor_by : Kind → List (List Col) → Terms → Bool
is_factor_by AtMost monos terms =
    list_all (λ t. length t.0 == 1) terms && list_any (λ t. list_any (occurs_in monos) t.0) terms
is_factor_by Equal monos terms = false

-- the row is an inequality of degree 1 that has a column of the monomials
abbrev pub is_factor : List (List Col) → Row → Bool
is_factor monos row = is_factor_by row.kind monos row.poly.terms

-- the polynomials of such rows
abbrev pub factors : List (List Col) → List Row → List Polynomial
factors monos rows = map (λ row. row.poly) (filter (is_factor monos) rows)

-- minus the product
abbrev pub minus_product : Polynomial → Polynomial → Made
minus_product p q = negative_of (Ok p ⊠ Ok q)

-- the row, if it has one of the monomials
abbrev pub with_one_of : List (List Col) → Option Row → Option Row
with_one_of monos None = None
with_one_of monos (Some row) = if has_one_of monos row.poly then Some row else None

-- the row that says that the product of two polynomials is not negative, if it has one of the
-- monomials
abbrev pub product_row : List (List Col) → Polynomial → Polynomial → Option Row
product_row monos p q = with_one_of monos (row_of (minus_product p q))

-- of each polynomial and itself, and each behind it
abbrev pub product_rows : List (List Col) → List Polynomial → List (Option Row)
product_rows monos [] = []
product_rows monos (p ∷ ps) = map (product_row monos p) (p ∷ ps) ++ product_rows monos ps

-- ---- together

-- both are inequalities, or both are equations
abbrev pub same_kind : Kind → Kind → Bool
same_kind AtMost AtMost = true
same_kind AtMost Equal = false
same_kind Equal AtMost = false
same_kind Equal Equal = true

-- the same polynomial, and both inequalities or both equations
abbrev pub same_row : Row → Row → Bool
same_row r s = poly_eq r.poly s.poly && same_kind r.kind s.kind

-- rows that are not among those before, each once
abbrev pub new_rows : (before rows : List Row) → List Row
new_rows before [] = []
new_rows before (r ∷ rows) =
    if list_any (same_row r) before then new_rows before rows
    else r ∷ new_rows (before ++ r ∷ []) rows

-- all rows of squares, then all of products
abbrev pub offers_of : List (List Col) → List Row → List (Option Row)
offers_of monos rows = flat_map square_rows monos ++ product_rows monos (factors monos rows)

-- the first of those that the rows have not
abbrev pub products : List Row → List Row
products rows =
    take most_products (new_rows rows (filter_map (λ row. row) (offers_of (high_monos rows) rows)))
