-- Rows, when they hold, and their normal form.
use Rattle.std.specs.Prelude.{◌≡◌, ℤ, pos, negsuc, ◌≤ℤ◌, ◌<ℤ◌, ◌↔◌, IsTrue, int_le, int_lt, int_div, unsigned_abs, ℕ, All, List, [], ◌∷◌, map, Bool, false, Result, Ok, Err, if◌then◌else◌}
use Rattle.std.specs.List.{AllByRecursion}
use Rattle.std.specs.Ordering.{int_eq}
use Rattle.std.specs.Map.{values_of}
use Rattle.items.specs.Gives.{◌>>=◌}
use Rattle.whole_numbers.specs.Divisors.{divides, gcd_of_all, ceiling_of}
use Rattle.linear_terms.specs.declared.row.Kind.{Kind}
use Rattle.linear_terms.specs.declared.row.Kind.TheVariants.{AtMost, Equal}
use Rattle.linear_terms.specs.declared.row.Row.{Row}
use Rattle.linear_terms.specs.declared.row.Normal.{Normal}
use Rattle.linear_terms.specs.declared.row.Normal.TheVariants.{Constant, Kept}
use Rattle.linear_terms.specs.declared.error.TermError.{TermError}
use Rattle.linear_terms.specs.TermError.{times}
use Rattle.linear_terms.specs.Polynomial.{Terms, Polynomial, IsCanonical}
use Rattle.linear_terms.specs.Operations.{multiple_of}
use Rattle.linear_terms.specs.Value.{Valuation, value_of}

-- a number stands as a row of the kind asks
abbrev pub IsWithin : Kind → ℤ → Type 0
IsWithin AtMost z = z ≤ℤ pos 0
IsWithin Equal z = z ≡ pos 0

-- the row is true under numbers for its columns
abbrev pub RowHolds : Valuation → Row → Type 0
RowHolds at row = IsWithin row.kind (value_of at row.poly)

-- each of the rows is true
abbrev pub RowsHold : Valuation → List Row → Type 0
RowsHold at rows = AllByRecursion (RowHolds at) rows

-- each of the rows has its monomials in print order, each once, with coefficients that are not zero
abbrev pub AreCanonical : List Row → Type 0
AreCanonical rows = All (λ (row : Row). IsCanonical row.poly.terms) rows

-- the same test for a number that is known
abbrev pub is_within : Kind → ℤ → Bool
is_within AtMost z = int_le z (pos 0)
is_within Equal z = int_eq z (pos 0)

-- the terms with each coefficient divided by a number that divides them all
abbrev pub divided_terms : ℕ → Terms → Terms
divided_terms d ts = map (λ t. (t.0, int_div t.1 (pos d))) ts

-- the first coefficient is negative
abbrev pub starts_negative : Terms → Bool
starts_negative [] = false
starts_negative (t ∷ ts) = int_lt t.1 (pos 0)

-- the signs turned where the first coefficient is negative
abbrev pub with_positive_first : Polynomial → Result Polynomial TermError
with_positive_first p = if starts_negative p.terms then multiple_of p (negsuc 0) else Ok p

-- of a row with columns, by the greatest common divisor g of its coefficients
abbrev pub reduced_row : Kind → ℕ → Polynomial → Result Normal TermError
reduced_row AtMost g p =
    Ok (Kept record {
      poly = record { terms = divided_terms g p.terms; rest = ceiling_of p.rest g };
      kind = AtMost;
    })
reduced_row Equal g p =
    if divides g (unsigned_abs p.rest)
    then (with_positive_first record {
      terms = divided_terms g p.terms;
      rest = int_div p.rest (pos g);
    } >>= λ q. Ok (Kept record { poly = q; kind = Equal }))
    else Ok (Constant false)

-- A row without columns is true or false. Else the coefficients are divided by their greatest
-- common divisor; the constant of an inequality is rounded up, an equation whose constant is not
-- divisible is false, and its first coefficient is made positive.
abbrev pub normal_form : Row → Result Normal TermError
normal_form row = of_terms row.poly.terms
  where
    of_terms : Terms → Result Normal TermError
    of_terms [] = Ok (Constant (is_within row.kind row.poly.rest))
    of_terms (t ∷ ts) = reduced_row row.kind (gcd_of_all (values_of row.poly.terms)) row.poly

-- ---- what a normal form is

-- what is answered is true exactly where the row is
abbrev pub SaysAsMuch : Valuation → Row → Normal → Type 0
SaysAsMuch at row (Constant holds) = IsTrue holds ↔ RowHolds at row
SaysAsMuch at row (Kept other) = RowHolds at other ↔ RowHolds at row

-- the first coefficient is positive
abbrev pub StartsPositive : Terms → Type 0
StartsPositive [] = ⊥
StartsPositive (t ∷ ts) = pos 0 <ℤ t.1

-- the coefficients have no common divisor but 1, and that of an equation's first monomial is
-- positive
abbrev pub IsNormal : Normal → Type 0
IsNormal (Constant holds) = Unit {0}
IsNormal (Kept row) = (gcd_of_all (values_of row.poly.terms) ≡ 1)
    × (row.kind ≡ Equal → StartsPositive row.poly.terms)

-- the monomials of a row that is kept stand in print order, each once, and no coefficient is zero
abbrev pub HasCanonicalTerms : Normal → Type 0
HasCanonicalTerms (Constant holds) = Unit {0}
HasCanonicalTerms (Kept row) = IsCanonical row.poly.terms

-- the fault of a number whose sign cannot be turned
abbrev pub IsTurnFault : TermError → Type 0
IsTurnFault e = (number : ℤ) × (times number (negsuc 0) ≡ Err e)
