-- How polynomials and rows are written.
use Rattle.std.specs.Prelude.{ℕ, ℤ, pos, ◌+◌, Bool, true, false, ◌==◌, int_lt, unsigned_abs, decimal, List, [], ◌∷◌, ◌++◌, codes, if◌then◌else◌}
use Rattle.std.specs.List.{flat_map}
use Rattle.std.specs.Ordering.{int_eq}
use Rattle.linear_terms.specs.declared.col.Col.{Col}
use Rattle.linear_terms.specs.declared.col.Col.TheVariants.{At, Aux}
use Rattle.linear_terms.specs.declared.row.Kind.{Kind}
use Rattle.linear_terms.specs.declared.row.Kind.TheVariants.{AtMost, Equal}
use Rattle.linear_terms.specs.declared.row.Row.{Row}
use Rattle.linear_terms.specs.Polynomial.{Terms, Polynomial}

-- a column where no names are known: an entry column by its number, and an auxiliary by its number
-- from 1
abbrev pub plain_name : Col → List ℕ
plain_name (At number) = codes "x" ++ decimal number
plain_name (Aux number) = codes "$" ++ decimal (number + 1)

-- ---- polynomials, whose columns have names: terms in print order, joined by ` + ` and ` - `

-- the columns of a monomial, joined by `*`
abbrev pub mono_text : (Col → List ℕ) → List Col → List ℕ
mono_text name [] = []
mono_text name (c ∷ m) = name c ++ flat_map (λ d. codes "*" ++ name d) m

-- the sign of a term, which is the first or not, of a number that is negative or not
abbrev pub sign_text : Bool → Bool → List ℕ
sign_text true true = codes "-"
sign_text true false = []
sign_text false true = codes " - "
sign_text false false = codes " + "

-- a number before columns, without its sign; 1 is left out
abbrev pub size_text : ℕ → List ℕ
size_text n = if n == 1 then [] else decimal n ++ codes "*"

-- a term, which is the first or not, as its sign, its size and its columns
abbrev pub term_text : (Col → List ℕ) → Bool → List Col × ℤ → List ℕ
term_text name first t = sign_text first (int_lt t.1 (pos 0)) ++ size_text (unsigned_abs t.1)
    ++ mono_text name t.0

-- a constant, which stands first or not, as its sign and its size
abbrev pub constant_text : Bool → ℤ → List ℕ
constant_text first z = sign_text first (int_lt z (pos 0)) ++ decimal (unsigned_abs z)

-- the terms in their order; no text where there are none
abbrev pub terms_text : (Col → List ℕ) → Terms → List ℕ
terms_text name [] = []
terms_text name (t ∷ ts) = term_text name true t ++ flat_map (term_text name false) ts

-- the constant stands last; a zero is left out unless it stands alone
abbrev pub rest_text : Terms → ℤ → List ℕ
rest_text [] z = constant_text true z
rest_text (t ∷ ts) z = if int_eq z (pos 0) then [] else constant_text false z

-- a polynomial, its terms and then its constant
abbrev pub poly_text : (Col → List ℕ) → Polynomial → List ℕ
poly_text name p = terms_text name p.terms ++ rest_text p.terms p.rest

-- ---- rows

-- what stands behind the polynomial of a row of the kind
abbrev pub relation_text : Kind → List ℕ
relation_text AtMost = codes " <= 0"
relation_text Equal = codes " = 0"

-- a row, its polynomial and then ` <= 0` or ` = 0`
abbrev pub row_text : (Col → List ℕ) → Row → List ℕ
row_text name row = poly_text name row.poly ++ relation_text row.kind
