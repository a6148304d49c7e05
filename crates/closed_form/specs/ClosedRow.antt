-- The rows of Newton's forward difference formula and of the sum of a progression, as the
-- operations on polynomials make them. The formulas are stated six times and twice over, so that
-- nothing is divided.
use Rattle.std.specs.Prelude.{ℤ, pos, Result, Ok}
use Rattle.linear_terms.specs.declared.col.Col.{Col}
use Rattle.linear_terms.specs.declared.error.TermError.{TermError}
use Rattle.linear_terms.specs.declared.row.Row.{Row}
use Rattle.linear_terms.specs.Expressions.{Made, ◌⊠◌, ◌⊟◌, whole, column, at_most, equation}
use Rattle.linear_terms.specs.Polynomial.{Polynomial}

-- 6 after - 6 before - 6 k d1 - 3 k (k - 1) d2 - k (k - 1) (k - 2) d3
abbrev pub closed_poly : Made → Made → Made → Made → Made → Made → Made
closed_poly after before d1 d2 d3 k =
    whole (pos 6) ⊠ after ⊟ whole (pos 6) ⊠ before ⊟ whole (pos 6) ⊠ k ⊠ d1
    ⊟ whole (pos 3) ⊠ k ⊠ (k ⊟ whole (pos 1)) ⊠ d2
    ⊟ k ⊠ (k ⊟ whole (pos 1)) ⊠ (k ⊟ whole (pos 2)) ⊠ d3

-- that it is zero
abbrev pub closed_row : (after before d1 d2 d3 : Polynomial) → Col → Result Row TermError
closed_row after before d1 d2 d3 k =
    equation (closed_poly (Ok after) (Ok before) (Ok d1) (Ok d2) (Ok d3) (column k))

-- 2 change - 2 k s - e k (k - 1) - 2 c k
abbrev pub sum_poly : Made → Made → ℤ → ℤ → Made → Made
sum_poly change s e c k =
    whole (pos 2) ⊠ change ⊟ whole (pos 2) ⊠ k ⊠ s ⊟ whole e ⊠ k ⊠ (k ⊟ whole (pos 1)) ⊟ whole
    (pos 2) ⊠ whole c ⊠ k

-- that it is not positive
abbrev pub sum_row : (change s : Polynomial) → (e c : ℤ) → Col → Result Row TermError
sum_row change s e c k = at_most (sum_poly (Ok change) (Ok s) e c (column k))
