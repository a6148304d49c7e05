-- What rows that are read say of the numbers of the posts.
use Rattle.std.specs.Prelude.{◌≡◌, ◌⊎◌, ℕ, ℤ, List, [], ◌∷◌, Some, length, map, IsTrue}
use Rattle.std.specs.List.{list_all}
use Rattle.linear_terms.specs.declared.row.Row.{Row}
use Rattle.linear_terms.specs.Polynomial.{Polynomial}
use Rattle.linear_terms.specs.Row.{AreCanonical, RowHolds, RowsHold}
use Rattle.linear_terms.specs.Value.{Valuation, value_of}
use Rattle.transition_formula.specs.Transition.{every_column, is_below}
use Rattle.point_rows.specs.Reading.{AreOverColumns, AreTrueOf, contraries_of, given_rows}

-- one of the rows is true
abbrev pub SomeRowHolds : Valuation → List Row → Type 0
SomeRowHolds at [] = ⊥
SomeRowHolds at (row ∷ rows) = RowHolds at row ⊎ SomeRowHolds at rows

-- Where the posts have the numbers of a state, the own rows are true, and the rows are true of the
-- state, none of these is false, and what is given is true.
abbrev pub GivenRowsHold : Type 0
GivenRowsHold = (at : Valuation) (posts : List Polynomial) (state : List ℤ)
    → map (value_of at) posts ≡ state → (own rows : List Row) → RowsHold at own
    → AreTrueOf rows state
    → (all : List Row) × (given_rows posts own rows ≡ Some all) × RowsHold at all

-- Where the posts and the own rows have no entry columns but so many and no auxiliaries but so
-- many, what is given has no others.
abbrev pub GivenRowsFit : Type 0
GivenRowsFit = (columns aux : ℕ) (posts : List Polynomial) (own rows all : List Row)
    → IsTrue (list_all (every_column (is_below columns aux)) posts)
    → IsTrue (list_all (λ row. every_column (is_below columns aux) row.poly) own)
    → AreOverColumns (length posts) rows → given_rows posts own rows ≡ Some all
    → IsTrue (list_all (λ row. every_column (is_below columns aux) row.poly) all)

-- Where the monomials of the own rows stand in print order, so do those of what is given.
abbrev pub GivenRowsAreCanonical : Type 0
GivenRowsAreCanonical = (posts : List Polynomial) (own rows all : List Row) → AreCanonical own
    → given_rows posts own rows ≡ Some all → AreCanonical all

-- Where the posts have the numbers of a state and contraries of a row are made, the row is true of
-- the state or one of them is true.
abbrev pub ContrariesDecide : Type 0
ContrariesDecide = (at : Valuation) (posts : List Polynomial) (state : List ℤ)
    → map (value_of at) posts ≡ state → (row : Row) (contraries : List Row)
    → contraries_of posts row ≡ Some contraries
    → AreTrueOf (row ∷ []) state ⊎ SomeRowHolds at contraries

-- So one of them is true where the row is not true of the state.
abbrev pub ContrariesHold : Type 0
ContrariesHold = (at : Valuation) (posts : List Polynomial) (state : List ℤ)
    → map (value_of at) posts ≡ state → (row : Row) (contraries : List Row)
    → contraries_of posts row ≡ Some contraries
    → (AreTrueOf (row ∷ []) state → ⊥) → SomeRowHolds at contraries

-- And where the row is true of the state, none of them is.
abbrev pub ContrariesExclude : Type 0
ContrariesExclude = (at : Valuation) (posts : List Polynomial) (state : List ℤ)
    → map (value_of at) posts ≡ state → (row : Row) (contraries : List Row)
    → contraries_of posts row ≡ Some contraries
    → AreTrueOf (row ∷ []) state → SomeRowHolds at contraries → ⊥
