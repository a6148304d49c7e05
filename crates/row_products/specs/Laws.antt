-- What products of rows are good for: a question with them in place of the rows alone.
use Rattle.std.specs.Prelude.{◌↔◌, List, ◌++◌}
use Rattle.linear_terms.specs.declared.row.Row.{Row}
use Rattle.linear_terms.specs.Row.{RowsHold}
use Rattle.linear_terms.specs.Value.{Valuation}
use Rattle.row_products.specs.Products.{products}

-- whole numbers that make the rows true make their products true
abbrev pub ProductsAreTrue : Type 0
ProductsAreTrue = (at : Valuation) (rows : List Row) → RowsHold at rows
    → RowsHold at (products rows)

-- some whole numbers make each of the rows true
abbrev pub HasWholePoint : List Row → Type 0
HasWholePoint rows = (at : Valuation) × RowsHold at rows

-- so rows with their products have a whole point exactly where the rows have one
abbrev pub ProductsKeepPoints : Type 0
ProductsKeepPoints = (rows : List Row) → HasWholePoint (rows ++ products rows) ↔ HasWholePoint rows
