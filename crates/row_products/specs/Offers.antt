-- Rows as they are gathered one by one, while there is room.
use Rattle.std.specs.Prelude.{ℕ, List, [], ◌∷◌, ◌++◌, length, fold, Option, None, Some, Bool, ◌||◌, nat_le, if◌then◌else◌}
use Rattle.std.specs.List.{list_any}
use Rattle.linear_terms.specs.declared.row.Row.{Row}
use Rattle.row_products.specs.Products.{same_row}

-- there is room for no more than are made, or the row is there already
abbrev pub is_left_out : (most : ℕ) (rows made : List Row) → Row → Bool
is_left_out most rows made row =
    nat_le most (length made) || list_any (same_row row) rows || list_any (same_row row) made

-- the rows made, with one more that is offered, or none
abbrev pub with_offer : (most : ℕ) (rows : List Row) → List Row → Option Row → List Row
with_offer most rows made None = made
with_offer most rows made (Some row) =
    if is_left_out most rows made row then made else made ++ row ∷ []

-- the rows made, with each in turn that is offered, is not there yet and has room
abbrev pub with_offers : (most : ℕ) (rows : List Row) → List Row → List (Option Row) → List Row
with_offers most rows made offers = fold (with_offer most rows) made offers
