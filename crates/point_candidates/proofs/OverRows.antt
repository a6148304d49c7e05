-- Rows over columns, one after another.
use Rattle.std.proofs.Common.{◌≡◌, ℕ, Bool, true, false, ◌&&◌, List, [], ◌∷◌, ◌++◌, refl, sym, subst, ◌∙◌}
use Rattle.std.specs.Prelude.{IsTrue, ◌↔◌, All}
use Rattle.std.specs.List.{list_all}
use Rattle.linear_terms.specs.declared.row.Row.{Row}
use Rattle.linear_terms.specs.Replacement.{IsBelow}
use Rattle.transition_formula.specs.Transition.{every_column, is_below}
use Rattle.transition_formula.proofs.ColumnTests.{both_true, every_column_decides}
use Rattle.point_rows.specs.Reading.{AreOverColumns}

-- one row more
pub over-one : (columns : ℕ) (rows : List Row) (row : Row) → AreOverColumns columns rows → IsTrue (every_column (is_below columns 0) row.poly) → AreOverColumns columns (rows ++ row ∷ [])
over-one columns [] row over one = both_true (every_column (is_below columns 0) row.poly) true one refl
over-one columns (first ∷ rows) row over one = by (every_column (is_below columns 0) first.poly) over (over-one columns rows row)
  where
    by : (b : Bool) → IsTrue (b && list_all (λ (r : Row). every_column (is_below columns 0) r.poly) rows)
        → (AreOverColumns columns rows → IsTrue (every_column (is_below columns 0) row.poly) → AreOverColumns columns (rows ++ row ∷ []))
        → IsTrue (b && list_all (λ (r : Row). every_column (is_below columns 0) r.poly) (rows ++ row ∷ []))
    by true more next = next more one
    by false none next = none

-- one more, of which a test tells that it is over the columns
pub over-covered : (columns : ℕ) (rows new : List Row) (row : Row) (covered : Bool) → AreOverColumns columns rows → (IsTrue covered ↔ All (λ t. All (IsBelow columns 0) t.0) row.poly.terms) → covered ≡ true
    → new ≡ rows ++ row ∷ [] → AreOverColumns columns new
over-covered columns rows new row covered over decides is e =
    subst (AreOverColumns columns) (sym e) (over-one columns rows row over (sym (every_column_decides columns 0 row.poly covered decides) ∙ is))
