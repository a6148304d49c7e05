-- Rows with their numbers, by places.
use Rattle.std.proofs.Common.{◌≡◌, ℕ, zero, suc, ◌+◌, ◌<◌, List, [], ◌∷◌, length, get_or, refl, ap, arith}
use Rattle.std.proofs.lemmas.Option.{slice_get_read}
use Rattle.items.proofs.Each.{each-get, each_from_test}
use Rattle.linear_terms.specs.declared.row.Row.{Row}
use Rattle.transition_formula.specs.Transition.{every_column, is_below}
use Rattle.point_rows.specs.Reading.{AreOverColumns, IsOverColumns}
use Rattle.point_rounds.specs.Rounds.{with_numbers_from}

pub numbered-long : (n : ℕ) (rows : List Row) → length (with_numbers_from n rows) ≡ length rows
numbered-long n [] = refl
numbered-long n (row ∷ rows) = ap suc (numbered-long (n + 1) rows)

numbered-from : (n i number : ℕ) → n + i ≡ number → (rows : List Row) (row : Row) → i < length rows → row ≡ get_or rows i row → (number, row) ≡ get_or (with_numbers_from n rows) i (number, row)
numbered-from n i number sum [] row lt is = absurd (omega (arith, lt))
numbered-from n zero number sum (first ∷ rows) row lt is = let same : number ≡ n = omega (arith, sum) in λ j. (same j, is j)
numbered-from n (suc i) number sum (first ∷ rows) row lt is = numbered-from (n + 1) i number (omega (arith, sum)) rows row (omega (arith, lt)) is

pub numbered-at : (rows : List Row) (i : ℕ) (row : Row) → i < length rows → row ≡ get_or rows i row → (i, row) ≡ get_or (with_numbers_from 0 rows) i (i, row)
numbered-at rows i row lt is = numbered-from 0 i i (omega arith) rows row lt is

-- each of the rows is over the columns
pub over-at : (columns : ℕ) (rows : List Row) (i : ℕ) (row : Row) → AreOverColumns columns rows → i < length rows → row ≡ get_or rows i row → IsOverColumns columns row
over-at columns rows i row over lt is =
    each-get (IsOverColumns columns) rows i row (each_from_test (λ (r : Row). every_column (is_below columns 0) r.poly) (IsOverColumns columns) (λ r h. h) rows over) (slice_get_read rows (length rows) i row refl lt is)
