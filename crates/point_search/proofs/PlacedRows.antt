-- Rows that are put at a place, one after another.
use Rattle.std.proofs.Common.{◌≡◌, ◌+◌, ℕ, Bool, true, false, ◌&&◌, List, [], ◌∷◌, ◌++◌, refl, sym, ap, subst, ◌∙◌, arith, length}
use Rattle.std.specs.Prelude.{IsTrue, not, nat_lt}
use Rattle.std.specs.List.{AllByRecursion}
use Rattle.std.proofs.lemmas.Bool.{and_parts, ltb-true}
use Rattle.std.proofs.lemmas.List.{length-append}
use Rattle.items.proofs.Each.{each-append}
use Rattle.linear_terms.specs.declared.row.Row.{Row}
use Rattle.transition_formula.specs.Transition.{every_column, is_below}
use Rattle.point_rows.specs.Reading.{AreOverColumns}
use Rattle.point_candidates.proofs.OverRows.{over-one}
use Rattle.point_rounds.specs.Table.{ArePlaced}
use Rattle.point_search.specs.Shapes.{ArePlacedAt, ArePlacedUnless}

-- ---- rows

-- no rows are placed
pub placed-none : (columns : ℕ) → ArePlaced columns []
placed-none columns = record { few = omega arith; over = refl }

pub unless-none : (none : Bool) (columns : ℕ) (rows : List Row) → rows ≡ [] → ArePlacedUnless none columns rows
unless-none none columns rows e = record { placed = subst (ArePlaced columns) (sym e) (placed-none columns); no_rows = λ is. e }

-- a row more, where it may stand
pub unless-more : (none : Bool) (columns : ℕ) (rows read new : List Row) (row : Row) (may : Bool) → ArePlacedUnless none columns rows → read ≡ rows
    → may ≡ (not none && (nat_lt (length read) 96 && every_column (is_below columns 0) row.poly)) → may ≡ true → new ≡ rows ++ row ∷ [] → ArePlacedUnless none columns new
unless-more none columns rows read new row may placed same means is e =
    let all = and_parts (not none) (nat_lt (length read) 96 && every_column (is_below columns 0) row.poly) (sym means ∙ is) in
    let parts = and_parts (nat_lt (length read) 96) (every_column (is_below columns 0) row.poly) all.1 in
    let room = ltb-true (length read) 96 parts.0 in
    let as_long = ap length same in
    let long : length new ≡ length rows + 1 = ap length e ∙ length-append rows (row ∷ []) in
    record {
      placed = record {
        few = omega (arith, room, long, as_long);
        over = subst (AreOverColumns columns) (sym e) (over-one columns rows row placed.placed.over parts.1);
      };
      no_rows = λ none_is. absurd (no none none_is all.0);
    }
  where
    no : (b : Bool) → b ≡ true → IsTrue (not b) → ⊥
    no true e h = absurd (cc)
    no false e h = absurd (cc)

-- ---- lists

pub placed_at-none : (columns : ℕ) (lists : List (List Row)) → lists ≡ [] → ArePlacedAt 0 columns lists
placed_at-none columns lists e = record { long = ap length e; placed = subst (AllByRecursion (ArePlaced columns)) (sym e) tt }

-- a list more of those that are placed
pub placed_at-more : (count columns : ℕ) (lists new : List (List Row)) (none : Bool) (rows : List Row) → ArePlacedAt count columns lists → ArePlacedUnless none columns rows → new ≡ lists ++ rows ∷ [] → ArePlacedAt (count + 1) columns new
placed_at-more count columns lists new none rows made one e = record {
  long = ap length e ∙ length-append lists (rows ∷ []) ∙ ap (λ n. n + 1) made.long;
  placed = subst (AllByRecursion (ArePlaced columns)) (sym e) (each-append (ArePlaced columns) lists (rows ∷ []) made.placed (one.placed, tt));
}
