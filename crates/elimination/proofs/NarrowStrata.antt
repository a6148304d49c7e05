-- Which stratum questions are narrow, told case by case.
use Rattle.std.proofs.Common.{◌≡◌, ◌≤◌, Bool, true, List, [], ◌∷◌, ◌++◌, map, length, refl, arith}
use Rattle.std.specs.Prelude.{◌↔◌, All, IsTrue, Result, Ok, Err, IfOk}
use Rattle.std.specs.List.{AllByRecursion}
use Rattle.std.specs.Map.{keys_of}
use Rattle.std.proofs.lemmas.List.Elements.{recursion_from_All, All-from_recursion}
use Rattle.linear_terms.specs.declared.col.Col.{Col}
use Rattle.linear_terms.specs.declared.row.Row.{Row}
use Rattle.linear_terms.specs.Polynomial.{Polynomial}
use Rattle.farkas_check.specs.declared.question.Question.TheVariants.{Stratum}
use Rattle.farkas_check.specs.declared.stratum.Change.{Change}
use Rattle.farkas_check.specs.Columns.{in_print_order, columns, monos_of}
use Rattle.farkas_check.specs.Relations.{Changes, monos_before, case_monos}
use Rattle.farkas_check.specs.Sizes.{change_polys, row_count, HasRoom, IsNarrow, HasNumbersUpTo}
use Rattle.farkas_check.proofs.Spreads.{is_among, is_among-left, is_among-right}
use Rattle.elimination.specs.Narrow.{IsSmallChange, IsNarrowChange, IsSmallStratum}
use Rattle.elimination.specs.Rooms.{HasSmallRoom}
use Rattle.elimination.proofs.ColumnCounts.{fewer_columns}
use Rattle.elimination.proofs.NarrowCases.{polys_small, rows_small}

-- ---- polynomials

both_small : (xs ys : List Polynomial) → AllByRecursion (HasNumbersUpTo 4) xs → AllByRecursion (HasNumbersUpTo 4) ys → AllByRecursion (HasNumbersUpTo 4) (xs ++ ys)
both_small [] ys h k = k
both_small (x ∷ xs) ys h k = (h.0, both_small xs ys h.1 k)

parts_small : (xs ys : List Polynomial) → AllByRecursion (HasNumbersUpTo 4) (xs ++ ys) → AllByRecursion (HasNumbersUpTo 4) xs × AllByRecursion (HasNumbersUpTo 4) ys
parts_small [] ys h = (tt, h)
parts_small (x ∷ xs) ys h = let rest = parts_small xs ys h.1 in ((h.0, rest.0), rest.1)

-- ---- to the question

small_changes : (cases : List Change) (lower : List Polynomial) → AllByRecursion IsNarrowChange cases → AllByRecursion (HasNumbersUpTo 4) lower → AllByRecursion (HasNumbersUpTo 4) (change_polys cases lower)
small_changes [] lower h k = k
small_changes (case ∷ cases) lower h k =
    polys_small 4 case.rows (case.terms ++ change_polys cases lower) (recursion_from_All (λ (row : Row). HasNumbersUpTo 4 row.poly) case.rows h.0.small.rows.small)
    (both_small case.terms (change_polys cases lower) (recursion_from_All (HasNumbersUpTo 4) case.terms h.0.small.terms) (small_changes cases lower h.1 k))

change_rows : (cases : List Change) → AllByRecursion IsNarrowChange cases → AllByRecursion (λ rows. row_count rows ≤ 12) (map (λ (case : Change). case.rows) cases)
change_rows [] h = tt
change_rows (case ∷ cases) h = (h.0.small.rows.few_rows, change_rows cases h.1)

change_rooms : (cases : List Change) → AllByRecursion IsNarrowChange cases → AllByRecursion HasRoom cases
change_rooms [] h = tt
change_rooms (case ∷ cases) h = (record { point = h.0.point; free = h.0.free }, change_rooms cases h.1)

rows-length : (cases : List Change) → length (map (λ (case : Change). case.rows) cases) ≡ length cases
rows-length [] = refl
rows-length (case ∷ cases) = let e : length (map (λ (case : Change). case.rows) cases) ≡ length cases = rows-length cases in omega (arith, e)

changes_narrow : (asked : Changes) → IsSmallStratum asked.cases asked.lower → All IsNarrowChange asked.cases → IsNarrow (Stratum asked)
changes_narrow asked s h = let each : AllByRecursion IsNarrowChange asked.cases = recursion_from_All IsNarrowChange asked.cases h in record {
  slim = record { few_columns = (s.few_columns, tt); few_rows = change_rows asked.cases each };
  few_cases = let e : length (map (λ (case : Change). case.rows) asked.cases) ≡ length asked.cases = rows-length asked.cases in let f : length asked.cases ≤ 4294967296 = s.few_cases in omega (arith, e, f);
  small = small_changes asked.cases asked.lower each (recursion_from_All (HasNumbersUpTo 4) asked.lower s.lower_too);
  cases = (s.few_terms, change_rooms asked.cases each);
}

-- ---- from the question

lower_small : (cases : List Change) (lower : List Polynomial) → AllByRecursion (HasNumbersUpTo 4) (change_polys cases lower) → AllByRecursion (HasNumbersUpTo 4) lower
lower_small [] lower h = h
lower_small (case ∷ cases) lower h = lower_small cases lower (parts_small case.terms (change_polys cases lower) (rows_small 4 case.rows (case.terms ++ change_polys cases lower) h).1).1

pub narrow_small : (asked : Changes) → IsNarrow (Stratum asked) → IsSmallStratum asked.cases asked.lower
narrow_small asked n = record {
  few_columns = n.slim.few_columns.0;
  few_cases = let e : length (map (λ (case : Change). case.rows) asked.cases) ≡ length asked.cases = rows-length asked.cases in let f : length (map (λ (case : Change). case.rows) asked.cases) ≤ 4294967296 = n.few_cases in omega (arith, e, f);
  few_terms = n.cases.0;
  lower_too = All-from_recursion (HasNumbersUpTo 4) asked.lower (lower_small asked.cases asked.lower n.small);
}

changes_each : (cases : List Change) (lower : List Polynomial) (all : List (List Col)) → length (in_print_order all) ≤ 3 → ((m : List Col) → is_among m (case_monos cases lower) ≡ true → is_among m all ≡ true)
    → AllByRecursion (λ rows. row_count rows ≤ 12) (map (λ (case : Change). case.rows) cases) → AllByRecursion (HasNumbersUpTo 4) (change_polys cases lower) → AllByRecursion HasRoom cases → AllByRecursion IsNarrowChange cases
changes_each [] lower all few sub rows small rooms = tt
changes_each (case ∷ cases) lower all few sub rows small rooms =
    let parts = rows_small 4 case.rows (case.terms ++ change_polys cases lower) small in
    let rest = parts_small case.terms (change_polys cases lower) parts.1 in
    let fewer : length (columns case.rows []) ≤ length (in_print_order all) = fewer_columns (monos_of case.rows []) all (λ m h. sub m (is_among-left m (monos_of case.rows []) (monos_before (case_monos cases lower) case.terms) h)) in (
      record {
        small = record {
          rows = record { few_columns = omega (arith, fewer, few); few_rows = rows.0; small = All-from_recursion (λ (row : Row). HasNumbersUpTo 4 row.poly) case.rows parts.0 };
          terms = All-from_recursion (HasNumbersUpTo 4) case.terms rest.0;
        };
        point = rooms.0.point;
        free = rooms.0.free;
      },
      changes_each cases lower all few (λ m h. sub m (is_among-right m (monos_of case.rows []) (monos_before (case_monos cases lower) case.terms) (behind m case.terms h))) rows.1 rest.1 rooms.1,
    )
  where
    behind : (m : List Col) (ps : List Polynomial) → is_among m (case_monos cases lower) ≡ true → is_among m (monos_before (case_monos cases lower) ps) ≡ true
    behind m [] h = h
    behind m (p ∷ ps) h = is_among-right m (keys_of p.terms) (monos_before (case_monos cases lower) ps) (behind m ps h)

pub narrow_changes : (asked : Changes) → IsNarrow (Stratum asked) → All IsNarrowChange asked.cases
narrow_changes asked n = All-from_recursion IsNarrowChange asked.cases (changes_each asked.cases asked.lower (case_monos asked.cases asked.lower) n.slim.few_columns.0 (λ m h. h) n.slim.few_rows n.small n.cases.1)

-- ---- in a function's words

pub stratum_answer : {E : Type 0} (asked : Changes) (r : Result Bool E) → IsSmallStratum asked.cases asked.lower → IfOk r (λ b. IsTrue b ↔ All IsNarrowChange asked.cases) → IfOk r (λ b. IsTrue b ↔ IsNarrow (Stratum asked))
stratum_answer asked (Ok b) s h = (λ e. changes_narrow asked s (h.0 e), λ n. h.1 (narrow_changes asked n))
stratum_answer asked (Err e) s h = tt

pub change_answer : {E : Type 0} (case : Change) (r : Result Bool E) → IsSmallChange case → IfOk r (λ b. IsTrue b ↔ HasSmallRoom case.rows) → IfOk r (λ b. IsTrue b ↔ IsNarrowChange case)
change_answer case (Ok b) s h = (λ e. let room = h.0 e in record { small = s; point = room.point; free = room.free }, λ n. h.1 (record { point = n.point; free = n.free }))
change_answer case (Err e) s h = tt

pub narrow_change_small : (case : Change) → IsNarrowChange case → IsSmallChange case
narrow_change_small case n = n.small
