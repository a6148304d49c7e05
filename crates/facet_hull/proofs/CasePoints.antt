-- The rational points of a case as vectors of its cone, and the other way round.
use Rattle.std.proofs.Common.{◌≡◌, ℕ, zero, suc, ◌+◌, false, cond, refl, sym, ap, subst, ◌∙◌, arith, List, [], ◌∷◌, ◌++◌, length, map, ℤ, pos, negsuc, ◌+ℤ◌, ◌*ℤ◌, ◌≤ℤ◌, ◌<ℤ◌}
use Rattle.std.specs.Prelude.{neg_ℤ, take}
use Rattle.std.specs.List.{AllByRecursion, flat_map}
use Rattle.std.specs.Ordering.{eq_by_cmp, is_eq}
use Rattle.std.specs.declared.cmp.Ordering.TheVariants.{Less}
use Rattle.std.proofs.lemmas.Int.{ints}
use Rattle.std.proofs.lemmas.List.Elements.{recursion_from_All}
use Rattle.std.proofs.Math.IntN.{zero-*ℤ}
use Rattle.items.proofs.Each.{each-front, each-back, each-flat_map}
use Rattle.whole_numbers.specs.Dot.{dot}
use Rattle.linear_terms.specs.declared.col.Col.{Col}
use Rattle.linear_terms.specs.declared.row.Kind.{Kind}
use Rattle.linear_terms.specs.declared.row.Kind.TheVariants.{AtMost, Equal}
use Rattle.linear_terms.specs.declared.row.Row.{Row}
use Rattle.linear_terms.specs.Mono.{mono_cmp}
use Rattle.linear_terms.specs.Polynomial.{Polynomial, IsCanonical, coefficient_in}
use Rattle.linear_terms.specs.Row.{IsWithin}
use Rattle.farkas_check.specs.Frames.{line_of}
use Rattle.farkas_check.specs.Kept.{IsCanonicalChange}
use Rattle.farkas_check.specs.Rational.{RationalPoint, sum_at, Meets}
use Rattle.farkas_check.specs.Relations.{case_monos, entry}
use Rattle.farkas_check.specs.declared.stratum.Change.{Change}
use Rattle.farkas_check.proofs.Differences.{IsOver}
use Rattle.farkas_check.proofs.Spreads.{itself, RowsAmong, spread, terms_at-spread}
use Rattle.farkas_check.proofs.Vanishing.{PolysAmong, IsCaseAmong, cases_among}
use Rattle.farkas_check.proofs.Walks.{IsBefore, IsOrdered, IsOrdered-columns}
use Rattle.cones.specs.Spans.{AreAtMost}
use Rattle.cones.specs.Vectors.{opposite}
use Rattle.cones.proofs.Dots.{dot-opposite}
use Rattle.cones.proofs.Hulls.{dot_comm}
use Rattle.facet_hull.specs.Changes.{changes_at}
use Rattle.facet_hull.specs.Images.{columns_of, far, lines_by, row_lines, cone_lines, image}

-- ---- the columns of a case

-- the columns are in order, and the case's polynomials are over them
pub record IsReady (cs : List (List Col)) (case : Change) : Type 0 where
  pub ordered : IsOrdered cs
  pub rows : AllByRecursion (λ (row : Row). IsOver cs row.poly) case.rows
  pub terms : AllByRecursion (IsOver cs) case.terms

rows_over : (cs : List (List Col)) (rows : List Row) → AllByRecursion (λ (row : Row). IsCanonical row.poly.terms) rows → RowsAmong rows cs → AllByRecursion (λ (row : Row). IsOver cs row.poly) rows
rows_over cs [] h k = tt
rows_over cs (row ∷ rows) h k = (record { canonical = h.0; among = k.0 }, rows_over cs rows h.1 k.1)

polys_over : (cs : List (List Col)) (ps : List Polynomial) → AllByRecursion (λ (p : Polynomial). IsCanonical p.terms) ps → PolysAmong ps cs → AllByRecursion (IsOver cs) ps
polys_over cs [] h k = tt
polys_over cs (p ∷ ps) h k = (record { canonical = h.0; among = k.0 }, polys_over cs ps h.1 k.1)

pub case-ready : (case : Change) → IsCanonicalChange case → IsReady (columns_of case) case
case-ready case h = record {
  ordered = IsOrdered-columns (case_monos (case ∷ []) []);
  rows = rows_over (columns_of case) case.rows (recursion_from_All (λ (row : Row). IsCanonical row.poly.terms) case.rows h.rows) among.rows;
  terms = polys_over (columns_of case) case.terms (recursion_from_All (λ (p : Polynomial). IsCanonical p.terms) case.terms h.terms) among.terms;
}
  where
    among : IsCaseAmong (columns_of case) case
    among = (cases_among (case ∷ []) []).0

-- ---- a point as a vector

-- its numerators at the columns, and the denominator
abbrev pub vector_of : List (List Col) → RationalPoint → List ℤ
vector_of cs point = map point.numerator cs ++ point.over ∷ []

dot-line : (cs : List (List Col)) (p : Polynomial) (x : List Col → ℤ) (d : ℤ) → dot (line_of cs p) (map x cs ++ d ∷ []) ≡ spread (coefficient_in p.terms) x cs +ℤ p.rest *ℤ d
dot-line [] p x d = last (p.rest *ℤ d)
  where
    last : (z : ℤ) → z +ℤ pos 0 ≡ pos 0 +ℤ z
    last z = omega (arith, ints)
dot-line (c ∷ cs) p x d = ap (λ z. coefficient_in p.terms c *ℤ x c +ℤ z) (dot-line cs p x d) ∙ group (coefficient_in p.terms c *ℤ x c) (spread (coefficient_in p.terms) x cs) (p.rest *ℤ d)
  where
    group : (a b c : ℤ) → a +ℤ (b +ℤ c) ≡ a +ℤ b +ℤ c
    group a b c = omega (arith, ints)

pub line-sum : (cs : List (List Col)) (p : Polynomial) (point : RationalPoint) → IsOrdered cs → IsOver cs p → dot (line_of cs p) (vector_of cs point) ≡ sum_at point p
line-sum cs p point o h = dot-line cs p point.numerator point.over ∙ ap (λ z. z +ℤ p.rest *ℤ point.over) (sym (terms_at-spread point.numerator cs p.terms o h.canonical h.among))

pub image-changes : (cs : List (List Col)) (terms : List Polynomial) (point : RationalPoint) → IsOrdered cs → AllByRecursion (IsOver cs) terms → image cs terms (vector_of cs point) ≡ changes_at terms point
image-changes cs [] point o h = refl
image-changes cs (p ∷ terms) point o h = rw (line-sum cs p point o h.0, image-changes cs terms point o h.1) refl

-- ---- the denominator

pub far-is : (n : ℕ) (v : List ℤ) → dot (far n) v ≡ neg_ℤ (entry v n)
far-is zero [] = refl
far-is zero (x ∷ xs) = minus x
  where
    minus : (z : ℤ) → negsuc 0 *ℤ z +ℤ pos 0 ≡ neg_ℤ z
    minus z = omega (arith, ints)
far-is (suc n) [] = refl
far-is (suc n) (x ∷ xs) = plain (pos 0 *ℤ x) (dot (far n) xs) (zero-*ℤ x) ∙ far-is n xs
  where
    plain : (x y : ℤ) → x ≡ pos 0 → x +ℤ y ≡ y
    plain x y e = omega (arith, ints)

pub denominator : (cs : List (List Col)) (x : List Col → ℤ) (d : ℤ) → entry (map x cs ++ d ∷ []) (length cs) ≡ d
denominator [] x d = refl
denominator (c ∷ cs) x d = denominator cs x d

-- ---- rows as lines

lines_by-hold : (kind : Kind) (line v : List ℤ) → IsWithin kind (dot line v) → AreAtMost (lines_by kind line) (λ l. dot l v)
lines_by-hold AtMost line v h = (h, tt)
lines_by-hold Equal line v h = (at_most (dot line v) h, (subst (λ z. z ≤ℤ pos 0) (sym turned) (minus (dot line v) h), tt))
  where
    turned : dot (opposite line) v ≡ neg_ℤ (dot line v)
    turned = dot_comm (opposite line) v ∙ dot-opposite v line ∙ ap neg_ℤ (dot_comm v line)

    at_most : (z : ℤ) → z ≡ pos 0 → z ≤ℤ pos 0
    at_most z e = omega (arith, ints)

    minus : (z : ℤ) → z ≡ pos 0 → neg_ℤ z ≤ℤ pos 0
    minus z e = omega (arith, ints)

lines_by-within : (kind : Kind) (line v : List ℤ) → AreAtMost (lines_by kind line) (λ l. dot l v) → IsWithin kind (dot line v)
lines_by-within AtMost line v h = h.0
lines_by-within Equal line v h = both (dot line v) h.0 (subst (λ z. z ≤ℤ pos 0) turned h.1.0)
  where
    turned : dot (opposite line) v ≡ neg_ℤ (dot line v)
    turned = dot_comm (opposite line) v ∙ dot-opposite v line ∙ ap neg_ℤ (dot_comm v line)

    both : (z : ℤ) → z ≤ℤ pos 0 → neg_ℤ z ≤ℤ pos 0 → z ≡ pos 0
    both z h k = omega (arith, ints)

pub rows-hold : (cs : List (List Col)) (rows : List Row) (point : RationalPoint) → IsOrdered cs → AllByRecursion (λ (row : Row). IsOver cs row.poly) rows → Meets point rows → AreAtMost (flat_map (row_lines cs) rows) (λ l. dot l (vector_of cs point))
rows-hold cs rows point o h m = each-flat_map (λ (row : Row). IsWithin row.kind (dot (line_of cs row.poly) (vector_of cs point))) (λ l. dot l (vector_of cs point) ≤ℤ pos 0) (row_lines cs) (λ row k. lines_by-hold row.kind (line_of cs row.poly) (vector_of cs point) k) rows (within rows h m)
  where
    within : (rows : List Row) → AllByRecursion (λ (row : Row). IsOver cs row.poly) rows → Meets point rows → AllByRecursion (λ (row : Row). IsWithin row.kind (dot (line_of cs row.poly) (vector_of cs point))) rows
    within [] h m = tt
    within (row ∷ rows) h m = (subst (IsWithin row.kind) (sym (line-sum cs row.poly point o h.0)) m.0, within rows h.1 m.1)

pub cone-holds : (cs : List (List Col)) (rows : List Row) (point : RationalPoint) → IsOrdered cs → AllByRecursion (λ (row : Row). IsOver cs row.poly) rows → Meets point rows → AreAtMost (cone_lines cs rows) (λ l. dot l (vector_of cs point))
cone-holds cs rows point o h m = (subst (λ z. z ≤ℤ pos 0) (sym (far-is (length cs) (vector_of cs point) ∙ ap neg_ℤ (denominator cs point.numerator point.over))) (below point.over point.positive), rows-hold cs rows point o h m)
  where
    below : (z : ℤ) → pos 0 <ℤ z → neg_ℤ z ≤ℤ pos 0
    below z h = omega (arith, ints)

pub rows-meet : (cs : List (List Col)) (rows : List Row) (point : RationalPoint) → IsOrdered cs → AllByRecursion (λ (row : Row). IsOver cs row.poly) rows → AreAtMost (flat_map (row_lines cs) rows) (λ l. dot l (vector_of cs point)) → Meets point rows
rows-meet cs [] point o h m = tt
rows-meet cs (row ∷ rows) point o h m = (
  subst (IsWithin row.kind) (line-sum cs row.poly point o h.0) (lines_by-within row.kind (line_of cs row.poly) (vector_of cs point) (each-front (λ l. dot l (vector_of cs point) ≤ℤ pos 0) (row_lines cs row) (flat_map (row_lines cs) rows) m)),
  rows-meet cs rows point o h.1 (each-back (λ l. dot l (vector_of cs point) ≤ℤ pos 0) (row_lines cs row) (flat_map (row_lines cs) rows) m),
)

-- ---- the point of a vector

-- the number that a vector has at a column; 0 at each other monomial
abbrev number_at : List (List Col) → List ℤ → List Col → ℤ
number_at [] xs m = pos 0
number_at (c ∷ cs) [] m = pos 0
number_at (c ∷ cs) (x ∷ xs) m = cond (eq_by_cmp mono_cmp c m) x (number_at cs xs m)

behind : (c : List Col) (cs : List (List Col)) (x : ℤ) (xs : List ℤ) (ds : List (List Col)) → IsBefore c ds → map (number_at (c ∷ cs) (x ∷ xs)) ds ≡ map (number_at cs xs) ds
behind c cs x xs [] b = refl
behind c cs x xs (d ∷ ds) b = rw (differs (mono_cmp c d) b.0, behind c cs x xs ds b.1) refl
  where
    differs : (o : _) → o ≡ Less → is_eq o ≡ false
    differs o e = ap is_eq e

numbers-listed : (cs : List (List Col)) (xs : List ℤ) → IsOrdered cs → length xs ≡ length cs → map (number_at cs xs) cs ≡ xs
numbers-listed [] [] o e = refl
numbers-listed [] (x ∷ xs) o e = absurd (omega (arith, e))
numbers-listed (c ∷ cs) [] o e = absurd (omega (arith, e))
numbers-listed (c ∷ cs) (x ∷ xs) o e = rw (itself c, behind c cs x xs cs o.0, numbers-listed cs xs o.1 (omega (arith, e))) refl

front_and_last : (n : ℕ) (v : List ℤ) → length v ≡ n + 1 → take n v ++ entry v n ∷ [] ≡ v
front_and_last n [] e = absurd (omega (arith, e))
front_and_last zero (x ∷ []) e = refl
front_and_last zero (x ∷ (y ∷ v)) e = absurd (omega (arith, e))
front_and_last (suc n) (x ∷ v) e = ap (λ (w : List ℤ). x ∷ w) (front_and_last n v (omega (arith, e)))

front-length : (n : ℕ) (v : List ℤ) → length v ≡ n + 1 → length (take n v) ≡ n
front-length n [] e = absurd (omega (arith, e))
front-length zero (x ∷ v) e = refl
front-length (suc n) (x ∷ v) e = ap (λ (k : ℕ). suc k) (front-length n v (omega (arith, e)))

-- a rational point that a vector is
pub record IsPointOf (cs : List (List Col)) (v : List ℤ) : Type 0 where
  pub point : RationalPoint
  pub is : vector_of cs point ≡ v

pub vector-point : (cs : List (List Col)) (v : List ℤ) → IsOrdered cs → length v ≡ length cs + 1 → pos 0 <ℤ entry v (length cs) → IsPointOf cs v
vector-point cs v o e p = record {
  point = record { numerator = number_at cs (take (length cs) v); over = entry v (length cs); positive = p };
  is = ap (λ (xs : List ℤ). xs ++ entry v (length cs) ∷ []) (numbers-listed cs (take (length cs) v) o (front-length (length cs) v e)) ∙ front_and_last (length cs) v e;
}
