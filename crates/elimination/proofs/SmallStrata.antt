-- The basis of a stratum question of small numbers: what narrow gives, and inner points probe by
-- probe.
use Rattle.std.proofs.Common.{◌≡◌, ℕ, zero, suc, ◌+◌, ◌-◌, ◌<◌, ◌≤◌, List, [], ◌∷◌, ◌++◌, length, map, get_or, refl, sym, ap, subst, ◌∙◌, arith, ⊎_elim, inl, inr}
use Rattle.std.specs.Prelude.{◌⊎◌, ◌^◌, All, Option, Some, None, slice_get, Result, Ok, Err, IfOk}
use Rattle.std.specs.List.{AllByRecursion}
use Rattle.std.proofs.lemmas.List.Elements.{recursion_from_All, All-from_recursion}
use Rattle.std.proofs.lemmas.Option.{slice_get_read}
use Rattle.linear_terms.specs.declared.col.Col.{Col}
use Rattle.linear_terms.specs.declared.row.Row.{Row}
use Rattle.linear_terms.specs.Polynomial.{Polynomial}
use Rattle.farkas_check.specs.declared.answer.Answer.{Answer}
use Rattle.farkas_check.specs.declared.question.Question.TheVariants.{Stratum}
use Rattle.farkas_check.specs.declared.stratum.Change.{Change}
use Rattle.farkas_check.specs.Frames.{choice_count}
use Rattle.farkas_check.specs.Relations.{Changes, case_monos, stratum_columns}
use Rattle.farkas_check.specs.Sizes.{HasNumbersUpTo, IsDead, IsNarrow, IsSlim, row_count}
use Rattle.farkas_check.specs.Stratum.{rows_of}
use Rattle.farkas_check.proofs.Vanishing.{IsCaseAmong, cases_among}
use Rattle.farkas_check.proofs.Walks.{IsOrdered-columns}
use Rattle.simplex.specs.Strata.{PivotsOver, HasCaseOfManyChoices}
use Rattle.elimination.specs.declared.inner.Inner.{Inner}
use Rattle.elimination.specs.declared.kernel.Kernel.{Kernel}
use Rattle.elimination.specs.declared.probes.Probe.{Probe}
use Rattle.elimination.specs.Answers.{IsPivots}
use Rattle.elimination.specs.BasisParts.{AreInners}
use Rattle.elimination.specs.Narrow.{IsSmallChange, IsNarrowChange, IsSmallStratum}
use Rattle.elimination.specs.Probes.{IsProbe, IsInner, IsKernel}
use Rattle.elimination.specs.Rooms.{HasSmallRoom}
use Rattle.elimination.specs.SmallStrata.{LacksRoom, IsSmallOverColumns, AreProbes, AreInnersTo}
use Rattle.elimination.proofs.BasisFacts.{probe_at-place}
use Rattle.elimination.proofs.Narrowness.{few_rows, few_choices}
use Rattle.elimination.proofs.NarrowStrata.{narrow_small, narrow_changes}

-- ---- what narrow gives

pub not_small : (asked : Changes) → (IsSmallStratum asked.cases asked.lower → ⊥) → IsNarrow (Stratum asked) → ⊥
not_small asked without n = without (narrow_small asked n)

pub not_small_changes : (asked : Changes) → (All IsSmallChange asked.cases → ⊥) → IsNarrow (Stratum asked) → ⊥
not_small_changes asked without n = without (All-from_recursion IsSmallChange asked.cases (each asked.cases (recursion_from_All IsNarrowChange asked.cases (narrow_changes asked n))))
  where
    each : (cases : List Change) → AllByRecursion IsNarrowChange cases → AllByRecursion IsSmallChange cases
    each [] h = tt
    each (case ∷ cases) h = (h.0.small, each cases h.1)

pub lacking : (asked : Changes) → LacksRoom asked.cases → IsNarrow (Stratum asked) → ⊥
lacking asked without n = without n.cases.1

-- the rows of small cases stand over the columns of the question
pub cases_over : (cases : List Change) (lower : List Polynomial) → IsSmallStratum cases lower → All IsSmallChange cases → AllByRecursion (IsSmallOverColumns (stratum_columns cases lower)) cases
cases_over cases lower s h = each cases (cases_among cases lower) (recursion_from_All IsSmallChange cases h)
  where
    each : (xs : List Change) → AllByRecursion (IsCaseAmong (stratum_columns cases lower)) xs → AllByRecursion IsSmallChange xs → AllByRecursion (IsSmallOverColumns (stratum_columns cases lower)) xs
    each [] a k = tt
    each (case ∷ xs) a k = (record { small = k.0.rows; columns = record { few = s.few_columns; ordered = IsOrdered-columns (case_monos cases lower); among = a.0.rows } }, each xs a.1 k.1)

-- ---- the case of a probe

-- what a place past the probes reads as
abbrev pub nowhere : Probe
nowhere = record { case = 0; place = 0 }

pub case_there : (cs : List (List Col)) (cases : List Change) (probes : List Probe) (n : ℕ) (case : Change) → n < length probes → AreProbes cs cases probes → case ≡ get_or cases (get_or probes n nowhere).case case → slice_get cases (get_or probes n nowhere).case ≡ Some case
case_there cs cases probes n case h are is = slice_get_read cases (length cases) (get_or probes n nowhere).case case refl (probe_at-place cs cases probes n nowhere h are.probes_too).case is

over_at : (cs : List (List Col)) (cases : List Change) (place : ℕ) (case : Change) → AllByRecursion (IsSmallOverColumns cs) cases → slice_get cases place ≡ Some case → IsSmallOverColumns cs case
over_at cs [] place case all is = absurd (let f : slice_get [] place ≡ Some case = is in cc)
over_at cs (own ∷ cases) zero case all is = let f : Some own ≡ Some case = is in let same : own ≡ case = cc in subst (IsSmallOverColumns cs) same all.0
over_at cs (own ∷ cases) (suc place) case all is = over_at cs cases place case all.1 is

pub case_over : (cs : List (List Col)) (cases : List Change) (probes : List Probe) (n : ℕ) (case : Change) → n < length probes → AreProbes cs cases probes → case ≡ get_or cases (get_or probes n nowhere).case case → IsSmallOverColumns cs case
case_over cs cases probes n case h are is = over_at cs cases (get_or probes n nowhere).case case are.rows (case_there cs cases probes n case h are is)

-- a case without room is one of all
lacks_at : (cases : List Change) (place : ℕ) (case : Change) → slice_get cases place ≡ Some case → (HasSmallRoom case.rows → ⊥) → LacksRoom cases
lacks_at [] place case is without all = absurd (let f : slice_get [] place ≡ Some case = is in cc)
lacks_at (own ∷ cases) zero case is without all =
    let f : Some own ≡ Some case = is in let same : own ≡ case = cc in
    without (subst (λ (c : Change). HasSmallRoom c.rows) same (record { point = all.0.point; free = all.0.free }))
lacks_at (own ∷ cases) (suc place) case is without all = lacks_at cases place case is without all.1

pub room_lacks : (cs : List (List Col)) (cases : List Change) (probes : List Probe) (n : ℕ) (case : Change) → n < length probes → AreProbes cs cases probes → case ≡ get_or cases (get_or probes n nowhere).case case → (HasSmallRoom case.rows → ⊥) → LacksRoom cases
room_lacks cs cases probes n case h are is without = lacks_at cases (get_or probes n nowhere).case case (case_there cs cases probes n case h are is) without

pub terms_small : (cases : List Change) → All IsSmallChange cases → AllByRecursion (λ (case : Change). AllByRecursion (HasNumbersUpTo 4) case.terms) cases
terms_small cases h = each cases (recursion_from_All IsSmallChange cases h)
  where
    each : (xs : List Change) → AllByRecursion IsSmallChange xs → AllByRecursion (λ (case : Change). AllByRecursion (HasNumbersUpTo 4) case.terms) xs
    each [] k = tt
    each (case ∷ xs) k = (recursion_from_All (HasNumbersUpTo 4) case.terms k.0.terms, each xs k.1)

-- the probes of a kernel
pub kernel_probes : (cs own : List (List Col)) (cases others : List Change) (lower : List Polynomial) (kernel : Kernel) (probes : List Probe) → IsSmallStratum cases lower → All IsSmallChange cases → cs ≡ stratum_columns cases lower → own ≡ stratum_columns cases lower
    → others ≡ cases → probes ≡ kernel.probes → IsKernel cs cases lower kernel → AreProbes own others probes
kernel_probes cs own cases others lower kernel probes s h e f g k is =
    subst (λ (xs : List (List Col)). AreProbes xs others probes) (sym f) (subst (λ (all : List Change). AreProbes (stratum_columns cases lower) all probes) (sym g) (subst (AreProbes (stratum_columns cases lower) cases) (sym k) (record {
      probes_too = subst (λ (xs : List (List Col)). AllByRecursion (IsProbe xs cases) kernel.probes) e is.probes;
      rows = cases_over cases lower s h;
    })))

-- ---- inner points

rows_there : (cases : List Change) (place : ℕ) (case : Change) → slice_get cases place ≡ Some case → rows_of cases place ≡ case.rows
rows_there cases place case is = ap (λ (o : Option Change). rows_in o) is
  where
    rows_in : Option Change → List Row
    rows_in None = []
    rows_in (Some c) = c.rows

slice-last : {A : Type 0} (xs : List A) (x y : A) (i : ℕ) → slice_get (xs ++ x ∷ []) i ≡ Some y → (slice_get xs i ≡ Some y) ⊎ ((i ≡ length xs) × (x ≡ y))
slice-last [] x y zero e = inr (refl, let f : Some x ≡ Some y = e in cc)
slice-last [] x y (suc i) e = absurd (let f : slice_get [] i ≡ Some y = e in cc)
slice-last (own ∷ xs) x y zero e = inl e
slice-last (own ∷ xs) x y (suc i) e = ⊎_elim (λ h. inl h) (λ h. inr (let f : i ≡ length xs = h.0 in omega (arith, f), h.1)) (slice-last xs x y i e)

pub inners_more : (cs : List (List Col)) (cases : List Change) (probes : List Probe) (count : ℕ) (inners : List Inner) (probe : Probe) (case : Change) (inner : Inner) → AreInnersTo cs cases probes count inners → slice_get probes count ≡ Some probe
    → slice_get cases probe.case ≡ Some case → IsInner cs case.rows inner → AreInnersTo cs cases probes (count + 1) (inners ++ inner ∷ [])
inners_more cs cases probes count inners probe case inner a here there inside = record {
  each = let e : length (inners ++ inner ∷ []) ≡ length inners + 1 = long inners inner in let f : length inners ≡ count = a.each in omega (arith, e, f);
  inside = λ i other point is at. ⊎_elim (λ before. a.inside i other point is before) (λ last. own i other point is last.0 last.1) (slice-last inners inner point i at);
}
  where
    long : (xs : List Inner) (x : Inner) → length (xs ++ x ∷ []) ≡ length xs + 1
    long [] x = refl
    long (own ∷ xs) x = let e : length (xs ++ x ∷ []) ≡ length xs + 1 = long xs x in omega (arith, e)

    own : (i : ℕ) (other : Probe) (point : Inner) → slice_get probes i ≡ Some other → i ≡ length inners → inner ≡ point → IsInner cs (rows_of cases other.case) point
    own i other point is at same =
        let f : Some probe ≡ Some other = sym here ∙ ap (slice_get probes) (sym (at ∙ a.each)) ∙ is in
        let one : probe ≡ other = cc in
        subst (λ (p : Probe). IsInner cs (rows_of cases p.case) point) one (subst (λ (rows : List Row). IsInner cs rows point) (sym (rows_there cases probe.case case there)) (subst (IsInner cs case.rows) same inside))

pub inners_all : (cs : List (List Col)) (cases : List Change) (probes : List Probe) (count : ℕ) (inners : List Inner) → AreInnersTo cs cases probes count inners → count ≡ length probes → AreInners cs cases probes inners
inners_all cs cases probes count inners a e = record { each = a.each ∙ e; inside = a.inside }

-- ---- slim questions

rows_few : (cases : List Change) (place : ℕ) (case : Change) → AllByRecursion (λ rows. row_count rows ≤ 12) (map (λ (c : Change). c.rows) cases) → slice_get cases place ≡ Some case → row_count case.rows ≤ 12
rows_few [] place case h is = absurd (let f : slice_get [] place ≡ Some case = is in cc)
rows_few (own ∷ cases) zero case h is = let f : Some own ≡ Some case = is in let same : own ≡ case = cc in subst (λ (c : Change). row_count c.rows ≤ 12) same h.0
rows_few (own ∷ cases) (suc place) case h is = rows_few cases place case h.1 is

slim_strata : (asked : Changes) (a : Answer) → IsSlim (Stratum asked) → PivotsOver (2 ^ 127 - 1) asked a → IsPivots a → IsDead (Stratum asked)
slim_strata asked a s p e = ⊎_elim (λ dead. dead) (λ many. absurd (clash many)) (p e)
  where
    clash : HasCaseOfManyChoices (2 ^ 127 - 1) asked → ⊥
    clash m =
        let columns : length (stratum_columns asked.cases asked.lower) ≤ 3 = s.few_columns.0 in
        let rows : length m.case.rows ≤ 12 = few_rows 12 m.case.rows (rows_few asked.cases m.place m.case s.few_rows m.is) in
        let few : choice_count (length (stratum_columns asked.cases asked.lower)) (length m.case.rows + 1) ≤ 131072 = few_choices (length (stratum_columns asked.cases asked.lower) + 1 + (length m.case.rows + 1)) (length m.case.rows + 1) (omega (arith, columns, rows)) in
        let many : 2 ^ 127 - 1 < choice_count (length (stratum_columns asked.cases asked.lower)) (length m.case.rows + 1) = m.many in
        omega (arith, few, many)

pub slim_stratum : {E : Type 0} (asked : Changes) (r : Result Answer E) → IfOk r (λ a. PivotsOver (2 ^ 127 - 1) asked a) → IsSlim (Stratum asked) → IfOk r (λ a. IsPivots a → IsDead (Stratum asked))
slim_stratum asked (Ok a) p s = slim_strata asked a s p
slim_stratum asked (Err e) p s = tt

pub ruleset small_strata = (not_small, not_small_changes, lacking, slim_stratum)
