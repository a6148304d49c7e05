-- What is known where a basis is made: of the rows of a probe's case, of the weights of its place,
-- and of duals; and that it passes.
use Rattle.std.proofs.Common.{◌≡◌, ℕ, zero, suc, ◌+◌, ◌<◌, ◌≤◌, true, All, List, [], ◌∷◌, map, length, Ok, get_or, slice_get, Some, refl, sym, ap, subst, ◌∙◌, arith, ℤ, pos}
use Rattle.std.specs.Prelude.{◌^◌, unsigned_abs}
use Rattle.std.specs.List.{AllByRecursion}
use Rattle.std.specs.Map.{keys_of}
use Rattle.std.proofs.lemmas.List.Elements.{recursion_from_All, All-from_recursion}
use Rattle.std.proofs.lemmas.Option.{slice_get_read, get_or_from_slice_get, slice_get-get_or}
use Rattle.linear_terms.specs.declared.col.Col.{Col}
use Rattle.linear_terms.specs.declared.row.Row.{Row}
use Rattle.linear_terms.specs.Polynomial.{Polynomial, IsCanonical}
use Rattle.farkas_check.specs.declared.stratum.Change.{Change}
use Rattle.farkas_check.specs.declared.stratum.Relation.{Relation}
use Rattle.farkas_check.specs.declared.stratum.Spot.{Spot}
use Rattle.farkas_check.specs.Kept.{IsCanonicalChange}
use Rattle.farkas_check.specs.Ratios.{Fraction}
use Rattle.farkas_check.specs.Relations.{entry, case_monos, unknown_count, free_places}
use Rattle.farkas_check.specs.Sizes.{HasNumbersUpTo}
use Rattle.farkas_check.specs.Stratum.{rows_of, tested_basis}
use Rattle.farkas_check.proofs.Spreads.{RowsAmong}
use Rattle.farkas_check.proofs.Vanishing.{IsCaseAmong, cases_among}
use Rattle.farkas_check.proofs.Walks.{IsOrdered, IsOrdered-columns}
use Rattle.elimination.specs.declared.inner.Inner.{Inner}
use Rattle.elimination.specs.declared.kernel.Kernel.{Kernel}
use Rattle.elimination.specs.declared.probes.Probe.{Probe}
use Rattle.elimination.specs.Around.{IsSmallOver, AreAround, weight_at}
use Rattle.elimination.specs.BasisParts.{IsBasisAsked, AreTied, AreGroups, IsGroupAt, IsSmallDual, AreSmallWeights, AreWeightsAt, dual_multiples, values_below}
use Rattle.elimination.specs.Narrow.{IsSmallChange}
use Rattle.elimination.specs.Probes.{IsInner, IsProbe, IsNullLine, IsDual, IsKernel}
use Rattle.elimination.proofs.AroundWeights.{weights_read}
use Rattle.elimination.proofs.BasisTests.{among-each, basis-passes}
use Rattle.elimination.proofs.WeightSizes.{weight_at-size}

-- ---- the case of a probe

rows-small : (cs : List (List Col)) (rows : List Row) → AllByRecursion (λ (row : Row). IsCanonical row.poly.terms) rows → AllByRecursion (λ (row : Row). HasNumbersUpTo 4 row.poly) rows → RowsAmong rows cs → AllByRecursion (λ (row : Row). IsSmallOver cs row.poly) rows
rows-small cs [] k h a = tt
rows-small cs (row ∷ rows) k h a = (record { canonical = k.0; small = h.0; among = λ m e. among-each (keys_of row.poly.terms) cs m a.0 e }, rows-small cs rows k.1 h.1 a.1)

rows_small-at : (cs : List (List Col)) (cases : List Change) (case : ℕ) → AllByRecursion IsCanonicalChange cases → AllByRecursion IsSmallChange cases → AllByRecursion (IsCaseAmong cs) cases → AllByRecursion (λ (row : Row). IsSmallOver cs row.poly) (rows_of cases case)
rows_small-at cs [] case k h a = tt
rows_small-at cs (own ∷ cases) zero k h a =
    rows-small cs own.rows (recursion_from_All (λ (row : Row). IsCanonical row.poly.terms) own.rows k.0.rows) (recursion_from_All (λ (row : Row). HasNumbersUpTo 4 row.poly) own.rows h.0.rows.small) a.0.rows
rows_small-at cs (own ∷ cases) (suc case) k h a = rows_small-at cs cases case k.1 h.1 a.1

pub probe_at-place : (cs : List (List Col)) (cases : List Change) (probes : List Probe) (n : ℕ) (d : Probe) → n < length probes → AllByRecursion (IsProbe cs cases) probes → IsProbe cs cases (get_or probes n d)
probe_at-place cs cases [] n d h are = absurd (omega (arith, h))
probe_at-place cs cases (p ∷ probes) zero d h are = are.0
probe_at-place cs cases (p ∷ probes) (suc n) d h are = probe_at-place cs cases probes n d (omega (arith, h)) are.1

-- what is known of a case, its probe, and the inner point at its place
pub record IsKnownAt (cs : List (List Col)) (cases : List Change) (probe : Probe) (inner : Inner) : Type 0 where
  pub few : length cs ≤ 3
  pub ordered : IsOrdered cs
  pub probe_too : IsProbe cs cases probe
  pub inside : IsInner cs (rows_of cases probe.case) inner
  pub rows : AllByRecursion (λ (row : Row). IsSmallOver cs row.poly) (rows_of cases probe.case)
  pub case_fits : probe.case < 4294967296

pub known_at : (cs : List (List Col)) (cases : List Change) (lower : List Polynomial) (probes : List Probe) (inners : List Inner) (n : ℕ) (d : Probe) (inner : Inner) → IsBasisAsked cs cases lower probes inners → n < length probes → inner ≡ get_or inners n inner → IsKnownAt cs cases (get_or probes n d) inner
known_at cs cases lower probes inners n d inner a h e = record {
  few = subst (λ (xs : List (List Col)). length xs ≤ 3) (sym a.columns) a.stratum.few_columns;
  ordered = subst IsOrdered (sym a.columns) (IsOrdered-columns (case_monos cases lower));
  probe_too = own;
  inside = a.inside.inside n (get_or probes n d) inner (slice_get-get_or probes n d h) (slice_get_read inners (length probes) n inner (sym a.inside.each) h e);
  rows =
      rows_small-at cs cases (get_or probes n d).case (recursion_from_All IsCanonicalChange cases a.canonical.cases_too) (recursion_from_All IsSmallChange cases a.small)
      (subst (λ (xs : List (List Col)). AllByRecursion (IsCaseAmong xs) cases) (sym a.columns) (cases_among cases lower));
  case_fits = let case : (get_or probes n d).case < length cases = own.case in let few : length cases ≤ 4294967296 = a.stratum.few_cases in omega (arith, case, few);
}
  where
    own : IsProbe cs cases (get_or probes n d)
    own = probe_at-place cs cases probes n d h a.probes_too

pub group_at-is : (cs : List (List Col)) (own cases : List Change) (probes : List Probe) (inners : List Inner) (n : ℕ) (d : Probe) (inner : Inner) (group : List Spot) → own ≡ cases → inner ≡ get_or inners n inner → AreAround cs own (get_or probes n d).case inner group → IsGroupAt cs cases probes inners n group
group_at-is cs own cases probes inners n d inner group same e around = record {
  around = λ probe other f g.
      subst (λ (xs : List Change). AreAround cs xs probe.case other group) same
      (subst (λ (p : Probe). AreAround cs own p.case other group) (get_or_from_slice_get probes n probe d f)
      (subst (λ (x : Inner). AreAround cs own (get_or probes n d).case x group) (e ∙ get_or_from_slice_get inners n other inner g) around));
}

-- ---- weights

listed-entries : (n : ℕ) (f : ℕ → ℤ) (made : List ℤ) → length made ≡ n → ((i : ℕ) → i < n → entry made i ≡ f i) → made ≡ values_below n f
listed-entries zero f [] e h = refl
listed-entries zero f (z ∷ zs) e h = absurd (omega (arith, e))
listed-entries (suc n) f [] e h = absurd (omega (arith, e))
listed-entries (suc n) f (z ∷ zs) e h = pair (h zero (omega arith)) (listed-entries n (λ i. f (suc i)) zs (omega (arith, e)) (λ i l. h (suc i) (omega (arith, l))))
  where
    pair : {x y : ℤ} {xs ys : List ℤ} → x ≡ y → xs ≡ ys → x ∷ xs ≡ y ∷ ys
    pair e f = cc

abbrev pub AreWeightsOf : ℕ → Inner → ℕ → List ℤ → Type 0
AreWeightsOf columns inner place made = (length made ≡ columns + 1) × ((i : ℕ) → i < columns + 1 → entry made i ≡ weight_at columns inner place i)

pub weights_at-are : (cs : List (List Col)) (cases : List Change) (lower : List Polynomial) (probes : List Probe) (inners : List Inner) (n : ℕ) (d : Probe) (inner : Inner) (made : List ℤ) → IsBasisAsked cs cases lower probes inners → n < length probes → inner ≡ get_or inners n inner
    → AreWeightsOf (length cs) inner (get_or probes n d).place made → AreWeightsAt (length cs) probes inners n made
weights_at-are cs cases lower probes inners n d inner made a h e w = record {
  are = λ probe own f g.
      listed-entries (suc (length cs)) (weight_at (length cs) own probe.place) made (let many : length made ≡ length cs + 1 = w.0 in omega (arith, many))
      (λ i l. w.1 i (omega (arith, l)) ∙ ap (λ (p : Probe). weight_at (length cs) inner p.place i) (get_or_from_slice_get probes n probe d f) ∙ ap (λ (x : Inner). weight_at (length cs) x probe.place i) (same own g));
}
  where
    same : (own : Inner) → slice_get inners n ≡ Some own → inner ≡ own
    same own g = e ∙ get_or_from_slice_get inners n own inner g

pub weights_at-small : (cs : List (List Col)) (cases : List Change) (lower : List Polynomial) (probes : List Probe) (inners : List Inner) (n : ℕ) (d : Probe) (inner : Inner) (made : List ℤ) → IsBasisAsked cs cases lower probes inners → n < length probes → inner ≡ get_or inners n inner
    → AreWeightsOf (length cs) inner (get_or probes n d).place made → AreSmallWeights made
weights_at-small cs cases lower probes inners n d inner made a h e w = λ k z l.
    subst (λ (x : ℤ). unsigned_abs x ≤ 67108864) (sym (get_or_from_slice_get made k (entry made k) z (slice_get-get_or made k (pos 0) l) ∙ w.1 k (let many : length made ≡ length cs + 1 = w.0 in omega (arith, many, l))))
    (weight_at-size cs (rows_of cases (get_or probes n d).case) inner (get_or probes n d).place k known.few known.inside)
  where
    known : IsKnownAt cs cases (get_or probes n d) inner
    known = known_at cs cases lower probes inners n d inner a h e

-- ---- kernels

pub lines-long : (cs : List (List Col)) (cases : List Change) (lower : List Polynomial) (lines : List (List ℤ)) → AllByRecursion (IsNullLine cs cases lower) lines → AllByRecursion (λ (line : List ℤ). length line ≡ unknown_count cases lower) lines
lines-long cs cases lower [] h = tt
lines-long cs cases lower (line ∷ lines) h = (h.0.each, lines-long cs cases lower lines h.1)

pub duals-small : (cs : List (List Col)) (cases : List Change) (lower : List Polynomial) (kernel : Kernel) → IsKernel cs cases lower kernel → All (IsSmallDual kernel.probes) kernel.duals
duals-small cs cases lower kernel k = λ own d h.
    subst (IsSmallDual kernel.probes) (sym (get_or_from_slice_get kernel.duals own (get_or kernel.duals own []) d (slice_get-get_or kernel.duals own [] h)))
    (small own (k.duals own h))
  where
    small : (own : ℕ) → IsDual cs cases lower kernel.probes (free_places kernel.relations (unknown_count cases lower)) own (get_or kernel.duals own []) → IsSmallDual kernel.probes (get_or kernel.duals own [])
    small own u = record { each = u.each; positive = u.positive; small = All-from_recursion (λ (z : ℤ). unsigned_abs z ≤ 28 ^ 6) (get_or kernel.duals own []) u.small }

pub count-few : (n : ℕ) (own cases : List Change) (own_lower lower : List Polynomial) → n ≡ unknown_count own own_lower → n < 2 ^ 61 → own ≡ cases → own_lower ≡ lower → unknown_count cases lower < 2 ^ 61
count-few n own cases own_lower lower is few e f =
    subst (λ (k : ℕ). k < 2 ^ 61) (is ∙ ap (λ (xs : List Change). unknown_count xs own_lower) e ∙ ap (unknown_count cases) f) few

-- relations, spots and multiples made of a kernel pass the test of its question
pub parts-pass : (cs : List (List Col)) (cases : List Change) (lower : List Polynomial) (kernel : Kernel) (inners : List Inner) (relations : List Relation) (spots : List Spot) (free : List (List Fraction)) → IsBasisAsked cs cases lower kernel.probes inners → IsKernel cs cases lower kernel
    → unknown_count cases lower < 2 ^ 61 → AreTied cases lower kernel.relations relations → AreGroups cs cases kernel.probes inners spots → free ≡ map (dual_multiples (length cs) kernel.probes inners) kernel.duals → tested_basis cases lower relations spots free ≡ Ok true
parts-pass cs cases lower kernel inners relations spots free a k few r s f =
    basis-passes cs cases lower kernel inners relations spots free a.columns
    (record { canonical = a.canonical; stratum = a.stratum; small = a.small; unknowns = few; reading = record { reads = weights_read cs }; kernel_too = k; inside = a.inside })
    (record { relations_too = r; spots_too = s; free_too = f })
