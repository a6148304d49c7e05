-- The columns of points: numbers in a row, and the vocabulary with those of the entry.
use Rattle.std.proofs.Common.{◌≡◌, ℕ, zero, suc, ◌+◌, ◌-◌, ◌<◌, ◌≤◌, Bool, true, false, List, [], ◌∷◌, ◌++◌, refl, sym, ap, ◌∙◌, arith}
use Rattle.std.specs.Prelude.{IsTrue, nat_le, if◌then◌else◌}
use Rattle.std.specs.Cmp.{nat_cmp_is}
use Rattle.std.specs.List.{AllByRecursion, range_with_len}
use Rattle.std.specs.List.Sorted.{IsStrictlySortedBy}
use Rattle.std.specs.Ordering.{nat_cmp}
use Rattle.std.specs.declared.cmp.Ordering.TheVariants.{Less}
use Rattle.std.proofs.lemmas.Bool.{leb-false, leb-true}
use Rattle.items.proofs.Each.{each-append, each-more}
use Rattle.linear_terms.specs.declared.col.Col.{Col}
use Rattle.linear_terms.specs.declared.col.Col.TheVariants.{At, Aux}
use Rattle.linear_terms.specs.Polynomial.{Polynomial}
use Rattle.transition_formula.specs.Transition.{is_below}
use Rattle.transition_formula.proofs.Fitting.{below-true, true-below}
use Rattle.polyhedra.specs.Vocabulary.{IsDirectionOver, IsVocabulary, Vocabulary}
use Rattle.syntax_tree.specs.declared.program.Proc.{Proc}
use Rattle.syntax_tree.specs.declared.program.Program.{Program}
use Rattle.syntax_tree.specs.WellFormed.{IsProcFit, IsWellFormed, width_of}
use Rattle.vocabularies.specs.Ends.{entry_width, full_of, start_of}
use Rattle.context.proofs.PlaceColumns.{full-columns}
use Rattle.point_steps.specs.Parts.{ArePointEnds}
use Rattle.point_steps.specs.States.{ends_of, remembered_count, with_named_columns}

-- ---- numbers in a row

range-last : (a n : ℕ) → range_with_len a (n + 1) ≡ range_with_len a n ++ (a + n) ∷ []
range-last a zero = ap (λ n. n ∷ []) (omega arith)
range-last a (suc n) =
    let same : a + 1 + n ≡ a + suc n = omega arith in
    let longer : suc n + 1 ≡ suc (n + 1) = omega arith in
    ap (range_with_len a) longer ∙ ap (λ l. a ∷ l) (range-last (a + 1) n ∙ ap (λ m. range_with_len (a + 1) n ++ m ∷ []) same)

pub columns-next : (first column : ℕ) (made next : List ℕ) → first ≤ column → made ≡ range_with_len first (column - first) → next ≡ made ++ column ∷ [] → next ≡ range_with_len first (column + 1 - first)
columns-next first column made next le is pushed =
    let here : first + (column - first) ≡ column = omega arith in
    let more : column - first + 1 ≡ column + 1 - first = omega arith in
    pushed ∙ (λ i. is i ++ sym here i ∷ []) ∙ sym (range-last first (column - first)) ∙ ap (range_with_len first) more

-- ---- the vocabulary

less : (v w : ℕ) → v < w → nat_cmp v w ≡ Less
less v w h = sym (nat_cmp_is v w Less h)

range-from : (a c n : ℕ) → c ≤ a → AllByRecursion (λ v. (c ≤ v) × (v < a + n)) (range_with_len a n)
range-from a c zero le = tt
range-from a c (suc n) le =
    ((le, omega arith), each-more (λ v. (c ≤ v) × (v < a + 1 + n)) (λ v. (c ≤ v) × (v < a + suc n)) (λ v h. (h.0, let lt = h.1 in omega (arith, lt))) (range_with_len (a + 1) n) (range-from (a + 1) c n (omega (arith, le))))

range-sorted : (a n : ℕ) → IsStrictlySortedBy nat_cmp (range_with_len a n)
unfolding IsStrictlySortedBy
range-sorted a zero = tt
range-sorted a (suc n) =
    (each-more (λ v. (a + 1 ≤ v) × (v < a + 1 + n)) (λ v. nat_cmp a v ≡ Less) (λ v h. less a v (let le = h.0 in omega (arith, le))) (range_with_len (a + 1) n) (range-from (a + 1) (a + 1) n (omega arith)), range-sorted (a + 1) n)

sorted-both : (a : ℕ) (xs ys : List ℕ) → IsStrictlySortedBy nat_cmp xs → AllByRecursion (λ v. v < a) xs → IsStrictlySortedBy nat_cmp ys → AllByRecursion (λ v. a ≤ v) ys → IsStrictlySortedBy nat_cmp (xs ++ ys)
unfolding IsStrictlySortedBy
sorted-both a [] ys h below k above = k
sorted-both a (x ∷ xs) ys h below k above =
    (each-append (λ v. nat_cmp x v ≡ Less) xs ys h.0 (each-more (λ v. a ≤ v) (λ v. nat_cmp x v ≡ Less) (λ v le. less x v (let lt = below.0 in omega (arith, lt, le))) ys above), sorted-both a xs ys h.1 below.1 k above)

entry-more : (fewer columns : ℕ) → fewer ≤ columns → (c : Col) → IsTrue (is_below fewer 0 c) → IsTrue (is_below columns 0 c)
entry-more fewer columns le (At v) h = let lt = true-below v fewer h in below-true v columns (omega (arith, lt, le))
entry-more fewer columns le (Aux n) h = h

wider : (fewer columns : ℕ) (p : Polynomial) → fewer ≤ columns → IsDirectionOver fewer p → IsDirectionOver columns p
wider fewer columns p le h = record {
  straight = h.straight;
  canonical = h.canonical;
  within = each-more (λ t. AllByRecursion (λ c. IsTrue (is_below fewer 0 c)) t.0) (λ t. AllByRecursion (λ c. IsTrue (is_below columns 0 c)) t.0)
      (λ t k. each-more (λ c. IsTrue (is_below fewer 0 c)) (λ c. IsTrue (is_below columns 0 c)) (λ c l. entry-more fewer columns le c l) t.0 k) p.terms h.within;
}

pub IsVocabulary-with_named : (more : ℕ) (voc : Vocabulary) → IsVocabulary voc → IsVocabulary (with_named_columns more voc)
IsVocabulary-with_named more voc h =
    let new = range-from voc.columns voc.columns more (omega arith) in
    record {
      ascending = sorted-both voc.columns voc.named (range_with_len voc.columns more) h.ascending h.named (range-sorted voc.columns more) (each-more (λ v. (voc.columns ≤ v) × (v < voc.columns + more)) (λ v. voc.columns ≤ v) (λ v k. k.0) (range_with_len voc.columns more) new);
      named =
          each-append (λ v. v < voc.columns + more) voc.named (range_with_len voc.columns more)
          (each-more (λ v. v < voc.columns) (λ v. v < voc.columns + more) (λ v lt. omega (arith, lt)) voc.named h.named)
          (each-more (λ v. (voc.columns ≤ v) × (v < voc.columns + more)) (λ v. v < voc.columns + more) (λ v k. k.1) (range_with_len voc.columns more) new);
      few = h.few;
      harvested = each-more (IsDirectionOver voc.columns) (IsDirectionOver (voc.columns + more)) (λ p k. wider voc.columns (voc.columns + more) p (omega arith) k) voc.harvested h.harvested;
      extra = tt;
    }

-- ---- the ends of a point

remembered-less : (columns entry : ℕ) → columns ≤ 63 → entry ≤ columns → (remembered_count columns entry ≤ entry) × (columns + remembered_count columns entry ≤ 63)
remembered-less columns entry le less = go (nat_le (columns + entry) 63) refl
  where
    go : (b : Bool) → nat_le (columns + entry) 63 ≡ b → ((if b then entry else 63 - columns) ≤ entry) × (columns + (if b then entry else 63 - columns) ≤ 63)
    go true e = let all = leb-true (columns + entry) 63 e in (omega arith, omega (arith, all))
    go false e = let all = leb-false (columns + entry) 63 e in (omega (arith, all), omega (arith, le))

start-columns : (program : Program) → (start_of program).columns ≡ 0
unfolding start_of
start-columns program = refl

pub ends-known : (program : Program) (p : Proc) → IsWellFormed program → IsProcFit program p → IsVocabulary (start_of program) → IsVocabulary (full_of program p) → ArePointEnds (ends_of program p)
ends-known program p formed fit start full =
    let globals = formed.globals in
    let slots = fit.slots in
    let params = fit.params in
    let first = fit.first in
    let none = start-columns program in
    let wide = full-columns program p in
    let columns : width_of program p ≤ 63 = omega (arith, globals, slots) in
    let entry : entry_width program p ≤ width_of program p = omega (arith, first) in
    let kept = remembered-less (width_of program p) (entry_width program p) columns entry in
    let less = kept.0 in
    let all = kept.1 in
    record {
      entry = entry;
      few_entry = omega (arith, globals, params);
      few_columns = columns;
      remembered = less;
      start_columns = none;
      point_columns = ap (λ n. n + remembered_count (width_of program p) (entry_width program p)) wide;
      start = record { is = start; few = omega (arith, none) };
      point = record { is = IsVocabulary-with_named (remembered_count (width_of program p) (entry_width program p)) (full_of program p) full; few = omega (arith, wide, all) };
    }
