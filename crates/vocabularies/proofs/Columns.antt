-- Named columns ascend, and what is put together from them and from harvested terms is a
-- vocabulary.
use Rattle.std.proofs.Common.{◌≡◌, ℕ, ◌+◌, ◌<◌, ◌≤◌, List, [], ◌∷◌, ◌++◌, length, Bool, true, false, zero, suc, cond, append-nil, refl, sym, ap, subst, ◌∙◌, arith}
use Rattle.std.proofs.lemmas.List.Elements.{filter-append}
use Rattle.std.specs.Prelude.{IsTrue}
use Rattle.std.specs.List.{AllByRecursion, range_with_len}
use Rattle.std.specs.List.Sorted.{IsStrictlySortedBy}
use Rattle.std.specs.Cmp.{nat_cmp_is}
use Rattle.std.specs.Ordering.{nat_cmp}
use Rattle.std.specs.declared.cmp.Ordering.TheVariants.{Less}
use Rattle.items.proofs.Each.{each-append, each-more}
use Rattle.linear_terms.specs.declared.col.Col.{Col}
use Rattle.linear_terms.specs.declared.col.Col.TheVariants.{At, Aux}
use Rattle.linear_terms.specs.Polynomial.{Polynomial}
use Rattle.transition_formula.specs.Transition.{every_column, is_below}
use Rattle.transition_formula.proofs.ColumnTests.{columns_from_test}
use Rattle.transition_formula.proofs.Fitting.{below-true, true-below}
use Rattle.polyhedra.specs.Vocabulary.{IsVocabulary, IsDirectionOver}
use Rattle.syntax_tree.specs.declared.program.Column.{Column}
use Rattle.syntax_tree.specs.declared.program.Proc.{Proc}
use Rattle.syntax_tree.specs.declared.program.Program.{Program}
use Rattle.syntax_tree.specs.WellFormed.{width_of, has_name, IsProcFit}
use Rattle.vocabularies.specs.Harvest.{harvest_of}
use Rattle.vocabularies.specs.Ends.{named_if, named_columns_from, named_columns_of, plain_vocabulary, terms_below, full_of}
use Rattle.vocabularies.proofs.Linear.{harvest-directions, harvest-few}

-- ---- ascending numbers between two bounds

abbrev IsBetween : ℕ → ℕ → ℕ → Type 0
IsBetween a b v = (a ≤ v) × (v < b)

record Ascends (a b : ℕ) (xs : List ℕ) : Type 0 where
  within : AllByRecursion (IsBetween a b) xs
  sorted : IsStrictlySortedBy nat_cmp xs

less : (v w : ℕ) → v < w → nat_cmp v w ≡ Less
less v w h = sym (nat_cmp_is v w Less h)

Ascends-none : (a b : ℕ) → Ascends a b []
unfolding IsStrictlySortedBy
Ascends-none a b = record { within = tt; sorted = tt }

Ascends-first : (a b : ℕ) (xs : List ℕ) → a < b → Ascends (a + 1) b xs → Ascends a b (a ∷ xs)
unfolding IsStrictlySortedBy
Ascends-first a b xs lt h = record {
  within = (((omega arith), lt), each-more (IsBetween (a + 1) b) (IsBetween a b) (λ v k. (omega (arith, k.0), k.1)) xs h.within);
  sorted = (each-more (IsBetween (a + 1) b) (λ v. nat_cmp a v ≡ Less) (λ v k. less a v (omega (arith, k.0))) xs h.within, h.sorted);
}

Ascends-wider : (a c b : ℕ) (xs : List ℕ) → c ≤ a → Ascends a b xs → Ascends c b xs
Ascends-wider a c b xs le h = record { within = each-more (IsBetween a b) (IsBetween c b) (λ v k. (omega (arith, le, k.0), k.1)) xs h.within; sorted = h.sorted }

Ascends-both : (a b c : ℕ) (xs ys : List ℕ) → Ascends a b xs → Ascends b c ys → a ≤ b → b ≤ c → Ascends a c (xs ++ ys)
unfolding IsStrictlySortedBy
Ascends-both a b c [] ys h k le ge = Ascends-wider b a c ys le k
Ascends-both a b c (x ∷ xs) ys h k le ge =
    let more = Ascends-both a b c xs ys (record { within = h.within.1; sorted = h.sorted.1 }) k le ge in
    record {
      within = ((h.within.0.0, omega (arith, h.within.0.1, ge)), more.within);
      sorted = (each-append (λ v. nat_cmp x v ≡ Less) xs ys h.sorted.0 (each-more (IsBetween b c) (λ v. nat_cmp x v ≡ Less) (λ v l. less x v (omega (arith, h.within.0.1, l.0))) ys k.within), more.sorted);
    }

Ascends-range : (a n : ℕ) → Ascends a (a + n) (range_with_len a n)
Ascends-range a zero = Ascends-none a (a + zero)
Ascends-range a (suc n) = Ascends-first a (a + suc n) (range_with_len (a + 1) n) (omega arith) (subst (λ b. Ascends (a + 1) b (range_with_len (a + 1) n)) (omega arith) (Ascends-range (a + 1) n))

Ascends-named : (a : ℕ) (columns : List Column) → Ascends a (a + length columns) (named_columns_from a columns)
Ascends-named a [] = Ascends-none a (a + 0)
Ascends-named a (column ∷ columns) = go (has_name column) (subst (λ b. Ascends (a + 1) b (named_columns_from (a + 1) columns)) (omega arith) (Ascends-named (a + 1) columns))
  where
    go : (b : Bool) → Ascends (a + 1) (a + suc (length columns)) (named_columns_from (a + 1) columns) → Ascends a (a + suc (length columns)) (named_if b a (named_columns_from (a + 1) columns))
    go true h = Ascends-first a (a + suc (length columns)) (named_columns_from (a + 1) columns) (omega arith) h
    go false h = Ascends-wider (a + 1) a (a + suc (length columns)) (named_columns_from (a + 1) columns) (omega arith) h

alone : (n : ℕ) → 0 + n ≡ n
alone n = omega arith

Ascends-all : (program : Program) (p : Proc) → Ascends 0 (width_of program p) (named_columns_of program p)
Ascends-all program p =
    let globals = length program.globals in
    let own = length p.columns in
    Ascends-both 0 globals (globals + own + 1) (range_with_len 0 globals) (named_columns_from globals p.columns ++ (globals + own) ∷ [])
    (subst (λ b. Ascends 0 b (range_with_len 0 globals)) (alone globals) (Ascends-range 0 globals))
    (Ascends-both globals (globals + own) (globals + own + 1) (named_columns_from globals p.columns) ((globals + own) ∷ [])
    (Ascends-named globals p.columns)
    (Ascends-first (globals + own) (globals + own + 1) [] (omega arith) (Ascends-none (globals + own + 1) (globals + own + 1))) (omega arith) (omega arith)) (omega arith) (omega arith)

-- a number more
range-last : (a n : ℕ) → range_with_len a (n + 1) ≡ range_with_len a n ++ (a + n) ∷ []
range-last a zero = ap (λ n. n ∷ []) (omega arith)
range-last a (suc n) =
    let same : a + 1 + n ≡ a + suc n = omega arith in
    let longer : suc n + 1 ≡ suc (n + 1) = omega arith in
    ap (range_with_len a) longer ∙ ap (λ l. a ∷ l) (range-last (a + 1) n ∙ ap (λ m. range_with_len (a + 1) n ++ m ∷ []) same)

pub range-next : (n : ℕ) (made next : List ℕ) → made ≡ range_with_len 0 n → next ≡ made ++ n ∷ [] → next ≡ range_with_len 0 (n + 1)
range-next n made next is pushed = pushed ∙ (λ i. is i ++ sym (alone n) i ∷ []) ∙ sym (range-last 0 n)

-- ---- vocabularies

pub IsVocabulary-full : (program : Program) (p : Proc) → IsProcFit program p → IsVocabulary (full_of program p)
unfolding full_of
IsVocabulary-full program p fit =
    let all = Ascends-all program p in
    record {
      ascending = all.sorted;
      named = each-more (IsBetween 0 (width_of program p)) (λ v. v < width_of program p) (λ v k. k.1) (named_columns_of program p) all.within;
      few = harvest-few p.body;
      harvested = harvest-directions program p fit;
      extra = tt;
    }

pub IsVocabulary-plain : (program : Program) (columns : ℕ) (terms : List Polynomial) → length terms ≤ 32 → AllByRecursion (IsDirectionOver columns) terms
    → IsVocabulary (plain_vocabulary program columns terms)
IsVocabulary-plain program columns terms few all =
    let range = Ascends-range 0 columns in
    record {
      ascending = range.sorted;
      named = each-more (IsBetween 0 (0 + columns)) (λ v. v < columns) (λ v k. omega (arith, k.1)) (range_with_len 0 columns) range.within;
      few = few;
      harvested = all;
      extra = tt;
    }

-- ---- terms over the first columns

narrower : (width columns : ℕ) (p : Polynomial) → IsDirectionOver width p → IsTrue (every_column (is_below columns 0) p) → IsDirectionOver columns p
narrower width columns p h k = record { straight = h.straight; canonical = h.canonical; within = columns_each columns p k }
  where
    columns_each : (columns : ℕ) (p : Polynomial) → IsTrue (every_column (is_below columns 0) p) → AllByRecursion (λ t. AllByRecursion (λ c. IsTrue (is_below columns 0 c)) t.0) p.terms
    columns_each columns p k = columns_from_test (is_below columns 0) p k

entry-more : (fewer columns : ℕ) → fewer ≤ columns → (c : Col) → IsTrue (is_below fewer 0 c) → IsTrue (is_below columns 0 c)
entry-more fewer columns le (At v) h = let lt = true-below v fewer h in below-true v columns (omega (arith, lt, le))
entry-more fewer columns le (Aux n) h = h

wider : (fewer columns : ℕ) (p : Polynomial) → fewer ≤ columns → IsDirectionOver fewer p → IsDirectionOver columns p
wider fewer columns p le h = record {
  straight = h.straight;
  canonical = h.canonical;
  within = each-more (λ t. AllByRecursion (λ c. IsTrue (is_below fewer 0 c)) t.0) (λ t. AllByRecursion (λ c. IsTrue (is_below columns 0 c)) t.0)
      (λ t k. each-more (λ c. IsTrue (is_below fewer 0 c)) (λ c. IsTrue (is_below columns 0 c)) (λ c l. entry-more fewer columns le c l) t.0 k) p.terms h.within;
}

below-directions : (width fewer columns : ℕ) (terms : List Polynomial) → fewer ≤ columns → AllByRecursion (IsDirectionOver width) terms → AllByRecursion (IsDirectionOver columns) (terms_below fewer terms)
below-directions width fewer columns [] le h = tt
below-directions width fewer columns (p ∷ terms) le h = go (every_column (is_below fewer 0) p) refl (below-directions width fewer columns terms le h.1)
  where
    go : (b : Bool) → every_column (is_below fewer 0) p ≡ b → AllByRecursion (IsDirectionOver columns) (terms_below fewer terms) → AllByRecursion (IsDirectionOver columns) (cond b (p ∷ terms_below fewer terms) (terms_below fewer terms))
    go true e rest = (wider fewer columns p le (narrower width fewer p h.0 e), rest)
    go false e rest = rest

below-few : (fewer : ℕ) (terms : List Polynomial) → length (terms_below fewer terms) ≤ length terms
below-few fewer [] = (omega arith)
below-few fewer (p ∷ terms) = go (every_column (is_below fewer 0) p) (below-few fewer terms)
  where
    go : (b : Bool) → length (terms_below fewer terms) ≤ length terms → length (cond b (p ∷ terms_below fewer terms) (terms_below fewer terms)) ≤ suc (length terms)
    go true h = omega (arith, h)
    go false h = omega (arith, h)

-- all columns named, with the harvested terms of a procedure that are over the first columns
pub IsVocabulary-below : (program : Program) (p : Proc) (fewer columns : ℕ) → IsProcFit program p → fewer ≤ columns
    → IsVocabulary (plain_vocabulary program columns (terms_below fewer (harvest_of p.body)))
IsVocabulary-below program p fewer columns fit le =
    IsVocabulary-plain program columns (terms_below fewer (harvest_of p.body)) (omega (arith, below-few fewer (harvest_of p.body), harvest-few p.body))
    (below-directions (width_of program p) fewer columns (harvest_of p.body) le (harvest-directions program p fit))

-- a term more, of which it is known whether it counts
pub below-with : (columns : ℕ) (terms made next : List Polynomial) (p : Polynomial) → made ≡ terms_below columns terms → every_column (is_below columns 0) p ≡ true
    → next ≡ made ++ p ∷ [] → next ≡ terms_below columns (terms ++ p ∷ [])
below-with columns terms made next p is counts pushed =
    pushed ∙ (λ i. is i ++ cond (sym counts i) (p ∷ []) []) ∙ sym (filter-append (every_column (is_below columns 0)) terms (p ∷ []))

pub below-without : (columns : ℕ) (terms made : List Polynomial) (p : Polynomial) → made ≡ terms_below columns terms → every_column (is_below columns 0) p ≡ false
    → made ≡ terms_below columns (terms ++ p ∷ [])
below-without columns terms made p is counts =
    sym (append-nil made) ∙ (λ i. is i ++ cond (sym counts i) (p ∷ []) []) ∙ sym (filter-append (every_column (is_below columns 0)) terms (p ∷ []))
