-- Difference equations along a run.
--
-- A recurrence is true along a run where there is a ladder of sequences: the first has its numbers
-- at each state, each grows by the next, and the polynomials of its differences have the numbers of
-- the next four.
use Rattle.std.proofs.Common.{◌≡◌, ℕ, zero, suc, ◌+◌, ◌<◌, ◌≤◌, List, [], ◌∷◌, ◌++◌, true, false, Ok, map, refl, sym, ap, ◌∙◌, arith, ℤ, pos, ◌+ℤ◌, ◌-ℤ◌}
use Rattle.std.specs.Prelude.{Option, IsTrue}
use Rattle.std.specs.List.{AllByRecursion, list_all}
use Rattle.std.specs.Result.{is_ok}
use Rattle.std.proofs.lemmas.Int.{ints}
use Rattle.linear_terms.specs.declared.col.Col.{Col}
use Rattle.linear_terms.specs.declared.col.Col.TheVariants.{At}
use Rattle.linear_terms.specs.declared.row.Case.{Case}
use Rattle.linear_terms.specs.Polynomial.{Polynomial}
use Rattle.linear_terms.specs.Value.{Valuation, value_of}
use Rattle.whole_numbers.specs.Dot.{dot}
use Rattle.transition_formula.specs.Meaning.{numbers, HoldsAt}
use Rattle.transition_formula.specs.Transition.{Transition}
use Rattle.linear_terms.specs.Expressions.{or_zero}
use Rattle.farkas_check.specs.declared.stratum.Relation.{Relation}
use Rattle.polyhedra.specs.Changes.{change, is_modified, is_exact, modified_variables, moving, changes_in, changes_of}
use Rattle.polyhedra.proofs.Lists.{each-unmap, filter-passes, each-tested}
use Rattle.polyhedra.proofs.RelationTerms.{IsTrueIn, IsTrueRelation}
use Rattle.items.proofs.Each.{each-any}
use Rattle.recurrence.specs.declared.terms.Recurrence.{Recurrence}
use Rattle.recurrence.specs.declared.terms.StratumTerm.{StratumTerm}
use Rattle.recurrence.specs.Products.{is_known, columns_after_turn, sequence_of, known_products, sequences}
use Rattle.recurrence.specs.Strata.{steady, recurrence_of, term_of}
use Rattle.linear_terms.proofs.Worth.{IsWorth, IsWorth-Ok, IsWorth-same, IsWorth-whole, IsWorth-sum, column_of-value, linear-value, dot-minus, dot-same, AreWorth, IsWorth-combination}
use Rattle.recurrence.proofs.ProductGrowth.{AreNext, product_ladder, product-grows, product-start, product-first, product-second, product-third, product-fourth}
use Rattle.polyhedra.proofs.Turns.{number_in, Reads, reads-numbers, change-value, by_some, IsRunOf, unmodified-along}

-- numbers by level and step
abbrev pub Ladder : Type 0
Ladder = ℕ → ℕ → ℤ

-- from a level on each sequence is constant
abbrev pub IsConstantFrom : ℕ → Ladder → Type 0
IsConstantFrom d l = (m i : ℕ) → d ≤ m → l m i ≡ l m 0

-- values of terms under a valuation are those of a list of variables
pub maps-twice : {A B C : Type 0} (f : B → C) (g : A → B) (h : A → C) (xs : List A) → ((x : A) → f (g x) ≡ h x) → map f (map g xs) ≡ map h xs
maps-twice f g h [] e = refl
maps-twice f g h (x ∷ xs) e = λ i. e x i ∷ maps-twice f g h xs e i

module _ (ms : List (List Col)) (body : Transition) (steps : ℕ) (states : ℕ → List ℤ) (run : IsRunOf body steps states) where
  pub record IsAlong (d : ℕ) (r : Recurrence) (l : Ladder) : Type 0 where
    pub grows : (m i : ℕ) → i < steps → l m (i + 1) -ℤ l m i ≡ l (suc m) i
    pub constant : ms ≡ [] → IsConstantFrom d l
    pub start : (i : ℕ) → i ≤ steps → (at : Valuation) → Reads at (states i) → value_of at r.start ≡ l 0 i
    pub first : (i : ℕ) → i ≤ steps → (at : Valuation) → Reads at (states i) → IsWorth at r.first (l 1 i)
    pub second : (i : ℕ) → i ≤ steps → (at : Valuation) → Reads at (states i) → IsWorth at r.second (l 2 i)
    pub third : (i : ℕ) → i ≤ steps → (at : Valuation) → Reads at (states i) → IsWorth at r.third (l 3 i)
    pub fourth : (i : ℕ) → i ≤ steps → (at : Valuation) → Reads at (states i) → IsWorth at r.fourth (l 4 i)

  -- recurrences and their ladders, one by one
  abbrev pub AreAlong : ℕ → List Recurrence → List Ladder → Type 0
  AreAlong d [] [] = Unit {0}
  AreAlong d [] (l ∷ ls) = ⊥
  AreAlong d (r ∷ rs) [] = ⊥
  AreAlong d (r ∷ rs) (l ∷ ls) = IsAlong d r l × AreAlong d rs ls

  -- ---- what lists of recurrences say

  pub each-grows : (d m i : ℕ) → i < steps → (rs : List Recurrence) (ls : List Ladder) → AreAlong d rs ls → AllByRecursion (λ (l : Ladder). l m (i + 1) -ℤ l m i ≡ l (suc m) i) ls
  each-grows d m i within [] [] h = tt
  each-grows d m i within [] (l ∷ ls) h = absurd h
  each-grows d m i within (r ∷ rs) [] h = absurd h
  each-grows d m i within (r ∷ rs) (l ∷ ls) h = (h.0.grows m i within, each-grows d m i within rs ls h.1)

  each-constant : (none : ms ≡ []) (d m i : ℕ) → d ≤ m → (rs : List Recurrence) (ls : List Ladder) → AreAlong d rs ls → AllByRecursion (λ (l : Ladder). l m i ≡ l m 0) ls
  each-constant none d m i from [] [] h = tt
  each-constant none d m i from [] (l ∷ ls) h = absurd h
  each-constant none d m i from (r ∷ rs) [] h = absurd h
  each-constant none d m i from (r ∷ rs) (l ∷ ls) h = (h.0.constant none m i from, each-constant none d m i from rs ls h.1)

  starts : (d i : ℕ) → i ≤ steps → (at : Valuation) → Reads at (states i) → (rs : List Recurrence) (ls : List Ladder) → AreAlong d rs ls → map (value_of at) (map (λ (r : Recurrence). r.start) rs) ≡ map (λ (l : Ladder). l 0 i) ls
  starts d i within at reads [] [] h = refl
  starts d i within at reads [] (l ∷ ls) h = absurd h
  starts d i within at reads (r ∷ rs) [] h = absurd h
  starts d i within at reads (r ∷ rs) (l ∷ ls) h = λ j. h.0.start i within at reads j ∷ starts d i within at reads rs ls h.1 j

  module _ (d i : ℕ) (within : i ≤ steps) (at : Valuation) (reads : Reads at (states i)) where
    starts-worth : (rs : List Recurrence) (ls : List Ladder) → AreAlong d rs ls → AreWorth at (map (λ (r : Recurrence). Ok r.start) rs) (map (λ (l : Ladder). l 0 i) ls)
    starts-worth [] [] h = tt
    starts-worth [] (l ∷ ls) h = absurd h
    starts-worth (r ∷ rs) [] h = absurd h
    starts-worth (r ∷ rs) (l ∷ ls) h = (IsWorth-same (h.0.start i within at reads) (IsWorth-Ok at r.start), starts-worth rs ls h.1)

    firsts-worth : (rs : List Recurrence) (ls : List Ladder) → AreAlong d rs ls → AreWorth at (map (λ (r : Recurrence). r.first) rs) (map (λ (l : Ladder). l 1 i) ls)
    firsts-worth [] [] h = tt
    firsts-worth [] (l ∷ ls) h = absurd h
    firsts-worth (r ∷ rs) [] h = absurd h
    firsts-worth (r ∷ rs) (l ∷ ls) h = (h.0.first i within at reads, firsts-worth rs ls h.1)

    seconds-worth : (rs : List Recurrence) (ls : List Ladder) → AreAlong d rs ls → AreWorth at (map (λ (r : Recurrence). r.second) rs) (map (λ (l : Ladder). l 2 i) ls)
    seconds-worth [] [] h = tt
    seconds-worth [] (l ∷ ls) h = absurd h
    seconds-worth (r ∷ rs) [] h = absurd h
    seconds-worth (r ∷ rs) (l ∷ ls) h = (h.0.second i within at reads, seconds-worth rs ls h.1)

    thirds-worth : (rs : List Recurrence) (ls : List Ladder) → AreAlong d rs ls → AreWorth at (map (λ (r : Recurrence). r.third) rs) (map (λ (l : Ladder). l 3 i) ls)
    thirds-worth [] [] h = tt
    thirds-worth [] (l ∷ ls) h = absurd h
    thirds-worth (r ∷ rs) [] h = absurd h
    thirds-worth (r ∷ rs) (l ∷ ls) h = (h.0.third i within at reads, thirds-worth rs ls h.1)

  pub more-constant : (d e : ℕ) → d ≤ e → (rs : List Recurrence) (ls : List Ladder) → AreAlong d rs ls → AreAlong e rs ls
  more-constant d e less [] [] h = tt
  more-constant d e less [] (l ∷ ls) h = absurd h
  more-constant d e less (r ∷ rs) [] h = absurd h
  more-constant d e less (r ∷ rs) (l ∷ ls) h = (
    record { grows = h.0.grows; constant = λ none m i from. h.0.constant none m i (omega arith); start = h.0.start; first = h.0.first; second = h.0.second; third = h.0.third; fourth = h.0.fourth },
    more-constant d e less rs ls h.1,
  )

  pub along-append : (d : ℕ) (rs ss : List Recurrence) (ls ks : List Ladder) → AreAlong d rs ls → AreAlong d ss ks → AreAlong d (rs ++ ss) (ls ++ ks)
  along-append d [] ss [] ks h k = k
  along-append d [] ss (l ∷ ls) ks h k = absurd h
  along-append d (r ∷ rs) ss [] ks h k = absurd h
  along-append d (r ∷ rs) ss (l ∷ ls) ks h k = (h.0, along-append d rs ss ls ks h.1 k)

  -- ---- an unmodified column

  pub steady_ladder : ℕ → Ladder
  steady_ladder v zero i = number_in (states 0) v
  steady_ladder v (suc m) i = pos 0

  pub steady-along : (d : ℕ) (v : ℕ) → 1 ≤ d → is_modified true body.cases v ≡ false → IsAlong d (steady v) (steady_ladder v)
  unfolding steady_ladder
  steady-along d v some e = record {
    grows = λ m i within. grown m i;
    constant = λ none m i from. level m i;
    start = λ i within at reads. column_of-value at (At v) ∙ reads.each v ∙ unmodified-along body steps states run v e i within;
    first = λ i within at reads. IsWorth-whole at (pos 0);
    second = λ i within at reads. IsWorth-whole at (pos 0);
    third = λ i within at reads. IsWorth-whole at (pos 0);
    fourth = λ i within at reads. IsWorth-whole at (pos 0);
  }
    where
      itself : (x : ℤ) → x -ℤ x ≡ pos 0
      itself x = omega (arith, ints)

      grown : (m i : ℕ) → steady_ladder v m (i + 1) -ℤ steady_ladder v m i ≡ steady_ladder v (suc m) i
      grown zero i = itself (number_in (states 0) v)
      grown (suc m) i = itself (pos 0)

      level : (m i : ℕ) → steady_ladder v m i ≡ steady_ladder v m 0
      level zero i = refl
      level (suc m) i = refl

  pub steadies-along : (d : ℕ) (vs : List ℕ) → 1 ≤ d → AllByRecursion (λ v. is_modified true body.cases v ≡ false) vs → AreAlong d (map steady vs) (map steady_ladder vs)
  steadies-along d [] some h = tt
  steadies-along d (v ∷ vs) some h = (steady-along d v some h.0, steadies-along d vs some h.1)

  -- ---- products of known columns

  module _ (known : List (Option Polynomial)) (are : AreNext body steps states run known) (d : ℕ) where
    sequence-along : (m : List Col) → (ms ≡ [] → ⊥) → (has : IsTrue (list_all (is_known known) m)) → IsAlong d (sequence_of (columns_after_turn known) m) (product_ladder body steps states run known are m has)
    sequence-along m some has = record {
      grows = product-grows body steps states run known are m has;
      constant = λ none. absurd (some none);
      start = λ i within at reads. product-start body steps states run known are m has i at reads;
      first = λ i within at reads. product-first body steps states run known are m has i at reads;
      second = λ i within at reads. product-second body steps states run known are m has i at reads;
      third = λ i within at reads. product-third body steps states run known are m has i at reads;
      fourth = λ i within at reads. product-fourth body steps states run known are m has i at reads;
    }

    each-sequence : (ns : List (List Col)) → (ms ≡ [] → ⊥) → AllByRecursion (λ m. IsTrue (list_all (is_known known) m)) ns → (ls : List Ladder) × AreAlong d (map (sequence_of (columns_after_turn known)) ns) ls
    each-sequence [] some h = ([], tt)
    each-sequence (m ∷ ns) some h = let rest = each-sequence ns some h.1 in (product_ladder body steps states run known are m h.0 ∷ rest.0, (sequence-along m some h.0, rest.1))

    pub sequences-along : (ns : List (List Col)) → ms ≡ ns → (ls : List Ladder) × AreAlong d (sequences known ns) ls
    sequences-along [] e = ([], tt)
    sequences-along (n ∷ ns) e = each-sequence (known_products known (n ∷ ns)) (λ none. let same = sym none ∙ e in cc) (filter-passes (list_all (is_known known)) (n ∷ ns))

  -- ---- a term

  -- the constant stands at the first difference alone
  abbrev at_first : ℤ → ℕ → ℤ
  at_first c zero = c
  at_first c (suc m) = pos 0

  -- the term at each state; its differences by those of the lower terms
  pub term_ladder : Relation → List Ladder → Ladder
  term_ladder r ls zero i = dot r.a (map (number_in (states i)) (moving true body))
  term_ladder r ls (suc m) i = dot r.b (map (λ (l : Ladder). l m i) ls) +ℤ at_first r.c m

  -- the changes of the variables in a turn
  changes-are : (case : Case) (before after : List ℤ) (aux : ℕ → ℤ) → HoldsAt (numbers before aux) case after → (vs : List ℕ) → AllByRecursion (λ v. is_ok (change true case v) ≡ true) vs
      → map (value_of (numbers before aux)) (map (λ v. or_zero (change true case v)) vs) ≡ map (λ v. number_in after v -ℤ number_in before v) vs
  changes-are case before after aux holds [] h = refl
  changes-are case before after aux holds (v ∷ vs) h = λ i. change-value case before after aux holds true v h.0 i ∷ changes-are case before after aux holds vs h.1 i

  -- each variable that moves has an exact change in this case
  exact-in : (case : Case) (cases : List Case) → ((Q : Case → Type 0) → AllByRecursion Q cases → Q case) → (vs : List ℕ) → AllByRecursion (λ v. is_exact true cases v ≡ true) vs → AllByRecursion (λ v. is_ok (change true case v) ≡ true) vs
  exact-in case cases known [] h = tt
  exact-in case cases known (v ∷ vs) h = (known (λ c. is_ok (change true c v) ≡ true) (each-tested (λ c. is_ok (change true c v)) cases h.0), exact-in case cases known vs h.1)

  -- in a turn the term changes by the lower terms and the constant
  pub term-turns : (d : ℕ) (r : Relation) (rs : List Recurrence) (ls : List Ladder) → AreAlong d rs ls → IsTrueRelation (changes_of true body) (map (λ (l : Recurrence). l.start) rs) r → (i : ℕ) → i < steps
      → dot r.a (map (λ v. number_in (states (i + 1)) v -ℤ number_in (states i) v) (moving true body)) ≡ dot r.b (map (λ (l : Ladder). l 0 i) ls) +ℤ r.c
  term-turns d r rs ls along told i within =
      by_some body.cases (states i) (states (i + 1)) _
      (λ case known (aux, holds).
      let here : Valuation = numbers (states i) aux in
      ap (dot r.a) (sym (changes-are case (states i) (states (i + 1)) aux holds (moving true body) (exact-in case body.cases known (moving true body) (filter-passes (is_exact true body.cases) (modified_variables true body)))))
      ∙ known (λ c. IsTrueIn (map (λ (l : Recurrence). l.start) rs) r (changes_in true (moving true body) c)) (each-unmap (IsTrueIn (map (λ (l : Recurrence). l.start) rs) r) (changes_in true (moving true body)) body.cases told) here holds.rows
      ∙ ap (λ xs. dot r.b xs +ℤ r.c) (starts d i (omega arith) here (reads-numbers (states i) aux) rs ls along)) (run.links i within).some

  pub term-along : (d : ℕ) (r : Relation) (rs : List Recurrence) (ls : List Ladder) → AreAlong d rs ls → IsTrueRelation (changes_of true body) (map (λ (l : Recurrence). l.start) rs) r
      → IsAlong (suc d) (recurrence_of (moving true body) rs r) (term_ladder r ls)
  unfolding term_ladder
  term-along d r rs ls along told = record {
    grows = grown;
    constant = level;
    start = λ i within at reads. linear-value at r.a (map (λ v. At v) (moving true body)) ∙ ap (dot r.a) (maps-twice at (λ v. At v) (number_in (states i)) (moving true body) reads.each);
    first = λ i within at reads. IsWorth-sum (IsWorth-combination at r.b (map (λ (l : Recurrence). Ok l.start) rs) (map (λ (l : Ladder). l 0 i) ls) (starts-worth d i within at reads rs ls along)) (IsWorth-whole at r.c);
    second = λ i within at reads. IsWorth-same (plus_none _) (IsWorth-combination at r.b (map (λ (l : Recurrence). l.first) rs) (map (λ (l : Ladder). l 1 i) ls) (firsts-worth d i within at reads rs ls along));
    third = λ i within at reads. IsWorth-same (plus_none _) (IsWorth-combination at r.b (map (λ (l : Recurrence). l.second) rs) (map (λ (l : Ladder). l 2 i) ls) (seconds-worth d i within at reads rs ls along));
    fourth = λ i within at reads. IsWorth-same (plus_none _) (IsWorth-combination at r.b (map (λ (l : Recurrence). l.third) rs) (map (λ (l : Ladder). l 3 i) ls) (thirds-worth d i within at reads rs ls along));
  }
    where
      plus_none : (x : ℤ) → x ≡ x +ℤ pos 0
      plus_none x = omega (arith, ints)

      same_constant : (x y z c : ℤ) → x -ℤ y ≡ z → x +ℤ c -ℤ (y +ℤ c) ≡ z +ℤ pos 0
      same_constant x y z c e = omega (arith, ints)

      grown : (m i : ℕ) → i < steps → term_ladder r ls m (i + 1) -ℤ term_ladder r ls m i ≡ term_ladder r ls (suc m) i
      grown zero i within =
          dot-minus r.a (moving true body) (number_in (states (i + 1))) (number_in (states i)) (λ v. number_in (states (i + 1)) v -ℤ number_in (states i) v) (each-any _ (λ v. refl) (moving true body))
          ∙ term-turns d r rs ls along told i within
      grown (suc m) i within =
          same_constant _ _ _ (at_first r.c m) (dot-minus r.b ls (λ (l : Ladder). l m (i + 1)) (λ (l : Ladder). l m i) (λ (l : Ladder). l (suc m) i) (each-grows d m i within rs ls along))

      level : ms ≡ [] → (m i : ℕ) → suc d ≤ m → term_ladder r ls m i ≡ term_ladder r ls m 0
      level none zero i from = absurd (omega arith)
      level none (suc m) i from = ap (λ x. x +ℤ at_first r.c m) (dot-same r.b ls (λ (l : Ladder). l m i) (λ (l : Ladder). l m 0) (each-constant none d m i (omega arith) rs ls along))

  -- of a stratum
  pub terms-along : (d : ℕ) (rs : List Recurrence) (ls : List Ladder) → AreAlong d rs ls → (found : List Relation) → AllByRecursion (IsTrueRelation (changes_of true body) (map (λ (l : Recurrence). l.start) rs)) found
      → AreAlong (suc d) (map (λ (t : StratumTerm). t.recurrence) (map (term_of (moving true body) rs) found)) (map (λ r. term_ladder r ls) found)
  terms-along d rs ls along [] told = tt
  terms-along d rs ls along (r ∷ found) told = (term-along d r rs ls along told.0, terms-along d rs ls along found told.1)

  -- the term itself, and the change of a term of the first stratum
  pub term_ladder-start : (r : Relation) (ls : List Ladder) (i : ℕ) → term_ladder r ls 0 i ≡ dot r.a (map (number_in (states i)) (moving true body))
  unfolding term_ladder
  term_ladder-start r ls i = refl

  pub term_ladder-first : (r : Relation) (i : ℕ) → term_ladder r [] 1 i ≡ r.c
  unfolding term_ladder
  term_ladder-first r i = none r.b
    where
      alone : (x : ℤ) → pos 0 +ℤ x ≡ x
      alone x = omega (arith, ints)

      none : (bs : List ℤ) → dot bs [] +ℤ r.c ≡ r.c
      none [] = alone r.c
      none (b ∷ bs) = alone r.c
