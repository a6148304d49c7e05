-- The second case fits, and can be put in order.
use Rattle.std.proofs.Common.{◌≡◌, ℕ, zero, suc, ◌+◌, ◌<◌, ◌≤◌, List, [], ◌∷◌, ◌++◌, length, Bool, true, false, Ok, map, refl, sym, ap, subst, arith, ℤ, ◌∙◌}
use Rattle.std.specs.Prelude.{Option, None, Some, IsTrue, not, ◌==◌, ◌&&◌, unwrap_or, if◌then◌else◌, ◌||◌}
use Rattle.std.specs.Option.{option_map}
use Rattle.std.specs.List.{AllByRecursion, list_all, filter, range_with_len, list_any}
use Rattle.std.proofs.lemmas.List.FromFn.{length-map-range_with_len}
use Rattle.std.proofs.lemmas.Bool.Decides.{Decides-eqb}
use Rattle.items.specs.Gives.{◌>>=◌}
use Rattle.items.proofs.Gives.{on_ok}
use Rattle.items.proofs.Each.{each-append, each-map, each-any, each-more, each_from_test, test_from_each}
use Rattle.linear_terms.specs.declared.col.Col.{Col}
use Rattle.linear_terms.specs.declared.col.Col.TheVariants.{At, Aux}
use Rattle.linear_terms.specs.declared.row.Row.{Row}
use Rattle.linear_terms.specs.declared.row.Case.{Case}
use Rattle.linear_terms.specs.Auxiliaries.{is_numbered}
use Rattle.linear_terms.specs.Expressions.{◌⊠◌, ◌⊟◌, whole, column, or_zero, linear, put_into}
use Rattle.linear_terms.specs.Polynomial.{Polynomial, column_of}
use Rattle.linear_terms.specs.TermError.{times}
use Rattle.linear_terms.proofs.Columns.{EachColumn}
use Rattle.transition_formula.specs.Transition.{Transition, every_column, every_column_of, is_below, fits}
use Rattle.transition_formula.proofs.ColumnTests.{both_true, test_from_columns}
use Rattle.transition_formula.proofs.Fitting.{is_below-more, below-true, true-below}
use Rattle.posing.specs.Posing.{Done, ◌>>=◌ as ◌>>>◌, each, Always}
use Rattle.posing.proofs.Paths.{always_bind, always_any}
use Rattle.closed_form.specs.ClosedRow.{closed_row, sum_row}
use Rattle.farkas_check.specs.declared.stratum.Relation.{Relation}
use Rattle.polyhedra.specs.Vocabulary.{Vocabulary}
use Rattle.polyhedra.specs.Directions.{directions}
use Rattle.polyhedra.specs.Changes.{change, is_modified, is_exact, modified_variables, moving, occurs_in, changes_of, occurring}
use Rattle.polyhedra.specs.Bounds.{for_entries, put_in_for, with_row, before_row, after_row, change_row, rows_with_entry_bound, rows_with_exit_bound, bounded_change}
use Rattle.polyhedra.specs.Relations.{relations_of}
use Rattle.polyhedra.proofs.Lists.{each-filter, filter-passes}
use Rattle.polyhedra.proofs.OwnPosts.{is_post, same_post, owns, IsOwned}
use Rattle.polyhedra.proofs.Places.{any-range}
use Rattle.polyhedra.proofs.RowShapes.{with_row-keeps, bounded-keeps, each-keeps}
use Rattle.polyhedra.proofs.DirectionShapes.{each-distinct}
use Rattle.recurrence.specs.declared.terms.Recurrence.{Recurrence}
use Rattle.recurrence.specs.declared.terms.StratumTerm.{StratumTerm}
use Rattle.recurrence.specs.declared.terms.Strata.{Strata}
use Rattle.recurrence.specs.Products.{is_known, columns_after_turn, sequence_of, known_products, sequences, unmodified_columns, with_terms, products}
use Rattle.recurrence.specs.Words.{IsClosed}
use Rattle.recurrence.specs.Strata.{steady, term_of, has_terms, stratum, steady_columns, over, stratum_if, is_short, has_grown, strata, all_terms}
use Rattle.recurrence.specs.Progressions.{Progression, progressions, excess, progression_row, bounded_progression}
use Rattle.recurrence.specs.Star.{after_from, after, count, change_over_turns, posts, moves, past_third, is_none_or_lost, same_term, term_row, terms_once, terms_with_row, some_turn, rows_of, turns}
use Rattle.recurrence.proofs.ProgressionRows.{each-progression}
use Rattle.recurrence.proofs.Within.{IsWithin, within-Ok, within-whole, within-column, within-product, within-difference, within-or_zero, within-put_in_for, within-coefficients, IsRowWithin, within-at_most, within-closed_row, within-sum_row, IsRecurrenceWithin, steady-within, recurrence-within, sequence-within}
use Rattle.recurrence.proofs.SolvedColumns.{unchanged-closed, unchanged-long, terms-closed, terms-long, known-low, turned-each}

range-below : (b a n : ℕ) → a + n ≤ b → AllByRecursion (λ v. v < b) (range_with_len a n)
range-below b a zero h = tt
range-below b a (suc n) h = (omega arith, range-below b (a + 1) n (omega arith))

length-filter : {A : Type 0} (test : A → Bool) (xs : List A) → length (filter test xs) ≤ length xs
length-filter test [] = omega arith
length-filter test (x ∷ xs) = go (test x) (length-filter test xs)
  where
    go : (b : Bool) → length (filter test xs) ≤ length xs → length (if b then x ∷ filter test xs else filter test xs) ≤ suc (length xs)
    go true h = omega arith
    go false h = omega arith

range-length : (a n : ℕ) → length (range_with_len a n) ≡ n
range-length a zero = refl
range-length a (suc n) = ap (λ m. suc m) (range-length (a + 1) n)

-- a number of an auxiliary among those from n on, or a column
after_from-below : (to m n : ℕ) (us : List ℕ) (v : ℕ) → v < to → n + length us ≤ m → IsTrue (is_below to m (after_from n us v))
after_from-below to m n [] v low few = below-true v to low
after_from-below to m n (u ∷ us) v low few = go (u == v) (after_from-below to m (n + 1) us v low (omega arith))
  where
    go : (b : Bool) → IsTrue (is_below to m (after_from (n + 1) us v)) → IsTrue (is_below to m (if b then Aux n else after_from (n + 1) us v))
    go true rest = below-true n m (omega arith)
    go false rest = rest

-- a number of a range that has the auxiliary for the one that comes so many places after the first
record Stands (a k n j : ℕ) (us : List ℕ) : Type 0 where
  at : ℕ
  low : a ≤ at
  high : at < a + k
  is : after_from n us at ≡ Aux (n + j)

-- each auxiliary stands for one of the numbers that pass
stands : (test : ℕ → Bool) (a k n j : ℕ) → j < length (filter test (range_with_len a k)) → Stands a k n j (filter test (range_with_len a k))
stands test a zero n j lt = absurd (omega arith)
stands test a (suc k) n j lt = go (test a) j lt (stands test (a + 1) k)
  where
    rest : List ℕ
    rest = filter test (range_with_len (a + 1) k)

    itself : (v : ℕ) → (v == v) ≡ true
    itself v = grind arith

    none_added : (n : ℕ) → n ≡ n + 0
    none_added n = omega arith

    one_later : (n j : ℕ) → n + 1 + j ≡ n + suc j
    one_later n j = omega arith

    other : (v : ℕ) → a + 1 ≤ v → (a == v) ≡ false
    other v more = grind arith

    first : Stands a (suc k) n 0 (a ∷ rest)
    first = record {
      at = a;
      low = omega arith;
      high = omega arith;
      is = ap (λ b. if b then Aux n else after_from (n + 1) rest a) (itself a) ∙ ap (λ m. Aux m) (none_added n);
    }

    later : (i : ℕ) → Stands (a + 1) k (n + 1) i rest → Stands a (suc k) n (suc i) (a ∷ rest)
    later i s = record {
      at = s.at;
      low = let above = s.low in omega arith;
      high = let under = s.high in omega arith;
      is = ap (λ b. if b then Aux n else after_from (n + 1) rest s.at) (other s.at s.low) ∙ s.is ∙ ap (λ m. Aux m) (one_later n i);
    }

    stays : (i : ℕ) → Stands (a + 1) k n i rest → Stands a (suc k) n i rest
    stays i s = record { at = s.at; low = let above = s.low in omega arith; high = let under = s.high in omega arith; is = s.is }

    go : (b : Bool) (i : ℕ) → i < length (if b then a ∷ filter test (range_with_len (a + 1) k) else filter test (range_with_len (a + 1) k))
        → ((m i : ℕ) → i < length (filter test (range_with_len (a + 1) k)) → Stands (a + 1) k m i (filter test (range_with_len (a + 1) k)))
        → Stands a (suc k) n i (if b then a ∷ filter test (range_with_len (a + 1) k) else filter test (range_with_len (a + 1) k))
    go true zero low ih = first
    go true (suc i) low ih = later i (ih (n + 1) i (omega arith))
    go false i low ih = stays i (ih n i low)

module _ (body : Transition) where
  aux : ℕ
  aux = length (modified_variables true body) + 1

  abbrev pub Below : Col → Type 0
  Below c = IsTrue (is_below body.to (length (modified_variables true body) + 1) c)

  -- an entry column
  abbrev pub Entry : Col → Type 0
  Entry c = IsTrue (is_below body.to 0 c)

  -- the case fits, and can be put in order
  pub record IsFit (case : Case) : Type 0 where
    pub fits : IsTrue (fits body.to body.to case)
    pub numbered : IsTrue (every_column_of (is_numbered case.aux) case)
    pub owned : IsOwned (length (modified_variables true body) ∷ []) case
    pub posts_are : length case.post ≡ body.to

  entry-below : (c : Col) → Entry c → Below c
  entry-below c h = is_below-more body.to 0 (length (modified_variables true body) + 1) (omega arith) c h

  modified-below : AllByRecursion (λ v. v < body.to) (modified_variables true body)
  modified-below = each-filter (λ v. v < body.to) (is_modified true body.cases) (range_with_len 0 body.to) (range-below body.to 0 body.to (omega arith))

  moving-below : AllByRecursion (λ v. v < body.to) (moving true body)
  moving-below = each-filter (λ v. v < body.to) (is_exact true body.cases) (modified_variables true body) modified-below

  steady-below : body.from ≡ body.to → AllByRecursion (λ v. v < body.to) (steady_columns body)
  steady-below same =
      each-filter (λ v. v < body.to) (λ v. not (is_modified true body.cases v)) (occurring true body)
      (each-filter (λ v. v < body.to) (occurs_in (changes_of true body)) (range_with_len 0 body.from) (subst (λ n. AllByRecursion (λ v. v < body.to) (range_with_len 0 n)) (sym same) (range-below body.to 0 body.to (omega arith))))

  column-below : (v : ℕ) → v < body.to → Below (At v)
  column-below v h = below-true v body.to h

  after-below : (v : ℕ) → v < body.to → Below (after body v)
  after-below v h = after_from-below body.to (length (modified_variables true body) + 1) 0 (modified_variables true body) v h (omega arith)

  count-below : Below (count body)
  count-below = below-true (length (modified_variables true body)) (length (modified_variables true body) + 1) (omega arith)

  moved-within : (v : ℕ) → v < body.to → IsWithin Below (change_over_turns body v)
  moved-within v h = within-difference Below (column (after body v)) (column (At v)) (within-column Below (after body v) (after-below v h)) (within-column Below (At v) (column-below v h))

  -- ---- strata

  abbrev TermWithin : StratumTerm → Type 0
  TermWithin t = IsRecurrenceWithin Below t.recurrence

  abbrev OfSome : Option (List StratumTerm) → Type 0
  OfSome None = Unit {0}
  OfSome (Some terms) = AllByRecursion TermWithin terms

  of_unwrapped : (v : Option (List StratumTerm)) → OfSome v → AllByRecursion TermWithin (unwrap_or v [])
  of_unwrapped None h = tt
  of_unwrapped (Some terms) h = h

  module _ (same_ends : body.from ≡ body.to) where
    -- known columns are entry columns, and so is what is known of them
    sequences-within : (known : List (Option Polynomial)) → IsClosed known → length known ≤ body.to → (ms : List (List Col)) → AllByRecursion (IsRecurrenceWithin Below) (sequences known ms)
    sequences-within known closed few ms =
        each-map (λ m. list_all (is_known known) m ≡ true) (IsRecurrenceWithin Below) (sequence_of (columns_after_turn known))
        (λ m k. sequence-within Below (columns_after_turn known) next m (each_from_test (is_known known) Below known-below m k)) (known_products known ms) (filter-passes (list_all (is_known known)) ms)
      where
        known-below : (c : Col) → IsTrue (is_known known c) → Below c
        known-below (At v) h = column-below v (let low = known-low known v h in omega arith)
        known-below (Aux n) h = cc

        next : AllByRecursion (λ (p : Polynomial). EachColumn Below p.terms) (columns_after_turn known)
        next = turned-each known (λ p. EachColumn Below p.terms) tt (λ v p e.
            each-more (λ t. AllByRecursion (λ c. IsTrue (is_known known c)) t.0) (λ t. AllByRecursion Below t.0) (λ t k. each-more (λ c. IsTrue (is_known known c)) Below known-below t.0 k) p.terms (closed (At v) p e))

    over-within : (known : List (Option Polynomial)) → IsClosed known → length known ≤ body.to → (ms : List (List Col)) (v : Option (List StratumTerm)) → OfSome v → AllByRecursion (IsRecurrenceWithin Below) (over body ms known v)
    over-within known closed few ms v h =
        each-append (IsRecurrenceWithin Below) (map steady (steady_columns body) ++ map (λ (t : StratumTerm). t.recurrence) (unwrap_or v [])) (sequences known ms)
        (each-append (IsRecurrenceWithin Below) (map steady (steady_columns body)) (map (λ (t : StratumTerm). t.recurrence) (unwrap_or v []))
        (each-map (λ v. v < body.to) (IsRecurrenceWithin Below) steady (λ v k. steady-within Below v (column-below v k)) (steady_columns body) (steady-below same_ends))
        (each-map TermWithin (IsRecurrenceWithin Below) (λ (t : StratumTerm). t.recurrence) (λ t k. k) (unwrap_or v []) (of_unwrapped v h)))
        (sequences-within known closed few ms)

    stratum-within : (lower : List Recurrence) → AllByRecursion (IsRecurrenceWithin Below) lower → Always OfSome (stratum body lower)
    unfolding stratum
    stratum-within lower h =
        always_bind (λ found. Unit {0}) OfSome (relations_of (changes_of true body) (map (λ (l : Recurrence). l.start) lower)) (λ found. Done (option_map (λ rs. map (term_of (moving true body) lower) (filter has_terms rs)) found))
        (always_any (λ found. Unit {0}) (relations_of (changes_of true body) (map (λ (l : Recurrence). l.start) lower)) (λ found. tt)) go
      where
        go : (found : Option (List Relation)) → Unit {0} → OfSome (option_map (λ rs. map (term_of (moving true body) lower) (filter has_terms rs)) found)
        go None any = tt
        go (Some rs) any =
            each-map (λ r. Unit {0}) TermWithin (term_of (moving true body) lower)
            (λ r any. recurrence-within Below (moving true body) lower r (each-more (λ v. v < body.to) (λ v. Below (At v)) column-below (moving true body) moving-below) h)
            (filter has_terms rs) (each-any (λ r. Unit {0}) (λ r. tt) (filter has_terms rs))

    stratum_if-within : (asked : Bool) (lower : List Recurrence) → AllByRecursion (IsRecurrenceWithin Below) lower → Always OfSome (stratum_if asked body lower)
    stratum_if-within true lower h = stratum-within lower h
    stratum_if-within false lower h = tt

    pub record AreWithin (s : Strata) : Type 0 where
      pub first : AllByRecursion TermWithin s.first
      pub second : AllByRecursion TermWithin s.second
      pub third : AllByRecursion TermWithin s.third

    strata-within : (ms : List (List Col)) → Always AreWithin (strata body ms)
    unfolding strata
    strata-within ms =
        let closed0 = unchanged-closed body ms in
        let few0 = unchanged-long body ms in
        always_bind OfSome AreWithin (stratum body []) _ (stratum-within [] tt) (λ v1 h1.
        let known1 = with_terms body (unmodified_columns body ms) v1 in
        let closed1 = terms-closed body (unmodified_columns body ms) v1 closed0 in
        let few1 = terms-long body (unmodified_columns body ms) v1 body.to few0 in
        always_bind OfSome AreWithin (stratum_if (is_short (length (modified_variables true body)) v1) body (over body ms known1 v1)) _
        (stratum_if-within (is_short (length (modified_variables true body)) v1) (over body ms known1 v1) (over-within known1 closed1 few1 ms v1 h1)) (λ v2 h2.
        let known2 = with_terms body known1 v2 in
        let closed2 = terms-closed body known1 v2 closed1 in
        let few2 = terms-long body known1 v2 body.to few1 in
        always_bind OfSome AreWithin (stratum_if (has_grown v1 v2 && is_short (length (modified_variables true body)) v2) body (over body ms known2 v2)) _
        (stratum_if-within (has_grown v1 v2 && is_short (length (modified_variables true body)) v2) (over body ms known2 v2) (over-within known2 closed2 few2 ms v2 h2)) (λ v3 h3.
        record { first = of_unwrapped v1 h1; second = of_unwrapped v2 h2; third = of_unwrapped v3 h3 })))

    -- ---- rows

    abbrev RowWithin : Row → Type 0
    RowWithin row = EachColumn Below row.poly.terms

    abbrev pub RowsWithin : List Row → Type 0
    RowsWithin rows = AllByRecursion (λ row. EachColumn Below row.poly.terms) rows

    term_row-within : (ms : List (List Col)) (t : StratumTerm) → TermWithin t → IsRowWithin Below (term_row ms body t)
    term_row-within ms t h = record {
      as_made = λ r e.
          on_ok (past_third ms t) (λ d4. t.recurrence.first >>= λ d1. t.recurrence.second >>= λ d2. t.recurrence.third >>= λ d3. closed_row (linear t.relation.a (map (after body) (moving true body))) t.recurrence.start d1 d2 d3 (count body)) r e (λ d4 e4 e0.
          on_ok t.recurrence.first (λ d1. t.recurrence.second >>= λ d2. t.recurrence.third >>= λ d3. closed_row (linear t.relation.a (map (after body) (moving true body))) t.recurrence.start d1 d2 d3 (count body)) r e0 (λ d1 e1 f.
          on_ok t.recurrence.second (λ d2. t.recurrence.third >>= λ d3. closed_row (linear t.relation.a (map (after body) (moving true body))) t.recurrence.start d1 d2 d3 (count body)) r f (λ d2 e2 g.
          on_ok t.recurrence.third (λ d3. closed_row (linear t.relation.a (map (after body) (moving true body))) t.recurrence.start d1 d2 d3 (count body)) r g (λ d3 e3 k.
          (within-closed_row Below (linear t.relation.a (map (after body) (moving true body))) t.recurrence.start d1 d2 d3 (count body)
          (within-coefficients Below t.relation.a (map (after body) (moving true body)) (each-map (λ v. v < body.to) Below (after body) after-below (moving true body) moving-below))
          h.start (h.first.as_made d1 e1) (h.second.as_made d2 e2) (h.third.as_made d3 e3) count-below).as_made r k))));
    }

    abbrev ProgressionWithin : Progression → Type 0
    ProgressionWithin p = (p.variable < body.to) × TermWithin p.term

    progression_row-within : (p : Progression) (most : ℤ) → ProgressionWithin p → IsRowWithin Below (progression_row (change_over_turns body) (count body) p most)
    progression_row-within p most h = record {
      as_made = λ r e.
          on_ok (whole p.up ⊠ change_over_turns body p.variable) (λ d. times p.by p.term.relation.c >>= λ g. (whole p.by ⊠ Ok p.term.recurrence.start) >>= λ s. sum_row d s g most (count body)) r e (λ d e1 f.
          on_ok (times p.by p.term.relation.c) (λ g. (whole p.by ⊠ Ok p.term.recurrence.start) >>= λ s. sum_row d s g most (count body)) r f (λ g e2 k.
          on_ok (whole p.by ⊠ Ok p.term.recurrence.start) (λ s. sum_row d s g most (count body)) r k (λ s e3 l.
          (within-sum_row Below d s g most (count body)
          ((within-product Below (whole p.up) (change_over_turns body p.variable) (within-whole Below p.up) (moved-within p.variable h.0)).as_made d e1)
          ((within-product Below (whole p.by) (Ok p.term.recurrence.start) (within-whole Below p.by) (within-Ok Below p.term.recurrence.start h.1.start)).as_made s e3) count-below).as_made r l)));
    }

    progressions-within : (voc : Vocabulary) (s : Strata) → AreWithin s → AllByRecursion ProgressionWithin (progressions body voc s)
    progressions-within voc s are = each-progression body voc s TermWithin (λ v. v < body.to) are.first (each-filter (λ v. v < body.to) _ (modified_variables true body) modified-below)

    posts-within : AllByRecursion (λ (p : Polynomial). EachColumn Below p.terms) (posts body)
    posts-within =
        each-map (λ v. v < body.to) (λ (p : Polynomial). EachColumn Below p.terms) (λ v. column_of (after body v)) (λ v low. ((after-below v low, tt), tt)) (range_with_len 0 body.to) (range-below body.to 0 body.to (omega arith))

    moves-within : AllByRecursion (λ (p : Polynomial). EachColumn Below p.terms) (moves body)
    moves-within =
        each-map (λ v. v < body.to) (λ (p : Polynomial). EachColumn Below p.terms) (λ v. or_zero (change_over_turns body v)) (λ v low. within-or_zero Below (change_over_turns body v) (moved-within v low)) (range_with_len 0 body.to) (range-below body.to 0 body.to (omega arith))

    module _ (voc : Vocabulary) (within : AllByRecursion (λ (d : Polynomial). EachColumn Entry d.terms) (directions voc)) where
      each-below : (d : Polynomial) → EachColumn Entry d.terms → EachColumn Below d.terms
      each-below d h = each-more (λ t. AllByRecursion Entry t.0) (λ t. AllByRecursion Below t.0) (λ t k. each-more Entry Below entry-below t.0 k) d.terms h

      rows-within : (s : Strata) → AreWithin s → Always RowsWithin (rows_of body voc s)
      unfolding rows_of
      rows-within s are =
          always_bind RowsWithin RowsWithin (each (λ rows t. with_row rows (term_row (products body voc) body t)) [] (terms_with_row (products body voc) s)) _
          (each-keeps RowWithin TermWithin (λ rows t. with_row rows (term_row (products body voc) body t)) [] (terms_with_row (products body voc) s)
          (λ rows t k fine. with_row-keeps RowWithin rows (term_row (products body voc) body t) (term_row-within (products body voc) t k).as_made fine)
          (each-filter TermWithin (λ t. is_none_or_lost (past_third (products body voc) t)) (terms_once s) (each-distinct TermWithin same_term (all_terms s)
          (each-append TermWithin (s.first ++ s.second) s.third (each-append TermWithin s.first s.second are.first are.second) are.third))) tt) (λ equations h1.
          always_bind RowsWithin RowsWithin (each (rows_with_entry_bound body.cases) (equations ++ some_turn body ∷ []) (directions voc)) _
          (each-keeps RowWithin (λ (d : Polynomial). EachColumn Entry d.terms) (rows_with_entry_bound body.cases) (equations ++ some_turn body ∷ []) (directions voc)
          (λ rows d k fine. bounded-keeps RowWithin body.cases (λ case. Ok d) (before_row d) rows (λ most. (within-at_most Below (Ok d ⊟ whole most) (within-difference Below (Ok d) (whole most) (within-Ok Below d (each-below d k)) (within-whole Below most))).as_made) fine)
          within (each-append (λ r. EachColumn Below r.poly.terms) equations (some_turn body ∷ []) h1 (((count-below, tt), tt), tt))) (λ before h2.
          always_bind RowsWithin RowsWithin (each (rows_with_exit_bound body.cases (posts body)) before (directions voc)) _
          (each-keeps RowWithin (λ d. Unit {0}) (rows_with_exit_bound body.cases (posts body)) before (directions voc)
          (λ rows d k fine. bounded-keeps RowWithin body.cases (λ case. put_in_for case.post d) (after_row (posts body) d) rows
          (λ most. (within-at_most Below (put_in_for (posts body) d ⊟ whole most) (within-difference Below (put_in_for (posts body) d) (whole most) (within-put_in_for Below (posts body) d posts-within) (within-whole Below most))).as_made) fine)
          (each-any (λ d. Unit {0}) (λ d. tt) (directions voc)) h2) (λ after_too h3.
          always_bind RowsWithin RowsWithin (each (bounded_change body.cases (moves body) (Some (count body))) after_too (directions voc ++ voc.extra)) _
          (each-keeps RowWithin (λ d. Unit {0}) (bounded_change body.cases (moves body) (Some (count body))) after_too (directions voc ++ voc.extra)
          (λ rows d k fine. bounded-keeps RowWithin body.cases (λ case. put_into (for_entries (change true case)) d) (change_row (moves body) (Some (count body)) d) rows
          (λ most. (within-at_most Below (put_in_for (moves body) d ⊟ whole most ⊠ column (count body)) (within-difference Below (put_in_for (moves body) d) (whole most ⊠ column (count body))
          (within-put_in_for Below (moves body) d moves-within) (within-product Below (whole most) (column (count body)) (within-whole Below most) (within-column Below (count body) count-below)))).as_made) fine)
          (each-any (λ d. Unit {0}) (λ d. tt) (directions voc ++ voc.extra)) h3) (λ changes h4.
          each-keeps RowWithin ProgressionWithin (bounded_progression body.cases (change_over_turns body) (count body)) changes (progressions body voc s)
          (λ rows p k fine. bounded-keeps RowWithin body.cases (excess p) (progression_row (change_over_turns body) (count body) p) rows (λ most. (progression_row-within p most k).as_made) fine)
          (progressions-within voc s are) h4))))

      rows-tested : (test : Col → Bool) → ((c : Col) → Below c → IsTrue (test c)) → (rows : List Row) → RowsWithin rows → IsTrue (list_all (λ row. every_column test row.poly) rows)
      rows-tested test more rows h = test_from_each (λ row. every_column test row.poly) (λ row. EachColumn Below row.poly.terms) (λ row k. polys-tested test more row.poly k) rows h
        where
          polys-tested : (test : Col → Bool) → ((c : Col) → Below c → IsTrue (test c)) → (p : Polynomial) → EachColumn Below p.terms → IsTrue (every_column test p)
          polys-tested test more p k = test_from_columns test p (each-more (λ t. AllByRecursion Below t.0) (λ t. AllByRecursion (λ c. IsTrue (test c)) t.0) (λ t l. each-more Below (λ c. IsTrue (test c)) more t.0 l) p.terms k)

      posts-tested : (test : Col → Bool) → ((c : Col) → Below c → IsTrue (test c)) → IsTrue (list_all (every_column test) (posts body))
      posts-tested test more = test_from_each (every_column test) (λ (p : Polynomial). EachColumn Below p.terms)
          (λ p k. test_from_columns test p (each-more (λ t. AllByRecursion Below t.0) (λ t. AllByRecursion (λ c. IsTrue (test c)) t.0) (λ t l. each-more Below (λ c. IsTrue (test c)) more t.0 l) p.terms k)) (posts body) posts-within

      numbered : (c : Col) → Below c → IsTrue (is_numbered (length (modified_variables true body) + 1) c)
      numbered (At v) h = refl
      numbered (Aux n) h = h

      -- each auxiliary is the number of turns or a post by itself
      is-owned : (c : Col) → Below c → IsTrue (owns (length (modified_variables true body) ∷ []) (posts body) c)
      is-owned (At v) h = refl
      is-owned (Aux n) h = go (length (modified_variables true body) == n) refl
        where
          alone : (n : ℕ) → 0 + n ≡ n
          alone n = omega arith

          posted : n < length (modified_variables true body) → IsTrue (list_any (is_post n) (posts body))
          posted low =
              let s = stands (is_modified true body.cases) 0 body.to 0 n low in
              any-range (is_post n) (λ v. column_of (after body v)) 0 body.to s.at s.low s.high
              (subst (λ c. IsTrue (is_post n (column_of c))) (sym (s.is ∙ ap (λ m. Aux m) (alone n))) (same_post (column_of (Aux n))))

          below : n < length (modified_variables true body) + 1
          below = true-below n (length (modified_variables true body) + 1) h

          apart : (k : ℕ) → n < k + 1 → (k == n) ≡ false → n < k
          apart k low differs = grind arith

          go : (b : Bool) → (length (modified_variables true body) == n) ≡ b → IsTrue ((b || false) || list_any (is_post n) (posts body))
          go true e = refl
          go false e = posted (apart (length (modified_variables true body)) below e)

      pub turns-fit : Always IsFit (turns body voc)
      unfolding turns ◌>>>◌
      turns-fit =
          always_bind AreWithin IsFit (strata body (products body voc)) _ (strata-within (products body voc)) (λ s are.
          always_bind RowsWithin IsFit (rows_of body voc s) _ (rows-within s are) (λ rows h.
          record {
            fits = both_true (length (posts body) == body.to) _ ((Decides-eqb _ body.to).1 (length-map-range_with_len (λ v. column_of (after body v)) 0 body.to))
                (both_true (list_all (λ row. every_column (is_below body.to (length (modified_variables true body) + 1)) row.poly) rows) _ (rows-tested (is_below body.to (length (modified_variables true body) + 1)) (λ c k. k) rows h)
                (posts-tested (is_below body.to (length (modified_variables true body) + 1)) (λ c k. k)));
            numbered = both_true (list_all (λ row. every_column (is_numbered (length (modified_variables true body) + 1)) row.poly) rows) _ (rows-tested (is_numbered (length (modified_variables true body) + 1)) numbered rows h)
                (posts-tested (is_numbered (length (modified_variables true body) + 1)) numbered);
            owned = both_true (list_all (λ row. every_column (owns (length (modified_variables true body) ∷ []) (posts body)) row.poly) rows) _ (rows-tested (owns (length (modified_variables true body) ∷ []) (posts body)) is-owned rows h)
                (posts-tested (owns (length (modified_variables true body) ∷ []) (posts body)) is-owned);
            posts_are = length-map-range_with_len (λ v. column_of (after body v)) 0 body.to;
          }))
