-- Star holds of the first and the last state of every run.
use Rattle.std.proofs.Common.{◌≡◌, inl, ℕ, zero, suc, ◌+◌, ◌<◌, ◌≤◌, List, [], ◌∷◌, ◌++◌, Bool, true, false, Ok, map, length, get_or, refl, sym, ap, subst, ◌∙◌, arith, ℤ, pos, negsuc, ◌+ℤ◌, ◌-ℤ◌, ◌*ℤ◌, ◌≤ℤ◌}
use Rattle.std.specs.Prelude.{Option, None, Some, IsTrue, unwrap_or, option_to_list, if◌then◌else◌, ◌==◌, nat_lt, ◌||◌}
use Rattle.std.specs.List.{AllByRecursion, list_any, range_with_len}
use Rattle.std.specs.Ordering.{match_ordering}
use Rattle.std.specs.declared.cmp.Ordering.{Ordering}
use Rattle.std.specs.declared.cmp.Ordering.TheVariants.{Less, Equal, Greater}
use Rattle.std.proofs.lemmas.Int.{ints}
use Rattle.std.proofs.lemmas.List.{length-map}
use Rattle.std.proofs.lemmas.List.FromFn.{fill_by_all, length-map-range_with_len}
use Rattle.std.proofs.lemmas.Option.{unwrap_or-slice_get, slice_get_past}
use Rattle.items.specs.Gives as gives
use Rattle.items.proofs.Each.{each-append, each-both}
use Rattle.linear_terms.specs.declared.col.Col.{Col}
use Rattle.linear_terms.specs.declared.col.Col.TheVariants.{At, Aux}
use Rattle.linear_terms.specs.declared.row.Case.{Case}
use Rattle.linear_terms.specs.Auxiliaries.{is_numbered}
use Rattle.linear_terms.specs.Expressions.{Made, ◌⊟◌, column, or_zero}
use Rattle.linear_terms.specs.Mono.{mono_cmp}
use Rattle.linear_terms.specs.Operations.{with_term, put, put_all}
use Rattle.linear_terms.specs.Polynomial.{Polynomial, constant_of, column_of}
use Rattle.linear_terms.specs.TermError.{plus}
use Rattle.linear_terms.specs.Row.{RowHolds, RowsHold, AreCanonical}
use Rattle.linear_terms.specs.Value.{Valuation, value_of}
use Rattle.linear_terms.proofs.Worth.{IsWorth-same, IsWorth-whole, IsWorth-column, IsWorth-product, IsWorth-difference, column_of-value}
use Rattle.transition_formula.specs.Composition.{identity_of}
use Rattle.transition_formula.specs.Meaning.{numbers, HoldsCase, HoldsLeft, HoldsSome, Holds, IsChain, last_of, HoldsOfChains}
use Rattle.transition_formula.specs.Transition.{Transition, fits, IsTransition, every_column_of, is_below}
use Rattle.transition_formula.proofs.ColumnTests.{both, each_from_test}
use Rattle.transition_formula.proofs.Meanings.{joined-left, joined-right, identity-holds}
use Rattle.posing.specs.Posing.{Posing, Done, Noted, Asked, ◌>>=◌, each, Always}
use Rattle.posing.proofs.Paths.{always_bind, always_weaker, always_any}
use Rattle.polyhedra.specs.Vocabulary.{Vocabulary, IsDirection}
use Rattle.polyhedra.specs.Directions.{directions}
use Rattle.polyhedra.specs.Changes.{poly_at, is_modified, modified_variables}
use Rattle.polyhedra.specs.Bounds.{with_row, rows_with_entry_bound, rows_with_exit_bound, bounded_change}
use Rattle.polyhedra.specs.Finish.{finish_of_case}
use Rattle.polyhedra.proofs.Lists.{same_number, unfound, each-filter, filter-passes}
use Rattle.polyhedra.proofs.DirectionShapes.{each-distinct}
use Rattle.polyhedra.proofs.SettleLaws.{KeepsLeft}
use Rattle.polyhedra.proofs.FinishLaws.{finished-covers}
use Rattle.polyhedra.proofs.Turns.{number_in, by_some, IsRunOf, unmodified-along}
use Rattle.polyhedra.proofs.RunBounds.{IsOver, each-true, with_row-true, before-true, after-true, change-true}
use Rattle.recurrence.specs.declared.terms.Strata.{Strata}
use Rattle.recurrence.specs.Products.{products}
use Rattle.recurrence.specs.Strata.{strata, all_terms}
use Rattle.recurrence.specs.Progressions.{open_variables, progressions, bounded_progression}
use Rattle.recurrence.specs.Star.{after_from, after, count, change_over_turns, posts, moves, past_third, term_row, is_none_or_lost, same_term, terms_once, terms_with_row, some_turn, rows_of, turns, star_by, star_of}
use Rattle.recurrence.proofs.StratumTerms.{IsTermAlong, IsFirstTerm, AreStrata, strata-along, all-along, IsAfter, term_row-true}
use Rattle.recurrence.proofs.ProgressionRows.{progression-true, each-progression}
use Rattle.items.proofs.Each.{each-any}

-- ---- more laws of `Always`

pub always_both : {A : Type 0} (P Q : A → Type 0) (p : Posing A) → Always P p → Always Q p → Always (λ x. P x × Q x) p
always_both P Q (Done x) h k = (h, k)
always_both P Q (Noted notes p) h k = always_both P Q p h k
always_both P Q (Asked question next) h k = λ answer is_true. always_both P Q (next answer) (h answer is_true) (k answer is_true)

pub always_every : {A C : Type 0} (P : C → A → Type 0) (p : Posing A) → ((c : C) → Always (P c) p) → Always (λ x. (c : C) → P c x) p
always_every P (Done x) h = h
always_every P (Noted notes p) h = always_every P p h
always_every P (Asked question next) h = λ answer is_true. always_every P (next answer) (λ c. h c answer is_true)

-- ---- numbers for the auxiliaries

-- the last number of each modified variable, and then a number
held : (ℕ → ℤ) → List ℕ → ℤ → ℕ → ℤ
held last [] k n = k
held last (u ∷ us) k zero = last u
held last (u ∷ us) k (suc n) = held last us k n

held-count : (last : ℕ → ℤ) (us : List ℕ) (k : ℤ) → held last us k (length us) ≡ k
unfolding held
held-count last [] k = refl
held-count last (u ∷ us) k = held-count last us k

-- where a variable is found its column has its number, and another stays
after_from-value : (last : ℕ → ℤ) (k : ℤ) (at : Valuation) (v n : ℕ) (us : List ℕ) → ((i : ℕ) → at (Aux (n + i)) ≡ held last us k i) → (list_any (λ u. u == v) us ≡ false → at (At v) ≡ last v)
    → at (after_from n us v) ≡ last v
unfolding held
after_from-value last k at v n [] auxes other = other refl
after_from-value last k at v n (u ∷ us) auxes other =
    go (u == v) refl (after_from-value last k at v (n + 1) us (λ i. ap (λ m. at (Aux m)) (shifted n i) ∙ auxes (suc i)))
  where
    shifted : (n i : ℕ) → n + 1 + i ≡ n + suc i
    shifted n i = omega arith

    no_shift : (n : ℕ) → n ≡ n + 0
    no_shift n = omega arith

    or_false : (b c : Bool) → b ≡ false → c ≡ false → (b || c) ≡ false
    or_false true c e f = cc
    or_false false c e f = f

    go : (b : Bool) → (u == v) ≡ b → ((list_any (λ u. u == v) us ≡ false → at (At v) ≡ last v) → at (after_from (n + 1) us v) ≡ last v) → at (if b then Aux n else after_from (n + 1) us v) ≡ last v
    go true same rest = ap (λ m. at (Aux m)) (no_shift n) ∙ auxes 0 ∙ ap last (same_number u v same)
    go false differs rest = rest (λ none. other (or_false (u == v) (list_any (λ u. u == v) us) differs none))

number_past : (state : List ℤ) (v : ℕ) → length state ≤ v → number_in state v ≡ pos 0
number_past state v past = ap (λ o. unwrap_or o (pos 0)) (slice_get_past state v past)

-- a polynomial for each of the first numbers, and 0 past them
mapped-at : (f : ℕ → Polynomial) (a n v : ℕ) → v < n → poly_at (map f (range_with_len a n)) v ≡ f (a + v)
mapped-at f a zero v low = absurd (omega arith)
mapped-at f a (suc n) zero low = ap f (none a)
  where
    none : (a : ℕ) → a ≡ a + 0
    none a = omega arith
mapped-at f a (suc n) (suc v) low = mapped-at f (a + 1) n v (omega arith) ∙ ap f (shifted a v)
  where
    shifted : (a v : ℕ) → a + 1 + v ≡ a + suc v
    shifted a v = omega arith

mapped-first : (f : ℕ → Polynomial) (n v : ℕ) → v < n → poly_at (map f (range_with_len 0 n)) v ≡ f v
mapped-first f n v low = mapped-at f 0 n v low ∙ ap f (none v)
  where
    none : (v : ℕ) → 0 + v ≡ v
    none v = omega arith

mapped-past : (f : ℕ → Polynomial) (n v : ℕ) → n ≤ v → poly_at (map f (range_with_len 0 n)) v ≡ constant_of (pos 0)
mapped-past f n v past = ap (λ o. unwrap_or o (constant_of (pos 0))) (slice_get_past (map f (range_with_len 0 n)) v (subst (λ m. m ≤ v) (sym (length-map-range_with_len f 0 n)) past))

-- the difference of two columns as it is made, by their order
abbrev pub by_order : Col → Col → Ordering → Made
by_order c d o =
    gives.◌>>=◌ (gives.◌>>=◌ (match_ordering o (Ok (with_term (d ∷ []) (negsuc 0) ((c ∷ [], pos 1) ∷ []))) (gives.◌>>=◌ (plus (pos 1) (negsuc 0)) (λ n. Ok (with_term (c ∷ []) n [])))
    (gives.◌>>=◌ (put (d ∷ []) (negsuc 0) []) (λ made. Ok ((c ∷ [], pos 1) ∷ made)))) (λ made. put_all made []))
    (λ ts. gives.◌>>=◌ (plus (pos 0) (pos 0)) (λ r. Ok record { terms = ts; rest = r }))

-- a column less another one can be made
pub columns-made : (c d : Col) → (p : Polynomial) × (column c ⊟ column d ≡ Ok p)
columns-made c d = go (mono_cmp (d ∷ []) (c ∷ []))
  where
    go : (o : Ordering) → (p : Polynomial) × (by_order c d o ≡ Ok p)
    go Less = (record { terms = (d ∷ [], negsuc 0) ∷ (c ∷ [], pos 1) ∷ []; rest = pos 0 }, refl)
    go Equal = (record { terms = []; rest = pos 0 }, refl)
    go Greater = (record { terms = (c ∷ [], pos 1) ∷ (d ∷ [], negsuc 0) ∷ []; rest = pos 0 }, refl)

mapped-columns : (at : Valuation) (col : ℕ → Col) (a n : ℕ) → map (value_of at) (map (λ k. column_of (col k)) (range_with_len a n)) ≡ map (λ k. at (col k)) (range_with_len a n)
mapped-columns at col a zero = refl
mapped-columns at col a (suc n) = λ i. column_of-value at (col a) i ∷ mapped-columns at col (a + 1) n i

-- ---- a run

module _ (body : Transition) (steps : ℕ) (states : ℕ → List ℤ) (run : IsRunOf body steps states) where
  -- the two ends of the run have the body's columns, and it has a turn
  pub record HasEnds : Type 0 where
    pub some : 0 < steps
    pub first : length (states 0) ≡ body.to
    pub last : length (states steps) ≡ body.to

  auxiliaries : ℕ → ℤ
  auxiliaries = held (number_in (states steps)) (modified_variables true body) (pos steps)

  over_run : Valuation
  over_run = numbers (states 0) auxiliaries

  is_after : (ms : List (List Col)) → HasEnds → IsAfter ms body steps states run over_run
  unfolding over_run auxiliaries
  is_after ms ends = record {
    starts = record { each = λ v. refl };
    ends = λ v. after_from-value (number_in (states steps)) (pos steps) over_run v 0 (modified_variables true body) (λ i. ap auxiliaries (none i)) (λ unmodified. stays v unmodified (nat_lt v body.to) refl);
    turns = held-count (number_in (states steps)) (modified_variables true body) (pos steps);
    some = ends.some;
  }
    where
      none : (i : ℕ) → 0 + i ≡ i
      none i = omega arith

      stays : (v : ℕ) → list_any (λ u. u == v) (modified_variables true body) ≡ false → (b : Bool) → nat_lt v body.to ≡ b → number_in (states 0) v ≡ number_in (states steps) v
      stays v other true e = sym (unmodified-along body steps states run v (unfound (is_modified true body.cases) v 0 body.to other (omega arith) (grind arith)) steps (omega arith))
      stays v other false e =
          let past : body.to ≤ v = grind arith in
          number_past (states 0) v (subst (λ n. n ≤ v) (sym ends.first) past) ∙ sym (number_past (states steps) v (subst (λ n. n ≤ v) (sym ends.last) past))

  is_over : HasEnds → IsOver body steps states run over_run (posts body) (moves body) (Some (count body))
  is_over ends = record {
    starts = (is_after [] ends).starts;
    ends = λ v. ended v (nat_lt v body.to) refl;
    moves = λ v. changed v (nat_lt v body.to) refl;
    so_many = λ most. IsWorth-product (IsWorth-whole over_run most) (IsWorth-same (is_after [] ends).turns (IsWorth-column over_run (count body)));
    some = ends.some;
  }
    where
      at_zero : value_of over_run (constant_of (pos 0)) ≡ pos 0
      at_zero = omega (arith, ints)

      first_past : (v : ℕ) → body.to ≤ v → number_in (states 0) v ≡ pos 0
      first_past v past = number_past (states 0) v (subst (λ n. n ≤ v) (sym ends.first) past)

      last_past : (v : ℕ) → body.to ≤ v → number_in (states steps) v ≡ pos 0
      last_past v past = number_past (states steps) v (subst (λ n. n ≤ v) (sym ends.last) past)

      ended : (v : ℕ) (b : Bool) → nat_lt v body.to ≡ b → value_of over_run (poly_at (posts body) v) ≡ number_in (states steps) v
      ended v true e = ap (value_of over_run) (mapped-first (λ k. column_of (after body k)) body.to v (grind arith)) ∙ column_of-value over_run (after body v) ∙ (is_after [] ends).ends v
      ended v false e =
          let past : body.to ≤ v = grind arith in
          ap (value_of over_run) (mapped-past (λ k. column_of (after body k)) body.to v past) ∙ at_zero ∙ sym (last_past v past)

      moved-value : (v : ℕ) → value_of over_run (or_zero (change_over_turns body v)) ≡ number_in (states steps) v -ℤ number_in (states 0) v
      moved-value v =
          let made = columns-made (after body v) (At v) in
          ap (λ m. value_of over_run (or_zero m)) made.1
          ∙ (IsWorth-difference (IsWorth-same ((is_after [] ends).ends v) (IsWorth-column over_run (after body v))) (IsWorth-same ((is_after [] ends).starts.each v) (IsWorth-column over_run (At v)))).as_made made.0 made.1

      none : (x y : ℤ) → x ≡ pos 0 → y ≡ pos 0 → pos 0 ≡ x -ℤ y
      none x y e f = omega (arith, ints)

      changed : (v : ℕ) (b : Bool) → nat_lt v body.to ≡ b → value_of over_run (poly_at (moves body) v) ≡ number_in (states steps) v -ℤ number_in (states 0) v
      changed v true e = ap (value_of over_run) (mapped-first (λ k. or_zero (change_over_turns body k)) body.to v (grind arith)) ∙ moved-value v
      changed v false e =
          let past : body.to ≤ v = grind arith in
          ap (value_of over_run) (mapped-past (λ k. or_zero (change_over_turns body k)) body.to v past) ∙ at_zero ∙ none (number_in (states steps) v) (number_in (states 0) v) (last_past v past) (first_past v past)

  module _ (voc : Vocabulary) (straight : AllByRecursion IsDirection (directions voc)) (more_straight : AllByRecursion IsDirection voc.extra) (ends : HasEnds) where
    some_turn-true : RowHolds over_run (some_turn body)
    unfolding over_run auxiliaries
    some_turn-true = low (over_run (count body)) (pos steps) (held-count (number_in (states steps)) (modified_variables true body) (pos steps)) (at_least steps ends.some)
      where
        at_least : (n : ℕ) → 0 < n → pos 1 ≤ℤ pos n
        at_least n e = omega (arith, ints)

        low : (x k : ℤ) → x ≡ k → pos 1 ≤ℤ k → (negsuc 0 *ℤ (x *ℤ pos 1) +ℤ pos 0 +ℤ pos 1) ≤ℤ pos 0
        low x k e f = omega (arith, ints)

    rows-true : (s : Strata) → AreStrata (products body voc) body steps states run s → Always (RowsHold over_run) (rows_of body voc s)
    unfolding rows_of
    rows-true s are =
        let over = is_over ends in
        let ms = products body voc in
        always_bind (RowsHold over_run) (RowsHold over_run) (each (λ rows t. with_row rows (term_row ms body t)) [] (terms_with_row ms s)) _
        (each-true (λ t. IsTermAlong ms body steps states run 3 t × IsTrue (is_none_or_lost (past_third ms t))) over_run (λ rows t. with_row rows (term_row ms body t)) [] (terms_with_row ms s)
        (λ rows t h hold. with_row-true over_run rows (term_row ms body t) (term_row-true ms body steps states run over_run (is_after ms ends) t h.0 h.1) hold)
        (each-both (IsTermAlong ms body steps states run 3) (λ t. IsTrue (is_none_or_lost (past_third ms t))) (terms_with_row ms s)
        (each-filter (IsTermAlong ms body steps states run 3) (λ t. is_none_or_lost (past_third ms t)) (terms_once s) (each-distinct (IsTermAlong ms body steps states run 3) same_term (all_terms s) (all-along ms body steps states run s are)))
        (filter-passes (λ t. is_none_or_lost (past_third ms t)) (terms_once s))) tt) (λ equations h1.
        always_bind (RowsHold over_run) (RowsHold over_run) (each (rows_with_entry_bound body.cases) (equations ++ some_turn body ∷ []) (directions voc)) _
        (each-true IsDirection over_run (rows_with_entry_bound body.cases) (equations ++ some_turn body ∷ []) (directions voc)
        (λ rows d direction. before-true body steps states run over_run (posts body) (moves body) (Some (count body)) over rows d direction) straight
        (each-append (RowHolds over_run) equations (some_turn body ∷ []) h1 (some_turn-true, tt))) (λ before h2.
        always_bind (RowsHold over_run) (RowsHold over_run) (each (rows_with_exit_bound body.cases (posts body)) before (directions voc)) _
        (each-true IsDirection over_run (rows_with_exit_bound body.cases (posts body)) before (directions voc)
        (λ rows d direction. after-true body steps states run over_run (posts body) (moves body) (Some (count body)) over rows d) straight h2) (λ after_too h3.
        always_bind (RowsHold over_run) (RowsHold over_run) (each (bounded_change body.cases (moves body) (Some (count body))) after_too (directions voc ++ voc.extra)) _
        (each-true IsDirection over_run (bounded_change body.cases (moves body) (Some (count body))) after_too (directions voc ++ voc.extra)
        (λ rows d direction. change-true body steps states run over_run (posts body) (moves body) (Some (count body)) over rows d direction) (each-append IsDirection (directions voc) voc.extra straight more_straight) h3) (λ changes h4.
        each-true (λ p. Unit {0} × IsFirstTerm ms body steps states run p.term) over_run (bounded_progression body.cases (change_over_turns body) (count body)) changes (progressions body voc s)
        (λ rows p h. progression-true ms body steps states run over_run (is_after ms ends) rows p h.1)
        (each-progression body voc s (IsFirstTerm ms body steps states run) (λ v. Unit {0}) are.first (each-any (λ v. Unit {0}) (λ v. tt) (open_variables body voc s))) h4))))

    -- the second case as it is put together holds of the run's ends
    pub turns-hold : Always (λ case. HoldsCase case (states 0) (states steps)) (turns body voc)
    unfolding turns over_run ◌>>=◌
    turns-hold =
        always_bind (AreStrata (products body voc) body steps states run) (λ case. HoldsCase case (states 0) (states steps)) (strata body (products body voc)) _ (strata-along (products body voc) body steps states run) (λ s are.
        always_bind (RowsHold over_run) (λ case. HoldsCase case (states 0) (states steps)) (rows_of body voc s) _ (rows-true s are) (λ rows h.
        (auxiliaries, record { rows = h; posts = same_posts })))
      where
        read : (k : ℕ) → get_or (states steps) k (pos 0) ≡ over_run (after body k)
        read k = sym (unwrap_or-slice_get (states steps) k (pos 0)) ∙ sym ((is_after [] ends).ends k)

        same_posts : map (value_of over_run) (map (λ v. column_of (after body v)) (range_with_len 0 body.to)) ≡ states steps
        same_posts = mapped-columns over_run (after body) 0 body.to ∙ sym (fill_by_all (λ k. over_run (after body k)) (states steps) body.to (pos 0) ends.last (λ k lt. read k))

of_left : (o : Option Case) (before after : List ℤ) → HoldsLeft o before after → HoldsSome (option_to_list o) before after
of_left None before after h = h
of_left (Some case) before after h = inl h

-- ---- chains as runs

state_of : List ℤ → List (List ℤ) → ℕ → List ℤ
state_of first more zero = first
state_of first [] (suc i) = first
state_of first (next ∷ more) (suc i) = state_of next more i

state_of-last : (first : List ℤ) (more : List (List ℤ)) → state_of first more (length more) ≡ last_of first more
unfolding state_of
state_of-last first [] = refl
state_of-last first (next ∷ more) = state_of-last next more

chain-links : (body : Transition) (first : List ℤ) (more : List (List ℤ)) → IsChain body first more → (i : ℕ) → i < length more → Holds body (state_of first more i) (state_of first more (suc i))
unfolding state_of
chain-links body first [] chain i within = absurd (omega arith)
chain-links body first (next ∷ more) chain zero within = chain.0
chain-links body first (next ∷ more) chain (suc i) within = chain-links body next more chain.1 i (omega arith)

-- ---- star

-- a state that the body leads to has its columns
leads-to : (body : Transition) → IsTransition body.from body.to body.cases → (before next : List ℤ) → Holds body before next → length next ≡ body.to
leads-to body is before next h =
    by_some body.cases before next (length next ≡ body.to)
    (λ case known (aux, k).
    ap length (sym k.posts) ∙ length-map case.post (value_of (numbers before aux))
    ∙ same_number (length case.post) body.to (both (length case.post == body.to) (every_column_of (is_below body.from case.aux) case) (known (λ c. IsTrue (fits body.from body.to c)) (each_from_test (fits body.from body.to) (λ c. IsTrue (fits body.from body.to c)) (λ c e. e) body.cases is))).0) h.some

-- the case can be put in order
pub record IsReady (case : Case) : Type 0 where
  pub canonical : AreCanonical case.rows
  pub numbered : IsTrue (every_column_of (is_numbered case.aux) case)

module _ (body : Transition) (voc : Vocabulary)
    (is_transition : IsTransition body.from body.to body.cases) (same_ends : body.from ≡ body.to)
    (straight : AllByRecursion IsDirection (directions voc)) (more_straight : AllByRecursion IsDirection voc.extra)
    (ready : Always IsReady (turns body voc)) where
  -- of a run of one and more turns
  run-holds : (steps : ℕ) (states : ℕ → List ℤ) (run : IsRunOf body steps states) → HasEnds body steps states run → Always (λ g. Holds g (states 0) (states steps)) (star_of body voc)
  unfolding star_of
  run-holds steps states run ends = go body.cases (run.links 0 ends.some).some
    where
      go : (cases : List Case) → HoldsSome cases (states 0) (states (0 + 1)) → Always (λ g. Holds g (states 0) (states steps)) (star_by body voc cases)
      go [] none = absurd none
      go (case ∷ cases) some =
          always_bind (λ left. HoldsLeft left (states 0) (states steps)) (λ g. Holds g (states 0) (states steps)) (turns body voc >>= finish_of_case) _
          (always_bind (λ c. HoldsCase c (states 0) (states steps) × IsReady c) (λ left. HoldsLeft left (states 0) (states steps)) (turns body voc) finish_of_case
          (always_both (λ c. HoldsCase c (states 0) (states steps)) IsReady (turns body voc) (turns-hold body steps states run voc straight more_straight ends) ready)
          (λ c both. always_weaker (KeepsLeft c) (λ left. HoldsLeft left (states 0) (states steps)) (finish_of_case c) (λ left keeps. keeps (states 0) (states steps) both.0) (finished-covers c both.1.canonical both.1.numbered)))
          (λ left h. joined-right (identity_of body.from) record { from = body.from; to = body.to; cases = option_to_list left } (states 0) (states steps) refl
          (record { enters = ends.first ∙ sym same_ends; some = of_left left (states 0) (states steps) h }))

  -- of no turn
  stay-holds : (state : List ℤ) → length state ≡ body.from → Always (λ g. Holds g state state) (star_of body voc)
  unfolding star_of
  stay-holds state long = go body.cases
    where
      go : (cases : List Case) → Always (λ g. Holds g state state) (star_by body voc cases)
      go [] = identity-holds body.from state state refl long
      go (case ∷ cases) =
          always_bind (λ left. Unit {0}) (λ g. Holds g state state) (turns body voc >>= finish_of_case) _ (always_any (λ left. Unit {0}) (turns body voc >>= finish_of_case) (λ left. tt))
          (λ left any. joined-left (identity_of body.from) record { from = body.from; to = body.to; cases = option_to_list left } state state (identity-holds body.from state state refl long))

  chain-holds : (first : List ℤ) (more : List (List ℤ)) → length first ≡ body.from → IsChain body first more → Always (λ g. Holds g first (last_of first more)) (star_of body voc)
  unfolding state_of
  chain-holds first [] long chain = stay-holds first long
  chain-holds first (next ∷ more) long chain =
      subst (λ s. Always (λ g. Holds g first s) (star_of body voc)) (state_of-last first (next ∷ more))
      (run-holds (length (next ∷ more)) (state_of first (next ∷ more))
      (record { links = links })
      (record { some = omega arith; first = long ∙ same_ends; last = leads-to body is_transition (state_of first (next ∷ more) (length more)) (state_of first (next ∷ more) (suc (length more))) (chain-links body first (next ∷ more) chain (length more) (omega arith)) }))
    where
      next_is : (i : ℕ) → suc i ≡ i + 1
      next_is i = omega arith

      links : (i : ℕ) → i < length (next ∷ more) → Holds body (state_of first (next ∷ more) i) (state_of first (next ∷ more) (i + 1))
      links i within = subst (λ n. Holds body (state_of first (next ∷ more) i) (state_of first (next ∷ more) n)) (next_is i) (chain-links body first (next ∷ more) chain i within)

  -- the law: whatever the answers, as long as they are true, star holds of the first and the last
  -- state of every chain
  pub star-holds : Always (HoldsOfChains body) (star_of body voc)
  star-holds =
      always_every (λ first g. (more : List (List ℤ)) → length first ≡ body.from → IsChain body first more → Holds g first (last_of first more)) (star_of body voc) (λ first.
      always_every (λ more g. length first ≡ body.from → IsChain body first more → Holds g first (last_of first more)) (star_of body voc) (λ more.
      always_every (λ long g. IsChain body first more → Holds g first (last_of first more)) (star_of body voc) (λ long.
      always_every (λ chain g. Holds g first (last_of first more)) (star_of body voc) (λ chain. chain-holds first more long chain))))
