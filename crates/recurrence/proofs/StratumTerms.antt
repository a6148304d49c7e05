-- The strata of a body along a run of it.
use Rattle.std.proofs.Common.{◌≡◌, ℕ, zero, suc, ◌+◌, ◌<◌, ◌≤◌, List, [], ◌∷◌, ◌++◌, Bool, true, false, Ok, map, length, refl, sym, ap, subst, ◌∙◌, arith, ℤ, pos, ◌+ℤ◌, ◌-ℤ◌}
use Rattle.std.specs.Prelude.{Option, None, Some, IsTrue, unwrap_or, not, ◌&&◌, Result}
use Rattle.std.specs.Option.{option_map}
use Rattle.std.specs.List.{AllByRecursion, filter}
use Rattle.std.specs.Ordering.{int_eq}
use Rattle.std.specs.Cmp.Lexicographic.{pointwise}
use Rattle.std.proofs.lemmas.Int.{ints}
use Rattle.linear_terms.specs.declared.col.Col.{Col}
use Rattle.linear_terms.specs.declared.error.TermError.{TermError}
use Rattle.linear_terms.specs.declared.row.Row.{Row}
use Rattle.linear_terms.specs.Equality.{term_eq, poly_eq}
use Rattle.linear_terms.specs.Polynomial.{Terms, Polynomial, constant_of}
use Rattle.linear_terms.specs.Value.{Valuation, terms_value, value_of}
use Rattle.transition_formula.specs.Meaning.{numbers}
use Rattle.whole_numbers.specs.Dot.{dot}
use Rattle.transition_formula.specs.Transition.{Transition}
use Rattle.items.specs.Gives as gives
use Rattle.items.proofs.Gives.{on_ok}
use Rattle.posing.specs.Posing.{Done, Always}
use Rattle.posing.proofs.Paths.{always_bind}
use Rattle.closed_form.specs.ClosedRow.{closed_row}
use Rattle.closed_form.specs.Differences.{Run, IsRun}
use Rattle.closed_form.proofs.Values.{closed_row-run}
use Rattle.std.proofs.lemmas.List.{length-map}
use Rattle.linear_terms.specs.declared.row.Case.{Case}
use Rattle.linear_terms.specs.Expressions.{or_zero, linear}
use Rattle.farkas_check.specs.declared.stratum.Change.{Change}
use Rattle.farkas_check.specs.declared.stratum.Relation.{Relation}
use Rattle.farkas_check.specs.Relations.{term_count}
use Rattle.polyhedra.specs.Changes.{change, is_modified, modified_variables, moving, changes_in, changes_of, occurring}
use Rattle.polyhedra.specs.Relations.{relations_of}
use Rattle.polyhedra.proofs.Lists.{each-filter, filter-passes}
use Rattle.polyhedra.proofs.RelationTerms.{IsTrueRelation, AreTrueRelations, relations-true}
use Rattle.items.proofs.Each.{each-append, each-map, each-more}
use Rattle.recurrence.specs.declared.terms.Recurrence.{Recurrence}
use Rattle.recurrence.specs.declared.terms.StratumTerm.{StratumTerm}
use Rattle.recurrence.specs.declared.terms.Strata.{Strata}
use Rattle.recurrence.specs.Products.{unmodified_columns, sole, with_solved, with_term, with_terms, sequences}
use Rattle.recurrence.specs.Strata.{steady, term_of, has_terms, stratum, steady_columns, over, stratum_if, is_short, has_grown, strata, all_terms}
use Rattle.recurrence.specs.Star.{after, count, past_third, is_none_or_lost, term_row}
use Rattle.linear_terms.proofs.Values.{int_eq-zero}
use Rattle.linear_terms.proofs.Worth.{IsWorth-same, IsTrueIfMade, linear-value}
use Rattle.polyhedra.proofs.Turns.{number_in, Reads, reads-numbers, IsRunOf}
use Rattle.recurrence.proofs.SolvedColumns.{sole-dot, terms-keep}
use Rattle.recurrence.proofs.ProductGrowth.{AreNext, IsChange, unchanged-next, change-next}
use Rattle.recurrence.proofs.Along.{Ladder, maps-twice, IsAlong, AreAlong, along-append, steady_ladder, steadies-along, sequences-along, term_ladder, term-along, term_ladder-start, term_ladder-first}

module _ (ms : List (List Col)) (body : Transition) (steps : ℕ) (states : ℕ → List ℤ) (run : IsRunOf body steps states) where
  -- the term has a ladder that begins with its numbers
  pub record IsTermAlong (d : ℕ) (t : StratumTerm) : Type 0 where
    pub ladder : Ladder
    pub along : IsAlong ms body steps states run d t.recurrence ladder
    pub itself : (i : ℕ) → ladder 0 i ≡ dot t.relation.a (map (number_in (states i)) (moving true body))

  -- and it grows in each turn by the constant of its relation
  pub record IsFirstTerm (t : StratumTerm) : Type 0 where
    pub term : IsTermAlong 1 t
    pub growth : (i : ℕ) → term.ladder 1 i ≡ t.relation.c

  more : (d e : ℕ) → d ≤ e → (t : StratumTerm) → IsTermAlong d t → IsTermAlong e t
  more d e less t h = record {
    ladder = h.ladder;
    along = record { grows = h.along.grows; constant = λ none m i from. h.along.constant none m i (omega arith); start = h.along.start; first = h.along.first; second = h.along.second; third = h.along.third; fourth = h.along.fourth };
    itself = h.itself;
  }

  ladders_of : (d : ℕ) (terms : List StratumTerm) → AllByRecursion (IsTermAlong d) terms → (ls : List Ladder) × AreAlong ms body steps states run d (map (λ (t : StratumTerm). t.recurrence) terms) ls
  ladders_of d [] h = ([], tt)
  ladders_of d (t ∷ terms) h = let rest = ladders_of d terms h.1 in (h.0.ladder ∷ rest.0, (h.0.along, rest.1))

  abbrev pub OfSome : (StratumTerm → Type 0) → Option (List StratumTerm) → Type 0
  OfSome P None = Unit {0}
  OfSome P (Some terms) = AllByRecursion P terms

  of_unwrapped : (P : StratumTerm → Type 0) (v : Option (List StratumTerm)) → OfSome P v → AllByRecursion P (unwrap_or v [])
  of_unwrapped P None h = tt
  of_unwrapped P (Some terms) h = h

  -- what is below a stratum: the unmodified columns that occur, the terms of the stratum before, and
  -- the products of known columns
  over-along : (d : ℕ) → 1 ≤ d → (known : List (Option Polynomial)) → AreNext body steps states run known → (v : Option (List StratumTerm)) → OfSome (IsTermAlong d) v → (ls : List Ladder) × AreAlong ms body steps states run d (over body ms known v) ls
  over-along d some known are v h =
      let terms = ladders_of d (unwrap_or v []) (of_unwrapped (IsTermAlong d) v h) in
      let products = sequences-along ms body steps states run known are d ms refl in (
        map (steady_ladder ms body steps states run) (steady_columns body) ++ terms.0 ++ products.0,
        along-append ms body steps states run d (map steady (steady_columns body) ++ map (λ (t : StratumTerm). t.recurrence) (unwrap_or v [])) (sequences known ms) (map (steady_ladder ms body steps states run) (steady_columns body) ++ terms.0) products.0
            (along-append ms body steps states run d (map steady (steady_columns body)) (map (λ (t : StratumTerm). t.recurrence) (unwrap_or v [])) (map (steady_ladder ms body steps states run) (steady_columns body)) terms.0
            (steadies-along ms body steps states run d (steady_columns body) some
            (each-more (λ v. not (is_modified true body.cases v) ≡ true) (λ v. is_modified true body.cases v ≡ false) (λ v e. opposite (is_modified true body.cases v) e) (steady_columns body)
            (filter-passes (λ v. not (is_modified true body.cases v)) (occurring true body))))
            terms.1)
            products.1,
      )
    where
      opposite : (b : Bool) → not b ≡ true → b ≡ false
      opposite true e = cc
      opposite false e = refl

  -- each case has as many terms as variables that move
  equally-many : AllByRecursion (λ (c : Change). length c.terms ≡ term_count (changes_of true body)) (changes_of true body)
  equally-many = counts body.cases
    where
      all_long : (n : ℕ) → n ≡ length (moving true body) → (cases : List Case) → AllByRecursion (λ (c : Change). length c.terms ≡ n) (map (changes_in true (moving true body)) cases)
      all_long n e [] = tt
      all_long n e (case ∷ cases) = (length-map (moving true body) (λ v. or_zero (change true case v)) ∙ sym e, all_long n e cases)

      counts : (cases : List Case) → AllByRecursion (λ (c : Change). length c.terms ≡ term_count (map (changes_in true (moving true body)) cases)) (map (changes_in true (moving true body)) cases)
      counts [] = tt
      counts (case ∷ cases) = all_long (term_count (map (changes_in true (moving true body)) (case ∷ cases))) (length-map (moving true body) (λ v. or_zero (change true case v))) (case ∷ cases)

  -- a stratum over recurrences that are true along the run
  stratum-along : (P : StratumTerm → Type 0) (lower : List Recurrence) → ((r : Relation) → IsTrueRelation (changes_of true body) (map (λ (l : Recurrence). l.start) lower) r → P (term_of (moving true body) lower r)) → Always (OfSome P) (stratum body lower)
  unfolding stratum
  stratum-along P lower tells =
      always_bind (AreTrueRelations (changes_of true body) (map (λ (l : Recurrence). l.start) lower)) (OfSome P) (relations_of (changes_of true body) (map (λ (l : Recurrence). l.start) lower))
      (λ found. Done (option_map (λ rs. map (term_of (moving true body) lower) (filter has_terms rs)) found)) (relations-true (changes_of true body) (map (λ (l : Recurrence). l.start) lower) equally-many) go
    where
      go : (found : Option (List Relation)) → AreTrueRelations (changes_of true body) (map (λ (l : Recurrence). l.start) lower) found → OfSome P (option_map (λ rs. map (term_of (moving true body) lower) (filter has_terms rs)) found)
      go None told = tt
      go (Some rs) told =
          each-map (IsTrueRelation (changes_of true body) (map (λ (l : Recurrence). l.start) lower)) P (term_of (moving true body) lower) tells (filter has_terms rs)
          (each-filter (IsTrueRelation (changes_of true body) (map (λ (l : Recurrence). l.start) lower)) has_terms rs told)

  first-along : Always (OfSome IsFirstTerm) (stratum body [])
  first-along = stratum-along IsFirstTerm [] (λ r told. record {
    term = record { ladder = term_ladder ms body steps states run r []; along = term-along ms body steps states run 0 r [] [] tt told; itself = term_ladder-start ms body steps states run r [] };
    growth = term_ladder-first ms body steps states run r;
  })

  next-along : (d : ℕ) (lower : List Recurrence) → (ls : List Ladder) × AreAlong ms body steps states run d lower ls → (asked : Bool) → Always (OfSome (IsTermAlong (suc d))) (stratum_if asked body lower)
  next-along d lower (ls, along) true = stratum-along (IsTermAlong (suc d)) lower (λ r told. record {
    ladder = term_ladder ms body steps states run r ls;
    along = term-along ms body steps states run d r lower ls along told;
    itself = term_ladder-start ms body steps states run r ls;
  })
  next-along d lower (ls, along) false = tt

  pub record AreStrata (s : Strata) : Type 0 where
    pub first : AllByRecursion IsFirstTerm s.first
    pub second : AllByRecursion (IsTermAlong 2) s.second
    pub third : AllByRecursion (IsTermAlong 3) s.third

  firsts : (v : Option (List StratumTerm)) → OfSome IsFirstTerm v → OfSome (IsTermAlong 1) v
  firsts None h = tt
  firsts (Some terms) h = each-more IsFirstTerm (IsTermAlong 1) (λ t k. k.term) terms h

  -- what a term of a column alone solves is what the turn makes of that column
  solved-next : (known : List (Option Polynomial)) (t : StratumTerm) → IsTermAlong 3 t → AreNext body steps states run known → AreNext body steps states run (with_term (moving true body) known t)
  solved-next known t h are = go (sole (moving true body) t.relation.a) refl
    where
      is_change : (v : ℕ) → sole (moving true body) t.relation.a ≡ Some v → IsChange body steps states run v t.recurrence.first
      is_change v e = record {
        each = λ i within at reads. IsWorth-same (sym (h.along.grows 0 i within) ∙ (λ j. itself (i + 1) j -ℤ itself i j)) (h.along.first i (omega arith) at reads);
      }
        where
          itself : (i : ℕ) → h.ladder 0 i ≡ number_in (states i) v
          itself i = h.itself i ∙ sole-dot (moving true body) t.relation.a v (number_in (states i)) e

      go : (o : Option ℕ) → sole (moving true body) t.relation.a ≡ o → AreNext body steps states run (with_solved known o t.recurrence.first)
      go None e = are
      go (Some v) e = change-next body steps states run known v t.recurrence.first are (is_change v e)

  terms-next : (known : List (Option Polynomial)) (v : Option (List StratumTerm)) → OfSome (IsTermAlong 3) v → AreNext body steps states run known → AreNext body steps states run (with_terms body known v)
  terms-next known v h are = terms-keep (AreNext body steps states run) (IsTermAlong 3) (moving true body) solved-next known (unwrap_or v []) (of_unwrapped (IsTermAlong 3) v h) are

  more-some : (d e : ℕ) → d ≤ e → (v : Option (List StratumTerm)) → OfSome (IsTermAlong d) v → OfSome (IsTermAlong e) v
  more-some d e less None h = tt
  more-some d e less (Some terms) h = each-more (IsTermAlong d) (IsTermAlong e) (λ t k. more d e less t k) terms h

  pub strata-along : Always AreStrata (strata body ms)
  unfolding strata
  strata-along =
      always_bind (OfSome IsFirstTerm) AreStrata (stratum body []) _ first-along (λ v1 h1.
      let known1 = with_terms body (unmodified_columns body ms) v1 in
      let next1 = terms-next (unmodified_columns body ms) v1 (more-some 1 3 (omega arith) v1 (firsts v1 h1)) (unchanged-next body steps states run ms) in
      always_bind (OfSome (IsTermAlong 2)) AreStrata (stratum_if (is_short (length (modified_variables true body)) v1) body (over body ms known1 v1)) _
      (next-along 1 (over body ms known1 v1) (over-along 1 (omega arith) known1 next1 v1 (firsts v1 h1)) (is_short (length (modified_variables true body)) v1)) (λ v2 h2.
      let known2 = with_terms body known1 v2 in
      let next2 = terms-next known1 v2 (more-some 2 3 (omega arith) v2 h2) next1 in
      always_bind (OfSome (IsTermAlong 3)) AreStrata (stratum_if (has_grown v1 v2 && is_short (length (modified_variables true body)) v2) body (over body ms known2 v2)) _
      (next-along 2 (over body ms known2 v2) (over-along 2 (omega arith) known2 next2 v2 h2) (has_grown v1 v2 && is_short (length (modified_variables true body)) v2)) (λ v3 h3.
      record { first = of_unwrapped IsFirstTerm v1 h1; second = of_unwrapped (IsTermAlong 2) v2 h2; third = of_unwrapped (IsTermAlong 3) v3 h3 })))

  pub all-along : (s : Strata) → AreStrata s → AllByRecursion (IsTermAlong 3) (all_terms s)
  all-along s h =
      each-append (IsTermAlong 3) (s.first ++ s.second) s.third
      (each-append (IsTermAlong 3) s.first s.second
      (each-more IsFirstTerm (IsTermAlong 3) (λ t k. more 1 3 (omega arith) t k.term) s.first h.first)
      (each-more (IsTermAlong 2) (IsTermAlong 3) (λ t k. more 2 3 (omega arith) t k) s.second h.second)) h.third

  -- numbers for the columns of the second case: entry columns at the start, the columns of
  -- variables at the end, and the number of turns
  pub record IsAfter (at : Valuation) : Type 0 where
    pub starts : Reads at (states 0)
    pub ends : (v : ℕ) → at (after body v) ≡ number_in (states steps) v
    pub turns : at (count body) ≡ pos steps
    pub some : 0 < steps

  -- ---- the row of a term

  -- the third differences are all the same: so it is without products, and where the fourth is zero
  zero-value : (p : Polynomial) → IsTrue (poly_eq p (constant_of (pos 0))) → (at : Valuation) → value_of at p ≡ pos 0
  zero-value p e at = go p.terms p.rest e
    where
      go : (ts : Terms) (r : ℤ) → IsTrue (pointwise term_eq ts [] && int_eq r (pos 0)) → terms_value at ts +ℤ r ≡ pos 0
      go [] r h = ap (λ z. pos 0 +ℤ z) (int_eq-zero r h)
      go (t ∷ ts) r h = cc

  steady-third : (t : StratumTerm) (h : IsTermAlong 3 t) (d4 : Polynomial) (ns : List (List Col)) → ms ≡ ns → past_third ns t ≡ Ok d4 → IsTrue (is_none_or_lost (past_third ns t)) → (i : ℕ) → i < steps → h.ladder 3 (i + 1) ≡ h.ladder 3 i
  steady-third t h d4 [] none e passes i within = h.along.constant none 3 (i + 1) (omega arith) ∙ sym (h.along.constant none 3 i (omega arith))
  steady-third t h d4 (n ∷ ns) some e passes i within =
      equal (h.ladder 3 (i + 1)) (h.ladder 3 i)
      (h.along.grows 3 i within ∙ sym ((h.along.fourth i (omega arith) here (reads-numbers (states i) (λ n. pos 0))).as_made d4 e) ∙ zero-value d4 (subst (λ m. IsTrue (is_none_or_lost m)) e passes) here)
    where
      here : Valuation
      here = numbers (states i) (λ n. pos 0)

      equal : (x y : ℤ) → x -ℤ y ≡ pos 0 → x ≡ y
      equal x y e = omega (arith, ints)

  all-third : (l : ℕ → ℤ) → ((i : ℕ) → i < steps → l (i + 1) ≡ l i) → (i : ℕ) → i ≤ steps → l i ≡ l 0
  all-third l stays zero within = refl
  all-third l stays (suc i) within = ap l (next i) ∙ stays i (omega arith) ∙ all-third l stays i (omega arith)
    where
      next : (i : ℕ) → suc i ≡ i + 1
      next i = omega arith

  run_of_ladder : Ladder → Run
  run_of_ladder l = record { steps = steps; numbers = l 0; first = l 1; second = l 2; third = l 3 0 }

  pub term_row-true : (at : Valuation) → IsAfter at → (t : StratumTerm) → IsTermAlong 3 t → IsTrue (is_none_or_lost (past_third ms t)) → IsTrueIfMade at (term_row ms body t)
  unfolding run_of_ladder
  term_row-true at over_run t h passes = record {
    holds = λ r e.
        on_ok (past_third ms t) (λ d4. gives.◌>>=◌ t.recurrence.first (λ d1. gives.◌>>=◌ t.recurrence.second (λ d2. gives.◌>>=◌ t.recurrence.third (λ d3. row d1 d2 d3)))) r e (λ d4 e4 e0.
        on_ok t.recurrence.first (λ d1. gives.◌>>=◌ t.recurrence.second (λ d2. gives.◌>>=◌ t.recurrence.third (λ d3. row d1 d2 d3))) r e0 (λ d1 e1 f.
        on_ok t.recurrence.second (λ d2. gives.◌>>=◌ t.recurrence.third (λ d3. row d1 d2 d3)) r f (λ d2 e2 g.
        on_ok t.recurrence.third (λ d3. row d1 d2 d3) r g (λ d3 e3 k.
        closed_row-run at (run_of_ladder h.ladder) (linear t.relation.a (map (after body) (moving true body))) t.recurrence.start d1 d2 d3 (count body) r k (is_run d4 e4)
        (record {
          number_after = linear-value at t.relation.a (map (after body) (moving true body)) ∙ ap (dot t.relation.a) (maps-twice at (after body) (number_in (states steps)) (moving true body) over_run.ends) ∙ sym (h.itself steps);
          number_before = h.along.start 0 (omega arith) at over_run.starts;
          first_before = (h.along.first 0 (omega arith) at over_run.starts).as_made d1 e1;
          second_before = (h.along.second 0 (omega arith) at over_run.starts).as_made d2 e2;
          third_before = (h.along.third 0 (omega arith) at over_run.starts).as_made d3 e3;
          steps_made = over_run.turns;
        })))));
  }
    where
      row : Polynomial → Polynomial → Polynomial → Result Row TermError
      row d1 d2 d3 = closed_row (linear t.relation.a (map (after body) (moving true body))) t.recurrence.start d1 d2 d3 (count body)

      is_run : (d4 : Polynomial) → past_third ms t ≡ Ok d4 → IsRun (run_of_ladder h.ladder)
      is_run d4 e4 = record {
        numbers_grow = λ i within. h.along.grows 0 i within;
        first_grow = λ i within. h.along.grows 1 i within;
        second_grow = λ i within. h.along.grows 2 i within ∙ all-third (h.ladder 3) (steady-third t h d4 ms refl e4 passes) i (omega arith);
      }
