-- The law of squashing: the one case holds of all that the formula holds of.
use Rattle.std.proofs.Common.{◌≡◌, ℕ, zero, suc, ◌+◌, ◌<◌, ◌≤◌, List, [], ◌∷◌, Bool, true, false, Ok, map, length, refl, sym, ap, ◌∙◌, arith, ℤ, pos, negsuc, ◌+ℤ◌, ◌-ℤ◌, ◌*ℤ◌}
use Rattle.std.specs.Prelude.{slice_get, unwrap_or, Option, None, Some, ◌==◌, ◌||◌, nat_lt, if◌then◌else◌}
use Rattle.std.specs.List.{AllByRecursion, list_any, range_with_len}
use Rattle.std.specs.Ordering.{nat_cmp}
use Rattle.std.specs.Result.{is_ok}
use Rattle.std.specs.declared.cmp.Ordering.TheVariants.{Equal}
use Rattle.std.proofs.lemmas.Int.{ints}
use Rattle.items.proofs.Each.{each-more}
use Rattle.linear_terms.specs.declared.col.Col.TheVariants.{At, Aux}
use Rattle.linear_terms.specs.declared.row.Row.{Row}
use Rattle.linear_terms.specs.declared.row.Case.{Case}
use Rattle.linear_terms.specs.Expressions.{◌⊟◌, column, or_zero}
use Rattle.linear_terms.specs.Polynomial.{Polynomial, constant_of, column_of}
use Rattle.linear_terms.specs.Row.{RowsHold}
use Rattle.linear_terms.specs.Value.{Valuation, value_of}
use Rattle.whole_numbers.specs.Dot.{dot}
use Rattle.linear_terms.proofs.Worth.{IsWorth-Ok, IsWorth-same, IsWorth-whole, IsWorth-column, IsWorth-difference, IsWorth-weighted, IsTrueIfMade-equation, column_of-value, dot-same}
use Rattle.transition_formula.specs.Meaning.{numbers, HoldsCase, Holds}
use Rattle.transition_formula.specs.Transition.{Transition}
use Rattle.farkas_check.specs.declared.stratum.Change.{Change}
use Rattle.farkas_check.specs.declared.stratum.Relation.{Relation}
use Rattle.farkas_check.specs.Relations.{term_count}
use Rattle.std.proofs.lemmas.List.{length-map}
use Rattle.posing.specs.Posing.{◌>>=◌, each, Always}
use Rattle.posing.proofs.Paths.{always_bind, always_weaker}
use Rattle.polyhedra.specs.Bounds.{rows_with_entry_bound, rows_with_exit_bound, bounded_change}
use Rattle.polyhedra.specs.Changes.{poly_at, change, is_modified, is_exact, modified_variables, moving, changes_in, changes_of, occurring}
use Rattle.polyhedra.specs.Directions.{directions}
use Rattle.polyhedra.specs.Relations.{relations_of}
use Rattle.polyhedra.specs.Squash.{unmodified_post, after_from, change_after, posts_after, changes_after, entries_of, relation_row, with_relation, with_relations, change_relations, with_differences, with_bounds, squash_rows, squash_case}
use Rattle.polyhedra.specs.Vocabulary.{Vocabulary, IsDirection, IsDirectionOver, IsVocabulary}
use Rattle.polyhedra.proofs.RunBounds.{IsOver, before-true, after-true, change-true, with_row-true, each-true}
use Rattle.polyhedra.proofs.DirectionShapes.{directions-over}
use Rattle.polyhedra.proofs.Lists.{each-filter, each-unmap, filter-passes, each-tested, unfound}
use Rattle.polyhedra.proofs.Places.{listed-first, mapped, poly_at-first, poly_at-past, number_in-past, range-first}
use Rattle.polyhedra.proofs.RelationTerms.{IsTrueIn, IsTrueRelation, AreTrueRelations, relations-true}
use Rattle.polyhedra.proofs.Turns.{number_in, moved_by, change-value, by_some, unmodified-unmoved, IsRunOf}

-- ---- what stands for a variable has the form of a column

after_from-form : (P : Polynomial → Type 0) (v : ℕ) → ((m : ℕ) → P (column_of (Aux m))) → P (column_of (At v)) → (n : ℕ) (us : List ℕ) → P (after_from true n us v)
after_from-form P v aux at n [] = at
after_from-form P v aux at n (u ∷ us) = go (u == v) (after_from-form P v aux at (n + 1) us)
  where
    go : (b : Bool) → P (after_from true (n + 1) us v) → P (if b then column_of (Aux n) else after_from true (n + 1) us v)
    go true rest = aux n
    go false rest = rest

-- so the difference to its entry column can be made
IsLess : (at : Valuation) (v : ℕ) → Polynomial → Type 0
IsLess at v p = value_of at (or_zero (Ok p ⊟ column (At v))) ≡ value_of at p -ℤ at (At v)

made-less : (at : Valuation) (v : ℕ) (p q : Polynomial) → Ok p ⊟ column (At v) ≡ Ok q → IsLess at v p
unfolding IsLess
made-less at v p q e =
    ap (λ m. value_of at (or_zero m)) e ∙ (IsWorth-difference (IsWorth-Ok at p) (IsWorth-column at (At v))).as_made q e

change_after-less : (at : Valuation) (us : List ℕ) (v : ℕ) → value_of at (change_after true us v) ≡ value_of at (after_from true 0 us v) -ℤ at (At v)
unfolding IsLess
change_after-less at us v =
    after_from-form (IsLess at v) v
    (λ m. made-less at v (column_of (Aux m)) (record { terms = (At v ∷ [], negsuc 0) ∷ (Aux m ∷ [], pos 1) ∷ []; rest = pos 0 }) refl)
    (made-less at v (column_of (At v)) (constant_of (pos 0)) (itself v)) 0 us
  where
    equal : (n : ℕ) → nat_cmp n n ≡ Equal
    equal n = grind arith

    itself : (n : ℕ) → column (At n) ⊟ column (At n) ≡ Ok (constant_of (pos 0))
    itself n = let e = equal n in rw e refl

-- ---- one pair of states

module _ (one : Bool) (f : Transition) (before after : List ℤ) (holds : Holds f before after) (long : length after ≡ f.to) (same : one ≡ true → length before ≡ f.to) where
  abbrev us : List ℕ
  us = modified_variables one f

  -- the auxiliaries have the numbers of the modified variables afterwards
  abbrev auxes : ℕ → ℤ
  auxes n = number_in after (unwrap_or (slice_get us n) 0)

  abbrev here : Valuation
  here = numbers before auxes

  abbrev moved : ℕ → ℤ
  moved v = moved_by one (number_in before v) (number_in after v)

  after-value : (n : ℕ) (vs : List ℕ) → ((k u : ℕ) → slice_get vs k ≡ Some u → auxes (n + k) ≡ number_in after u) → (v : ℕ)
      → (list_any (λ u. u == v) vs ≡ false → value_of here (unmodified_post one v) ≡ number_in after v) → value_of here (after_from one n vs v) ≡ number_in after v
  after-value n [] known v other = other refl
  after-value n (u ∷ vs) known v other = go (u == v) refl (λ same_form none. after-value (n + 1) vs same_form v none)
    where
      first : auxes n ≡ number_in after u
      first = ap auxes (none n) ∙ known 0 u refl
        where
          none : (n : ℕ) → n ≡ n + 0
          none n = omega arith

      next : (n k : ℕ) → n + 1 + k ≡ n + suc k
      next n k = omega arith

      go : (b : Bool) → (u == v) ≡ b
          → (((k w : ℕ) → slice_get vs k ≡ Some w → auxes (n + 1 + k) ≡ number_in after w) → (list_any (λ w. w == v) vs ≡ false → value_of here (unmodified_post one v) ≡ number_in after v) → value_of here (after_from one (n + 1) vs v) ≡ number_in after v)
          → value_of here (if b then column_of (Aux n) else after_from one (n + 1) vs v) ≡ number_in after v
      go true e rest = let is : u ≡ v = grind arith in column_of-value here (Aux n) ∙ first ∙ ap (number_in after) is
      go false e rest = rest (λ k w g. ap auxes (next n k) ∙ known (suc k) w g) (λ none. other (ap (λ b. b || list_any (λ w. w == v) vs) e ∙ none))

  unmodified-value : (v : ℕ) → v < f.to → list_any (λ u. u == v) us ≡ false → value_of here (unmodified_post one v) ≡ number_in after v
  unmodified-value v lt none = go one (unmodified-unmoved one f.cases before after v (unfound (is_modified one f.cases) v 0 f.to none (omega arith) (omega arith)) holds.some)
    where
      equal : (x y : ℤ) → x -ℤ y ≡ pos 0 → y ≡ x
      equal x y e = omega (arith, ints)

      go : (b : Bool) → moved_by b (number_in before v) (number_in after v) ≡ pos 0 → value_of here (unmodified_post b v) ≡ number_in after v
      go true e = column_of-value here (At v) ∙ equal (number_in after v) (number_in before v) e
      go false e = sym e

  post-value : (v : ℕ) → v < f.to → value_of here (after_from one 0 us v) ≡ number_in after v
  post-value v lt = after-value 0 us (λ k u e. ap auxes (alone k) ∙ ap (λ (o : Option ℕ). number_in after (unwrap_or o 0)) e) v (unmodified-value v lt)
    where
      alone : (k : ℕ) → 0 + k ≡ k
      alone k = omega arith

  moved-value : (v : ℕ) → v < f.to → value_of here (change_after one us v) ≡ moved v
  moved-value v lt = go one refl
    where
      go : (b : Bool) → b ≡ one → value_of here (change_after b us v) ≡ moved_by b (number_in before v) (number_in after v)
      go true e = change_after-less here us v ∙ ap (λ x. x -ℤ number_in before v) (ap (λ b. value_of here (after_from b 0 us v)) e ∙ post-value v lt)
      go false e = ap (λ b. value_of here (after_from b 0 us v)) e ∙ post-value v lt

  posts-listed : map (value_of here) (posts_after one f) ≡ after
  posts-listed =
      mapped (value_of here) (after_from one 0 us) (range_with_len 0 f.to)
      ∙ ap (λ n. map (λ v. value_of here (after_from one 0 us v)) (range_with_len 0 n)) (sym long)
      ∙ listed-first (λ v. value_of here (after_from one 0 us v)) after (λ k lt. post-value k (omega arith))

  -- ---- relations

  in_reach : (v : ℕ) → Type 0
  in_reach v = v < f.to

  modified-below : AllByRecursion (λ v. v < f.to) us
  modified-below = each-filter (λ v. v < f.to) (is_modified one f.cases) (range_with_len 0 f.to) (range-first f.to)

  moving-below : AllByRecursion (λ v. v < f.to) (moving one f)
  moving-below = each-filter (λ v. v < f.to) (is_exact one f.cases) us modified-below

  -- the changes and the entry columns as the states show them
  abbrev IsRelated : Relation → Type 0
  IsRelated r = dot r.a (map moved (moving one f)) ≡ dot r.b (map (number_in before) (occurring one f)) +ℤ r.c

  relation-shown : (r : Relation) → IsTrueRelation (changes_of one f) (entries_of (occurring one f)) r → IsRelated r
  relation-shown r is_true =
      by_some f.cases before after (IsRelated r)
      (λ case known (aux, at).
      let there = known (λ (c : Case). IsTrueIn (entries_of (occurring one f)) r (changes_in one (moving one f) c)) (each-unmap (IsTrueIn (entries_of (occurring one f)) r) (changes_in one (moving one f)) f.cases is_true) in
      let exact = each-more (λ v. is_exact one f.cases v ≡ true) (λ v. value_of (numbers before aux) (or_zero (change one case v)) ≡ moved v)
      (λ v e. change-value case before after aux at one v (known (λ (c : Case). is_ok (change one c v) ≡ true) (each-tested (λ (c : Case). is_ok (change one c v)) f.cases e)))
      (moving one f) (filter-passes (is_exact one f.cases) us) in
      sym (ap (dot r.a) (mapped (value_of (numbers before aux)) (λ v. or_zero (change one case v)) (moving one f))
      ∙ dot-same r.a (moving one f) (λ v. value_of (numbers before aux) (or_zero (change one case v))) moved exact)
      ∙ there (numbers before aux) at.rows
      ∙ ap (λ x. x +ℤ r.c) (entries (numbers before aux) (λ v. refl) r.b)) holds.some
    where
      entries : (at : Valuation) → ((v : ℕ) → at (At v) ≡ number_in before v) → (b : List ℤ) → dot b (map (value_of at) (entries_of (occurring one f))) ≡ dot b (map (number_in before) (occurring one f))
      entries at reads b =
          ap (dot b) (mapped (value_of at) (λ v. column_of (At v)) (occurring one f))
          ∙ dot-same b (occurring one f) (λ v. value_of at (column_of (At v))) (number_in before) (each-of (occurring one f))
        where
          each-of : (vs : List ℕ) → AllByRecursion (λ v. value_of at (column_of (At v)) ≡ number_in before v) vs
          each-of [] = tt
          each-of (v ∷ vs) = (column_of-value at (At v) ∙ reads v, each-of vs)

  abbrev terms : List Polynomial
  terms = map (change_after one us) (moving one f)

  abbrev lower : List Polynomial
  lower = entries_of (occurring one f)

  terms-value : (a : List ℤ) → dot a (map (value_of here) terms) ≡ dot a (map moved (moving one f))
  terms-value a =
      ap (dot a) (mapped (value_of here) (change_after one us) (moving one f))
      ∙ dot-same a (moving one f) (λ v. value_of here (change_after one us v)) moved (each-more (λ v. v < f.to) (λ v. value_of here (change_after one us v) ≡ moved v) moved-value (moving one f) moving-below)

  lower-value : (b : List ℤ) → dot b (map (value_of here) lower) ≡ dot b (map (number_in before) (occurring one f))
  lower-value b =
      ap (dot b) (mapped (value_of here) (λ v. column_of (At v)) (occurring one f))
      ∙ dot-same b (occurring one f) (λ v. value_of here (column_of (At v))) (number_in before) (each-of (occurring one f))
    where
      each-of : (vs : List ℕ) → AllByRecursion (λ v. value_of here (column_of (At v)) ≡ number_in before v) vs
      each-of [] = tt
      each-of (v ∷ vs) = (column_of-value here (At v), each-of vs)

  relation-true : (rows : List Row) (r : Relation) → IsTrueRelation (changes_of one f) lower r → RowsHold here rows → Always (RowsHold here) (with_relation terms lower rows r)
  relation-true rows r is_true h =
      with_row-true here rows (relation_row terms lower r)
      (IsTrueIfMade-equation (IsWorth-difference (IsWorth-difference (IsWorth-weighted here r.a terms) (IsWorth-weighted here r.b lower)) (IsWorth-whole here r.c))
      (none _ _ r.c (terms-value r.a ∙ relation-shown r is_true ∙ ap (λ x. x +ℤ r.c) (sym (lower-value r.b))))) h
    where
      none : (x y c : ℤ) → x ≡ y +ℤ c → x -ℤ y -ℤ c ≡ pos 0
      none x y c e = omega (arith, ints)

  with_relations-true : (found : Option (List Relation)) → AreTrueRelations (changes_of one f) lower found → Always (RowsHold here) (with_relations terms lower found)
  with_relations-true None are_true = tt
  with_relations-true (Some relations) are_true = each-true (IsTrueRelation (changes_of one f) lower) here (with_relation terms lower) [] relations (λ rows r is_true h. relation-true rows r is_true h) are_true tt

  counted : AllByRecursion (λ (c : Change). length c.terms ≡ term_count (changes_of one f)) (changes_of one f)
  counted = go f.cases
    where
      long_as : (c d : Case) → length (changes_in one (moving one f) c).terms ≡ length (changes_in one (moving one f) d).terms
      long_as c d = length-map (moving one f) (λ v. or_zero (change one c v)) ∙ sym (length-map (moving one f) (λ v. or_zero (change one d v)))

      each-long : (d : Case) (cases : List Case) → AllByRecursion (λ (c : Change). length c.terms ≡ length (changes_in one (moving one f) d).terms) (map (changes_in one (moving one f)) cases)
      each-long d [] = tt
      each-long d (c ∷ cases) = (long_as c d, each-long d cases)

      go : (cases : List Case) → AllByRecursion (λ (c : Change). length c.terms ≡ term_count (map (changes_in one (moving one f)) cases)) (map (changes_in one (moving one f)) cases)
      go [] = tt
      go (case ∷ cases) = each-long case (case ∷ cases)

  related-true : Always (RowsHold here) (change_relations one f)
  unfolding change_relations
  related-true =
      always_bind (AreTrueRelations (changes_of one f) lower) (RowsHold here) (relations_of (changes_of one f) lower) (with_relations terms lower)
      (relations-true (changes_of one f) lower counted) with_relations-true

  -- ---- bounds: the pair of states is a run of one turn

  states : ℕ → List ℤ
  states zero = before
  states (suc n) = after

  run : IsRunOf f 1 states
  unfolding states
  run = record { links = λ i lt. go i lt }
    where
      go : (i : ℕ) → i < 1 → Holds f (states i) (states (i + 1))
      go zero lt = holds
      go (suc i) lt = absurd (omega arith)

  -- numbers that stand for the changes, whatever the vocabularies are
  abbrev as_numbers : List Polynomial
  as_numbers = map (λ v. constant_of (number_in after v -ℤ number_in before v)) (range_with_len 0 (length before + length after))

  ends-value : (v : ℕ) → value_of here (poly_at (posts_after one f) v) ≡ number_in after v
  ends-value v = go (nat_lt v f.to) refl
    where
      go : (b : Bool) → nat_lt v f.to ≡ b → value_of here (poly_at (posts_after one f) v) ≡ number_in after v
      go true e = let lt : v < f.to = grind arith in ap (value_of here) (poly_at-first (after_from one 0 us) f.to v lt) ∙ post-value v lt
      go false e = let le : f.to ≤ v = grind arith in ap (value_of here) (poly_at-past (after_from one 0 us) 0 f.to v le) ∙ sym (number_in-past after v (omega (arith, long)))

  past-less : (v : ℕ) → length before ≤ v → length after ≤ v → pos 0 ≡ number_in after v -ℤ number_in before v
  past-less v h k = sym (λ i. number_in-past after v k i -ℤ number_in-past before v h i)

  numbers-value : (v : ℕ) → value_of here (poly_at as_numbers v) ≡ number_in after v -ℤ number_in before v
  numbers-value v = go (nat_lt v (length before + length after)) refl
    where
      alone : (x : ℤ) → pos 0 +ℤ x ≡ x
      alone x = omega (arith, ints)

      go : (b : Bool) → nat_lt v (length before + length after) ≡ b → value_of here (poly_at as_numbers v) ≡ number_in after v -ℤ number_in before v
      go true e =
          let lt : v < length before + length after = grind arith in
          ap (value_of here) (poly_at-first (λ v. constant_of (number_in after v -ℤ number_in before v)) (length before + length after) v lt) ∙ alone (number_in after v -ℤ number_in before v)
      go false e =
          let le : length before + length after ≤ v = grind arith in
          ap (value_of here) (poly_at-past (λ v. constant_of (number_in after v -ℤ number_in before v)) 0 (length before + length after) v le) ∙ past-less v (omega arith) (omega arith)

  abbrev Over : List Polynomial → Type 0
  Over moves = IsOver f 1 states run here (posts_after one f) moves None

  once : (most : ℤ) → most ≡ most *ℤ pos 1
  once most = omega (arith, ints)

  over : (moves : List Polynomial) → ((v : ℕ) → value_of here (poly_at moves v) ≡ number_in after v -ℤ number_in before v) → Over moves
  unfolding states
  over moves values = record {
    starts = record { each = λ v. refl };
    ends = ends-value;
    moves = values;
    so_many = λ most. IsWorth-same (once most) (IsWorth-whole here most);
    some = omega arith;
  }

  module _ (from to : Vocabulary) (is_from : IsVocabulary from) (is_to : IsVocabulary to) where
    straight : (voc : Vocabulary) → IsVocabulary voc → AllByRecursion IsDirection (directions voc)
    straight voc is = each-more (IsDirectionOver voc.columns) IsDirection (λ d h. h.straight) (directions voc) (directions-over voc is)

    differences-true : (rows : List Row) → RowsHold here rows → Always (RowsHold here) (with_differences one f from rows)
    differences-true rows h = go one refl
      where
        go : (b : Bool) → b ≡ one → Always (RowsHold here) (with_differences b f from rows)
        go false e = h
        go true e =
            each-true IsDirection here (bounded_change f.cases (changes_after true f) None) rows (directions from)
            (λ made d direction k. change-true f 1 states run here (posts_after one f) (changes_after true f) None (over (changes_after true f) (moves-value e)) made d direction k) (straight from is_from) h
          where
            moves-value : true ≡ one → (v : ℕ) → value_of here (poly_at (changes_after true f) v) ≡ number_in after v -ℤ number_in before v
            moves-value e v = at (nat_lt v f.to) refl
              where
                at : (b : Bool) → nat_lt v f.to ≡ b → value_of here (poly_at (changes_after true f) v) ≡ number_in after v -ℤ number_in before v
                at true g =
                    let lt : v < f.to = grind arith in
                    ap (λ b. value_of here (poly_at (map (change_after b (modified_variables b f)) (range_with_len 0 f.to)) v)) e
                    ∙ ap (value_of here) (poly_at-first (change_after one us) f.to v lt) ∙ moved-value v lt ∙ ap (λ b. moved_by b (number_in before v) (number_in after v)) (sym e)
                at false g =
                    let le : f.to ≤ v = grind arith in
                    ap (value_of here) (poly_at-past (change_after true (modified_variables true f)) 0 f.to v le) ∙ past-less v (omega (arith, same (sym e))) (omega (arith, long))

    rows-true : Always (RowsHold here) (squash_rows one f from to)
    unfolding squash_rows with_bounds
    rows-true =
        always_bind (RowsHold here) (RowsHold here) (change_relations one f)
        (with_bounds one f from to) related-true
        (λ equations h. always_bind (RowsHold here) (RowsHold here) (each (rows_with_entry_bound f.cases) equations (directions from))
        (λ rows. each (rows_with_exit_bound f.cases (posts_after one f)) rows (directions to) >>= λ both. with_differences one f from both)
        (each-true IsDirection here (rows_with_entry_bound f.cases) equations (directions from) (λ made d direction k. before-true f 1 states run here (posts_after one f) as_numbers None (over as_numbers numbers-value) made d direction k) (straight from is_from) h)
        (λ rows k. always_bind (RowsHold here) (RowsHold here) (each (rows_with_exit_bound f.cases (posts_after one f)) rows (directions to)) (λ both. with_differences one f from both)
        (each-true IsDirection here (rows_with_exit_bound f.cases (posts_after one f)) rows (directions to) (λ made d direction l. after-true f 1 states run here (posts_after one f) as_numbers None (over as_numbers numbers-value) made d l) (straight to is_to) k)
        (λ both l. differences-true both l)))

    pub squash_rows-hold : Always (λ rows. HoldsCase (squash_case one f rows) before after) (squash_rows one f from to)
    squash_rows-hold = always_weaker (RowsHold here) (λ rows. HoldsCase (squash_case one f rows) before after) (squash_rows one f from to) (λ rows h. (auxes, record { rows = h; posts = posts-listed })) rows-true
