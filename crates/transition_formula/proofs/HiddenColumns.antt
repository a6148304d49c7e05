-- What a formula holds of whose last entry columns became auxiliaries.
use Rattle.std.proofs.Common.{◌≡◌, ◌⊎◌, inl, inr, ℕ, ◌+◌, ◌-◌, ◌<◌, ◌≤◌, true, ℤ, pos, length, map, take, get_or, List, [], ◌∷◌, ◌++◌, refl, sym, ap, subst, ◌∙◌, arith, length-append, append_assoc}
use Rattle.std.specs.Prelude.{IsTrue, count_by, slice_get, unwrap_or}
use Rattle.std.specs.List.{list_all, flat_map, range_with_len}
use Rattle.std.proofs.lemmas.Bool.{cases_lt}
use Rattle.std.proofs.lemmas.List.{get_or_append_left, get_or-append_right, get_or-take, length-take}
use Rattle.std.proofs.lemmas.List.Folds.{list_all-append}
use Rattle.std.proofs.lemmas.List.FromFn.{get_or-map-range_with_len, length-map-range_with_len}
use Rattle.std.proofs.lemmas.Option.{unwrap_or-slice_get}
use Rattle.linear_terms.specs.declared.col.Col.{Col}
use Rattle.linear_terms.specs.declared.col.Col.TheVariants.{At, Aux}
use Rattle.linear_terms.specs.declared.row.Case.{Case}
use Rattle.linear_terms.specs.declared.row.Row.{Row}
use Rattle.linear_terms.specs.Operations.{substituted_polynomial}
use Rattle.transition_formula.specs.declared.loss.Loss.{Loss}
use Rattle.linear_terms.specs.Polynomial.{Polynomial, column_of, constant_of}
use Rattle.linear_terms.specs.Replacement.{put_in}
use Rattle.linear_terms.specs.Value.{Valuation, value_of}
use Rattle.linear_terms.proofs.Values.{substituted-value}
use Rattle.transition_formula.specs.Composition.{rows_by, posts_by, losses_by}
use Rattle.transition_formula.specs.Hiding.{entries_hidden, own_auxiliaries, hiding, hidden_case, hidden, losses_in_hiding}
use Rattle.transition_formula.specs.Loss.{losses_of}
use Rattle.transition_formula.specs.Meaning.{numbers, HoldsCase, HoldsSome, Holds}
use Rattle.transition_formula.specs.Transition.{Transition, every_column, every_column_of, is_below, fits, IsTransition}
use Rattle.transition_formula.proofs.ColumnTests.{both, both_true, lost, Carries, substituted-carries, rows_by-covered, posts_by-covered, posts_by-length}
use Rattle.transition_formula.proofs.Fitting.{Fitting, fitting, from_fitting, below-true, true-below, columns_pass, test_of_get}
use Rattle.transition_formula.proofs.Meanings.{both_aux, first_aux, second_aux, lost_aux}
use Rattle.transition_formula.proofs.NotedErrors.{substituted-tells}
use Rattle.transition_formula.proofs.Values.{Keeps, lost_values, column-value, value-agrees, none-of, rows_by-hold, rows_by-held, posts_by-values, posts_by-kept}

-- ---- what is put in

abbrev zero_poly : Polynomial
zero_poly = constant_of (pos 0)

module _ (n from first : ℕ) where
  entry-kept : (k : ℕ) → k < n → unwrap_or (slice_get (entries_hidden n from first) k) zero_poly ≡ column_of (At k)
  entry-kept k lt =
      let xs = map (λ j. column_of (At j)) (range_with_len 0 n) in
      let ys = map (λ j. column_of (Aux j)) (range_with_len first (from - n)) in
      let within : k < length xs = omega (arith, length-map-range_with_len (λ j. column_of (At j)) 0 n) in
      let place : 0 + k ≡ k = omega arith in
      unwrap_or-slice_get (xs ++ ys) k zero_poly ∙ get_or_append_left xs ys zero_poly k within ∙ get_or-map-range_with_len (λ j. column_of (At j)) 0 n k k zero_poly lt place

  entry-hidden : (k : ℕ) → n ≤ k → k < from → unwrap_or (slice_get (entries_hidden n from first) k) zero_poly ≡ column_of (Aux (first + (k - n)))
  entry-hidden k past lt =
      let xs = map (λ j. column_of (At j)) (range_with_len 0 n) in
      let ys = map (λ j. column_of (Aux j)) (range_with_len first (from - n)) in
      unwrap_or-slice_get (xs ++ ys) k zero_poly
      ∙ get_or-append_right xs ys n k zero_poly (length-map-range_with_len (λ j. column_of (At j)) 0 n) past
      ∙ get_or-map-range_with_len (λ j. column_of (Aux j)) first (from - n) (k - n) (first + (k - n)) zero_poly (omega arith) refl

own-kept : (count k : ℕ) → k < count → unwrap_or (slice_get (own_auxiliaries count) k) zero_poly ≡ column_of (Aux k)
own-kept count k lt =
    let place : 0 + k ≡ k = omega arith in
    unwrap_or-slice_get (own_auxiliaries count) k zero_poly ∙ get_or-map-range_with_len (λ j. column_of (Aux j)) 0 count k k zero_poly lt place

-- ---- values, where the new columns have the numbers of the old ones

record IsSeen (n from count : ℕ) (v w : Valuation) : Type 0 where
  entries : (k : ℕ) → k < n → w (At k) ≡ v (At k)
  others : (k : ℕ) → k < from - n → w (Aux (count + k)) ≡ v (At (n + k))
  own : (k : ℕ) → k < count → w (Aux k) ≡ v (Aux k)

module _ (n from : ℕ) (case : Case) (v w : Valuation) (seen : IsSeen n from case.aux v w) where
  seen-column : (c : Col) → IsTrue (is_below from case.aux c) → value_of w (put_in (entries_hidden n from case.aux) (own_auxiliaries case.aux) c) ≡ v c
  seen-column (At k) h = go (cases_lt k n)
    where
      within : k < from
      within = true-below k from h

      go : (k < n) ⊎ (n ≤ k) → value_of w (unwrap_or (slice_get (entries_hidden n from case.aux) k) zero_poly) ≡ v (At k)
      go (inl lt) = ap (value_of w) (entry-kept n from case.aux k lt) ∙ column-value w (At k) ∙ seen.entries k lt
      go (inr past) =
          let lt : k < from = within in
          let back : n + (k - n) ≡ k = omega arith in
          ap (value_of w) (entry-hidden n from case.aux k past lt) ∙ column-value w (Aux (case.aux + (k - n))) ∙ seen.others (k - n) (omega arith) ∙ ap (λ j. v (At j)) back
  seen-column (Aux k) h =
      let lt = true-below k case.aux h in
      ap (value_of w) (own-kept case.aux k lt) ∙ column-value w (Aux k) ∙ seen.own k lt

  hiding-keeps : Keeps (hiding n from case) (is_below from case.aux) v w
  hiding-keeps = record {
    tells = substituted-tells (put_in (entries_hidden n from case.aux) (own_auxiliaries case.aux));
    value = λ p q e h.
        substituted-value w (put_in (entries_hidden n from case.aux) (own_auxiliaries case.aux)) p q e
        ∙ value-agrees (λ c. value_of w (put_in (entries_hidden n from case.aux) (own_auxiliaries case.aux) c)) v (is_below from case.aux) seen-column p h;
  }

-- ---- a case

number_at : (before : List ℤ) (k : ℕ) → unwrap_or (slice_get before k) (pos 0) ≡ get_or before k (pos 0)
number_at before k = unwrap_or-slice_get before k (pos 0)

module _ (n from to : ℕ) (case : Case) (f : Fitting from to case) where
  hidden_case-holds : (before after : List ℤ) → HoldsCase case before after → HoldsCase (hidden_case n from case) (take n before) after
  hidden_case-holds before after (aux, h) =
      let op = hiding n from case in
      let v = numbers before aux in
      let values = lost_values op v case.post in
      let others : ℕ → ℤ = λ k. get_or before (n + k) (pos 0) in
      let new = both_aux case.aux (from - n) aux others values in
      let w = numbers (take n before) new in
      let seen : IsSeen n from case.aux v w = record {
        entries = λ k lt. number_at (take n before) k ∙ get_or-take n before k (pos 0) lt ∙ sym (number_at before k);
        others = λ k lt. second_aux case.aux (from - n) aux others values k lt ∙ sym (number_at before (n + k));
        own = λ k lt. sym (first_aux case.aux (from - n) aux others values k lt);
      } in
      let keeps = hiding-keeps n from case v w seen in (
        new,
        record {
          rows = rows_by-hold op (is_below from case.aux) v w keeps case.rows f.rows_are h.rows;
          posts = posts_by-values op (is_below from case.aux) v w keeps (case.aux + (from - n)) case.post f.posts_are (λ j lt. lost_aux case.aux (from - n) aux others values j) ∙ h.posts;
        },
      )

  hidden_case-held : (told after : List ℤ) → length told ≡ n → losses_by (hiding n from case) case ≡ [] → HoldsCase (hidden_case n from case) told after → (more : List ℤ) × ((length more ≡ from - n) × HoldsCase case (told ++ more) after)
  hidden_case-held told after long none (aux, h) =
      let op = hiding n from case in
      let other : ℕ → ℤ = λ k. aux (case.aux + k) in
      let more = map other (range_with_len 0 (from - n)) in
      let v = numbers (told ++ more) aux in
      let w = numbers told aux in
      let seen : IsSeen n from case.aux v w = record {
        entries = λ k lt. number_at told k ∙ sym (number_at (told ++ more) k ∙ get_or_append_left told more (pos 0) k (omega arith));
        others = λ k lt.
            let back : n + k - n ≡ k = omega arith in
            let place : 0 + k ≡ k = omega arith in
            sym (number_at (told ++ more) (n + k) ∙ get_or-append_right told more n (n + k) (pos 0) long (omega arith)
            ∙ ap (λ j. get_or more j (pos 0)) back ∙ get_or-map-range_with_len other 0 (from - n) k k (pos 0) lt place);
        own = λ k lt. refl;
      } in
      let keeps = hiding-keeps n from case v w seen in
      let losses = none-of (flat_map (λ row. losses_of (op row.poly)) case.rows) (flat_map (λ p. losses_of (op p)) case.post) none in (
        more,
        (
          length-map-range_with_len other 0 (from - n),
          (
            aux,
            record {
              rows = rows_by-held op (is_below from case.aux) v w keeps case.rows f.rows_are losses.0 h.rows;
              posts = sym (posts_by-kept op (is_below from case.aux) v w keeps (case.aux + (from - n)) case.post f.posts_are losses.1) ∙ h.posts;
            },
          ),
        ),
      )

-- ---- a formula

module _ (n from to : ℕ) where
  some-hold : (cases : List Case) → IsTransition from to cases → (before after : List ℤ) → HoldsSome cases before after → HoldsSome (map (hidden_case n from) cases) (take n before) after
  some-hold [] e before after h = absurd h
  some-hold (case ∷ cases) e before after (inl h) = inl (hidden_case-holds n from to case (fitting from to case (both (fits from to case) (list_all (fits from to) cases) e).0) before after h)
  some-hold (case ∷ cases) e before after (inr h) = inr (some-hold cases (both (fits from to case) (list_all (fits from to) cases) e).1 before after h)

  some-held : (cases : List Case) → IsTransition from to cases → (told after : List ℤ) → length told ≡ n → flat_map (λ case. losses_by (hiding n from case) case) cases ≡ [] → HoldsSome (map (hidden_case n from) cases) told after
      → (more : List ℤ) × ((length more ≡ from - n) × HoldsSome cases (told ++ more) after)
  some-held [] e told after long none h = absurd h
  some-held (case ∷ cases) e told after long none (inl h) =
      let losses = none-of (losses_by (hiding n from case) case) (flat_map (λ c. losses_by (hiding n from c) c) cases) none in
      let held = hidden_case-held n from to case (fitting from to case (both (fits from to case) (list_all (fits from to) cases) e).0) told after long losses.0 h in
      (held.0, (held.1.0, inl held.1.1))
  some-held (case ∷ cases) e told after long none (inr h) =
      let losses = none-of (losses_by (hiding n from case) case) (flat_map (λ c. losses_by (hiding n from c) c) cases) none in
      let held = some-held cases (both (fits from to case) (list_all (fits from to) cases) e).1 told after long losses.1 h in
      (held.0, (held.1.0, inr held.1.1))

-- of the first numbers of each state that the formula held of
pub hidden-holds : (n : ℕ) (f : Transition) → n ≤ f.from → IsTransition f.from f.to f.cases → (before after : List ℤ) → Holds f before after → Holds (hidden n f) (take n before) after
hidden-holds n f le e before after h = record {
  enters = let long = h.enters in omega (arith, length-take n before);
  some = some-hold n f.from f.to f.cases e before after h.some;
}

-- and where nothing was lost of no others
pub hidden-held : (n : ℕ) (f : Transition) → n ≤ f.from → IsTransition f.from f.to f.cases → losses_in_hiding n f ≡ [] → (told after : List ℤ) → Holds (hidden n f) told after → (more : List ℤ) × Holds f (told ++ more) after
hidden-held n f le e none told after h =
    let held = some-held n f.from f.to f.cases e told after h.enters none h.some in
    (held.0, record { enters = let long = h.enters in let rest = held.1.0 in omega (arith, length-append told held.0); some = held.1.1 })

-- ---- it fits

hidden-covers : (n from count end : ℕ) → n ≤ from → count + (from - n) ≤ end → (c : Col) → IsTrue (is_below from count c) → IsTrue (every_column (is_below n end) (put_in (entries_hidden n from count) (own_auxiliaries count) c))
hidden-covers n from count end le room (At k) h =
    let xs = map (λ j. column_of (At j)) (range_with_len 0 n) in
    let ys = map (λ j. column_of (Aux j)) (range_with_len count (from - n)) in
    let first = columns_pass (is_below n end) (λ j. At j) 0 n (λ j low lt. below-true j n (omega arith)) in
    let second = columns_pass (is_below n end) (λ j. Aux j) count (from - n) (λ j low lt. below-true j end (omega arith)) in
    let covered : IsTrue (list_all (every_column (is_below n end)) (xs ++ ys)) = list_all-append (every_column (is_below n end)) xs ys ∙ both_true (list_all (every_column (is_below n end)) xs) (list_all (every_column (is_below n end)) ys) first second in
    let lt = true-below k from h in
    test_of_get (every_column (is_below n end)) zero_poly (xs ++ ys) k covered
    (omega (arith, length-append xs ys, length-map-range_with_len (λ j. column_of (At j)) 0 n, length-map-range_with_len (λ j. column_of (Aux j)) count (from - n)))
hidden-covers n from count end le room (Aux k) h =
    let covered = columns_pass (is_below n end) (λ j. Aux j) 0 count (λ j low lt. below-true j end (omega arith)) in
    let lt = true-below k count h in
    test_of_get (every_column (is_below n end)) zero_poly (own_auxiliaries count) k covered (omega (arith, length-map-range_with_len (λ j. column_of (Aux j)) 0 count))

hidden_case-fits : (n from to : ℕ) (case : Case) → n ≤ from → IsTrue (fits from to case) → IsTrue (fits n to (hidden_case n from case))
hidden_case-fits n from to case le h =
    let f = fitting from to case h in
    let op = hiding n from case in
    let end : ℕ = case.aux + (from - n) + count_by (lost op) case.post in
    let carries : Carries op (is_below from case.aux) (is_below n end) =
    substituted-carries (put_in (entries_hidden n from case.aux) (own_auxiliaries case.aux)) (is_below from case.aux) (is_below n end) (hidden-covers n from case.aux end le (omega arith)) in
    from_fitting n to (hidden_case n from case) record {
      length_is = posts_by-length op (case.aux + (from - n)) case.post ∙ f.length_is;
      rows_are = rows_by-covered op (is_below from case.aux) (is_below n end) carries case.rows f.rows_are;
      posts_are = posts_by-covered op (is_below from case.aux) (is_below n end) carries end (λ j lt. below-true j end lt) (case.aux + (from - n)) case.post (omega arith) f.posts_are;
    }

pub hidden-fits : (n from to : ℕ) (cases : List Case) → n ≤ from → IsTransition from to cases → IsTransition n to (map (hidden_case n from) cases)
hidden-fits n from to [] le h = refl
hidden-fits n from to (case ∷ cases) le h =
    let parts = both (fits from to case) (list_all (fits from to) cases) h in
    both_true (fits n to (hidden_case n from case)) (list_all (fits n to) (map (hidden_case n from) cases)) (hidden_case-fits n from to case le parts.0) (hidden-fits n from to cases le parts.1)

-- ---- for the code: the lists that it has, and those of the definition

entries-length : (n from first : ℕ) → n ≤ from → length (entries_hidden n from first) ≡ from
entries-length n from first le =
    let xs = map (λ k. column_of (At k)) (range_with_len 0 n) in
    let ys = map (λ k. column_of (Aux k)) (range_with_len first (from - n)) in
    omega (arith, length-append xs ys, length-map-range_with_len (λ k. column_of (At k)) 0 n, length-map-range_with_len (λ k. column_of (Aux k)) first (from - n))

pub record ReadsHidden (n from : ℕ) (case : Case) (at aux : List Polynomial) (rows : List Row) (posts : List Polynomial) : Type 0 where
  pub same_at : at ≡ entries_hidden n from case.aux
  pub same_aux : aux ≡ own_auxiliaries case.aux
  pub same_rows : rows ≡ case.rows
  pub same_posts : posts ≡ case.post

pub hidden_rows_covered : (n from : ℕ) (case : Case) (at aux : List Polynomial) (rows : List Row) → n ≤ from → IsTrue (every_column_of (is_below from case.aux) case) → at ≡ entries_hidden n from case.aux → aux ≡ own_auxiliaries case.aux → rows ≡ case.rows
    → IsTrue (list_all (λ row. every_column (is_below (length at) (length aux)) row.poly) rows)
hidden_rows_covered n from case at aux rows le h e f g =
    let parts = both (list_all (λ row. every_column (is_below from case.aux) row.poly) case.rows) (list_all (every_column (is_below from case.aux)) case.post) h in
    let long : length at ≡ from = ap length e ∙ entries-length n from case.aux le in
    let many : length aux ≡ case.aux = ap length f ∙ length-map-range_with_len (λ k. column_of (Aux k)) 0 case.aux in
    subst (λ b. b ≡ true) (sym (λ i. list_all (λ row. every_column (is_below (long i) (many i)) row.poly) (g i))) parts.0

pub hidden_posts_covered : (n from : ℕ) (case : Case) (at aux posts : List Polynomial) → n ≤ from → IsTrue (every_column_of (is_below from case.aux) case) → at ≡ entries_hidden n from case.aux → aux ≡ own_auxiliaries case.aux → posts ≡ case.post
    → IsTrue (list_all (every_column (is_below (length at) (length aux))) posts)
hidden_posts_covered n from case at aux posts le h e f g =
    let parts = both (list_all (λ row. every_column (is_below from case.aux) row.poly) case.rows) (list_all (every_column (is_below from case.aux)) case.post) h in
    let long : length at ≡ from = ap length e ∙ entries-length n from case.aux le in
    let many : length aux ≡ case.aux = ap length f ∙ length-map-range_with_len (λ k. column_of (Aux k)) 0 case.aux in
    subst (λ b. b ≡ true) (sym (λ i. list_all (every_column (is_below (long i) (many i))) (g i))) parts.1

module _ (n from : ℕ) (case : Case) (at aux : List Polynomial) (rows : List Row) (posts : List Polynomial) (reads : ReadsHidden n from case at aux rows posts) where
  pub hidden_made : (made : List Row) (post : List Polynomial) (count : ℕ) → made ≡ rows_by (substituted_polynomial (put_in at aux)) rows → post ≡ posts_by (substituted_polynomial (put_in at aux)) (case.aux + (from - n)) posts
      → count ≡ case.aux + (from - n) + count_by (lost (substituted_polynomial (put_in at aux))) posts → (let c : Case = record { aux = count; rows = made; post = post } in c ≡ hidden_case n from case)
  hidden_made made post count e f g =
      (λ i. record { aux = g i; rows = e i; post = f i })
      ∙ (λ i. record {
        aux = case.aux + (from - n) + count_by (lost (substituted_polynomial (put_in (reads.same_at i) (reads.same_aux i)))) (reads.same_posts i);
        rows = rows_by (substituted_polynomial (put_in (reads.same_at i) (reads.same_aux i))) (reads.same_rows i);
        post = posts_by (substituted_polynomial (put_in (reads.same_at i) (reads.same_aux i))) (case.aux + (from - n)) (reads.same_posts i);
      })

  pub hidden_noted : (before between after : List Loss) → between ≡ before ++ flat_map (λ row. losses_of (substituted_polynomial (put_in at aux) row.poly)) rows → after ≡ between ++ flat_map (λ p. losses_of (substituted_polynomial (put_in at aux) p)) posts
      → after ≡ before ++ losses_by (hiding n from case) case
  hidden_noted before between after e f =
      f
      ∙ ap (λ l. l ++ flat_map (λ p. losses_of (substituted_polynomial (put_in at aux) p)) posts) e
      ∙ append_assoc before (flat_map (λ row. losses_of (substituted_polynomial (put_in at aux) row.poly)) rows) (flat_map (λ p. losses_of (substituted_polynomial (put_in at aux) p)) posts)
      ∙ (λ i. before ++ (flat_map (λ row. losses_of (substituted_polynomial (put_in (reads.same_at i) (reads.same_aux i)) row.poly)) (reads.same_rows i) ++ flat_map (λ p. losses_of (substituted_polynomial (put_in (reads.same_at i) (reads.same_aux i)) p)) (reads.same_posts i)))
