-- What is kept of a case that fits between columns fits between them.
use Rattle.std.proofs.Common.{◌≡◌, ℕ, zero, suc, ◌+◌, length, map, pos, List, [], ◌∷◌, Option, Some, None, Result, Ok, Err, refl, sym, subst, ◌∙◌, arith}
use Rattle.std.specs.Prelude.{IsTrue, slice_get, count_by}
use Rattle.std.specs.List.{list_all, list_any, remove, AllByRecursion}
use Rattle.std.proofs.lemmas.List.{length-map}
use Rattle.linear_terms.specs.declared.col.Col.{Col}
use Rattle.linear_terms.specs.declared.col.Col.TheVariants.{At, Aux}
use Rattle.linear_terms.specs.declared.error.TermError.{TermError}
use Rattle.linear_terms.specs.declared.row.Row.{Row}
use Rattle.linear_terms.specs.declared.row.Case.{Case}
use Rattle.linear_terms.specs.Polynomial.{Terms, Polynomial}
use Rattle.linear_terms.specs.Auxiliaries.{occurs, renumbered_column, renumbered_polynomial}
use Rattle.linear_terms.proofs.Columns.{EachColumn}
use Rattle.linear_terms.proofs.Numbering.{Occurring, terms_occur}
use Rattle.transition_formula.specs.declared.solving.Solved.{Solved}
use Rattle.transition_formula.specs.Transition.{every_column, is_below, fits}
use Rattle.transition_formula.specs.Renumbering.{occurs_in, new_number, renumbered_row, renumbered_case}
use Rattle.transition_formula.specs.Rows.{tidied_rows}
use Rattle.transition_formula.specs.Order.{first_equation, solution, with_solution}
use Rattle.transition_formula.specs.Rounds.{with_rows, with_solved, round_at, solved_first, round, rounds, in_order, solved_answer, Stays}
use Rattle.transition_formula.proofs.ColumnTests.{both, both_true, lost, columns_from_test, test_from_columns, rows_by-covered, posts_by-covered, posts_by-length}
use Rattle.transition_formula.proofs.CarriedColumns.{tidied-passes, solution-passes, with_solution-carries}
use Rattle.transition_formula.proofs.Fitting.{Fitting, fitting, from_fitting, below-true, true-below, is_below-more}
use Rattle.transition_formula.proofs.Loops.{or_left, or_right}
use Rattle.transition_formula.proofs.Numbers.{count_below-keeps}
use Rattle.transition_formula.proofs.Rounding.{test_removed, test_got}

module _ (from to : ℕ) where
  -- ---- an equation solved

  solved-fits : (case : Case) (p : Polynomial) (n : ℕ) (r : Result Polynomial TermError) → solution p n ≡ r → IsTrue (every_column (is_below from case.aux) p) → Fitting from to case → Fitting from to (with_solved r n case)
  solved-fits case p n (Err e) s h f = f
  solved-fits case p n (Ok q) s h f =
      let op = with_solution n q in
      let end : ℕ = case.aux + count_by (lost op) case.post in
      let carries = with_solution-carries (is_below from case.aux) n q (is_below from end) (is_below-more from case.aux end (omega arith)) (solution-passes (is_below from case.aux) p n q s h) in
      record {
        length_is = posts_by-length op case.aux case.post ∙ f.length_is;
        rows_are = rows_by-covered op (is_below from case.aux) (is_below from end) carries case.rows f.rows_are;
        posts_are = posts_by-covered op (is_below from case.aux) (is_below from end) carries end (λ j lt. below-true j end lt) case.aux case.post (omega arith) f.posts_are;
      }

  -- ---- new numbers

  module _ (case : Case) where
    column-fits : (c : Col) → IsTrue (is_below from case.aux c) → Occurring (λ n. IsTrue (occurs_in case n)) c → IsTrue (is_below from (new_number case case.aux) (renumbered_column (new_number case) c))
    column-fits (At n) h k = h
    column-fits (Aux n) h k = below-true (new_number case n) (new_number case case.aux) (count_below-keeps (occurs_in case) n case.aux k (true-below n case.aux h))

    columns-fit : (m : List Col) → AllByRecursion (λ c. IsTrue (is_below from case.aux c)) m → AllByRecursion (Occurring (λ n. IsTrue (occurs_in case n))) m
        → AllByRecursion (λ c. IsTrue (is_below from (new_number case case.aux) c)) (map (renumbered_column (new_number case)) m)
    columns-fit [] h k = tt
    columns-fit (c ∷ m) h k = (column-fits c h.0 k.0, columns-fit m h.1 k.1)

    terms-fit : (ts : Terms) → EachColumn (λ c. IsTrue (is_below from case.aux c)) ts → EachColumn (Occurring (λ n. IsTrue (occurs_in case n))) ts
        → EachColumn (λ c. IsTrue (is_below from (new_number case case.aux) c)) (renumbered_polynomial (new_number case) (record { terms = ts; rest = pos 0 })).terms
    terms-fit [] h k = tt
    terms-fit (t ∷ ts) h k = (columns-fit t.0 h.0 k.0, terms-fit ts h.1 k.1)

    polynomial-fits : (p : Polynomial) → IsTrue (every_column (is_below from case.aux) p) → ((n : ℕ) → IsTrue (occurs n p) → IsTrue (occurs_in case n)) → IsTrue (every_column (is_below from (new_number case case.aux)) (renumbered_polynomial (new_number case) p))
    polynomial-fits p h there =
        test_from_columns (is_below from (new_number case case.aux)) (renumbered_polynomial (new_number case) p)
        (terms-fit p.terms (columns_from_test (is_below from case.aux) p h) (terms_occur (λ n. IsTrue (occurs_in case n)) p.terms there))

    rows-fit : (rows : List Row) → IsTrue (list_all (λ row. every_column (is_below from case.aux) row.poly) rows) → ((n : ℕ) → IsTrue (list_any (λ row. occurs n row.poly) rows) → IsTrue (occurs_in case n))
        → IsTrue (list_all (λ row. every_column (is_below from (new_number case case.aux)) row.poly) (map (renumbered_row (new_number case)) rows))
    rows-fit [] h there = refl
    rows-fit (row ∷ rows) h there =
        let parts = both (every_column (is_below from case.aux) row.poly) (list_all (λ r. every_column (is_below from case.aux) r.poly) rows) h in
        both_true (every_column (is_below from (new_number case case.aux)) (renumbered_polynomial (new_number case) row.poly)) (list_all (λ r. every_column (is_below from (new_number case case.aux)) r.poly) (map (renumbered_row (new_number case)) rows))
        (polynomial-fits row.poly parts.0 (λ n k. there n (or_left (occurs n row.poly) (list_any (λ r. occurs n r.poly) rows) k)))
        (rows-fit rows parts.1 (λ n k. there n (or_right (occurs n row.poly) (list_any (λ r. occurs n r.poly) rows) k)))

    posts-fit : (posts : List Polynomial) → IsTrue (list_all (every_column (is_below from case.aux)) posts) → ((n : ℕ) → IsTrue (list_any (occurs n) posts) → IsTrue (occurs_in case n))
        → IsTrue (list_all (every_column (is_below from (new_number case case.aux))) (map (renumbered_polynomial (new_number case)) posts))
    posts-fit [] h there = refl
    posts-fit (p ∷ posts) h there =
        let parts = both (every_column (is_below from case.aux) p) (list_all (every_column (is_below from case.aux)) posts) h in
        both_true (every_column (is_below from (new_number case case.aux)) (renumbered_polynomial (new_number case) p)) (list_all (every_column (is_below from (new_number case case.aux))) (map (renumbered_polynomial (new_number case)) posts))
        (polynomial-fits p parts.0 (λ n k. there n (or_left (occurs n p) (list_any (occurs n) posts) k)))
        (posts-fit posts parts.1 (λ n k. there n (or_right (occurs n p) (list_any (occurs n) posts) k)))

  renumbered-fits : (case : Case) → Fitting from to case → Fitting from to (renumbered_case case)
  renumbered-fits case f =
      record {
        length_is = length-map case.post (renumbered_polynomial (new_number case)) ∙ f.length_is;
        rows_are = rows-fit case case.rows f.rows_are (λ n k. or_left (list_any (λ row. occurs n row.poly) case.rows) (list_any (occurs n) case.post) k);
        posts_are = posts-fit case case.post f.posts_are (λ n k. or_right (list_any (λ row. occurs n row.poly) case.rows) (list_any (occurs n) case.post) k);
      }

  -- ---- the rounds

  abbrev Fit : Option Case → Type 0
  Fit None = Unit {0}
  Fit (Some case) = Fitting from to case

  without-fits : (case : Case) (place : ℕ) → Fitting from to case → Fitting from to (with_rows case (remove case.rows place))
  without-fits case place f = record { length_is = f.length_is; rows_are = test_removed (λ row. every_column (is_below from case.aux) row.poly) case.rows place f.rows_are; posts_are = f.posts_are }

  rounds-fit : (n : ℕ) (case : Case) → Fitting from to case → Fit (rounds n case).left
  rounds-fit zero case f = renumbered-fits case f
  rounds-fit (suc n) case f = go (tidied_rows case.rows).rows refl (λ next k. rounds-fit n next k)
    where
      at : (left : Case) (place m : ℕ) (o : Option Row) → o ≡ slice_get left.rows place → Fitting from to left → ((next : Case) → Fitting from to next → Fit (rounds n next).left) → Fit (round_at (rounds n) (with_rows left (remove left.rows place)) m o).left
      at left place m None e k ih = renumbered-fits (with_rows left (remove left.rows place)) (without-fits left place k)
      at left place m (Some row) e k ih =
          let one = test_got (λ r. every_column (is_below from left.aux) r.poly) left.rows place row k.rows_are e in
          ih (with_solved (solution row.poly m) m (with_rows left (remove left.rows place))) (solved-fits (with_rows left (remove left.rows place)) row.poly m (solution row.poly m) refl one (without-fits left place k))

      first : (left : Case) (o : Option (ℕ × ℕ)) → Fitting from to left → ((next : Case) → Fitting from to next → Fit (rounds n next).left) → Fit (solved_first (rounds n) left o).left
      first left None k ih = renumbered-fits left k
      first left (Some found) k ih = at left found.0 found.1 (slice_get left.rows found.0) refl k ih

      go : (o : Option (List Row)) → (tidied_rows case.rows).rows ≡ o → ((next : Case) → Fitting from to next → Fit (rounds n next).left) → Fit (round (rounds n) case o).left
      go None e ih = tt
      go (Some rows) e ih =
          let left : Fitting from to (with_rows case rows) = record { length_is = f.length_is; rows_are = tidied-passes (is_below from case.aux) case.rows rows e f.rows_are; posts_are = f.posts_are } in
          first (with_rows case rows) (first_equation rows) left ih

  pub kept-fits : (case : Case) (made : Solved) → IsTrue (fits from to case) → made ≡ solved_answer (in_order case).left → Stays (λ c. IsTrue (fits from to c)) made
  kept-fits case made h e = subst (Stays (λ c. IsTrue (fits from to c))) (sym e) (go (in_order case).left (rounds-fit (length case.rows) case (fitting from to case h)))
    where
      go : (o : Option Case) → Fit o → Stays (λ c. IsTrue (fits from to c)) (solved_answer o)
      go None f = tt
      go (Some c) f = from_fitting from to c f
