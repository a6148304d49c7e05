-- A case put in order has the columns that it had: what passes for each column of its rows and
-- posts passes on.
use Rattle.std.proofs.Common.{◌≡◌, ℕ, ◌+◌, ◌≤◌, Bool, true, false, cond, ℤ, pos, negsuc, List, [], ◌∷◌, Some, Result, Ok, Err, refl, subst, arith}
use Rattle.std.specs.Prelude.{IsTrue, not, ◌==◌, int_div, unsigned_abs, count_by}
use Rattle.std.specs.List.{list_all, filter}
use Rattle.std.specs.Ordering.{int_eq}
use Rattle.items.specs.Gives.{◌>>=◌}
use Rattle.items.proofs.Each.{each_from_test, test_from_each}
use Rattle.items.proofs.Gives.{on_ok}
use Rattle.whole_numbers.specs.Divisors.{divides, gcd_of_all}
use Rattle.std.specs.Map.{values_of}
use Rattle.linear_terms.specs.declared.col.Col.{Col}
use Rattle.linear_terms.specs.declared.col.Col.TheVariants.{At, Aux}
use Rattle.linear_terms.specs.declared.error.TermError.{TermError}
use Rattle.linear_terms.specs.declared.row.Kind.{Kind}
use Rattle.linear_terms.specs.declared.row.Kind.TheVariants.{AtMost, Equal}
use Rattle.linear_terms.specs.declared.row.Row.{Row}
use Rattle.linear_terms.specs.declared.row.Case.{Case}
use Rattle.linear_terms.specs.declared.row.Normal.TheVariants.{Constant, Kept}
use Rattle.linear_terms.specs.Polynomial.{Terms, Polynomial, column_of, coefficient_in}
use Rattle.linear_terms.specs.Operations.{multiple_of, substituted_polynomial}
use Rattle.linear_terms.specs.Auxiliaries.{has_auxiliary, occurs, without, put_for, is_numbered}
use Rattle.linear_terms.specs.Row.{normal_form, divided_terms, with_positive_first, starts_negative, reduced_row}
use Rattle.linear_terms.proofs.Columns.{EachColumn, multiple_of-each}
use Rattle.transition_formula.specs.Transition.{every_column, every_column_of}
use Rattle.transition_formula.specs.Composition.{by, posts_by, rows_by}
use Rattle.transition_formula.specs.Rows.{tidied_rows}
use Rattle.transition_formula.specs.Order.{solution, with_solution}
use Rattle.transition_formula.specs.Rounds.{with_solved}
use Rattle.transition_formula.proofs.ColumnTests.{both, both_true, lost, Carries, substituted-carries, columns_from_test, test_from_columns, more_columns, rows_by-covered, posts_by-covered}
use Rattle.transition_formula.proofs.TidiedRows.{tidied-keeps}
use Rattle.transition_formula.proofs.Fitting.{below-true, true-below}

abbrev done : {X : Type 0} → X → Result X TermError
done x = Ok x

-- ---- the normal form

divided-each : (P : Col → Type 0) (d : ℕ) (ts : Terms) → EachColumn P ts → EachColumn P (divided_terms d ts)
divided-each P d [] h = tt
divided-each P d (t ∷ ts) h = (h.0, divided-each P d ts h.1)

with_positive_first-each : (P : Col → Type 0) (p q : Polynomial) → with_positive_first p ≡ Ok q → EachColumn P p.terms → EachColumn P q.terms
with_positive_first-each P p q e h = go (starts_negative p.terms) e
  where
    go : (b : Bool) → cond b (multiple_of p (negsuc 0)) (Ok p) ≡ Ok q → EachColumn P q.terms
    go true f = multiple_of-each P p (negsuc 0) q f h
    go false f = let same : p ≡ q = cc in subst (λ r. EachColumn P r.terms) same h

reduced-each : (P : Col → Type 0) (kind : Kind) (g : ℕ) (p : Polynomial) (r : Row) → reduced_row kind g p ≡ Ok (Kept r) → EachColumn P p.terms → EachColumn P r.poly.terms
reduced-each P AtMost g p r e h = kept-each P AtMost (divided_terms g p.terms) r e (divided-each P g p.terms h)
  where
    kept-each : (P : Col → Type 0) (kind : Kind) (ts : Terms) {rest : ℤ} (r : Row) → done (Kept record { poly = record { terms = ts; rest = rest }; kind = kind }) ≡ Ok (Kept r) → EachColumn P ts → EachColumn P r.poly.terms
    kept-each P kind ts {rest} r e h = let same : record { poly = record { terms = ts; rest = rest }; kind = kind } ≡ r = cc in subst (λ (s : Row). EachColumn P s.poly.terms) same h
reduced-each P Equal g p r e h = go (divides g (unsigned_abs p.rest)) e
  where
    quotient : Polynomial
    quotient = record { terms = divided_terms g p.terms; rest = int_div p.rest (pos g) }

    go : (b : Bool) → cond b (with_positive_first quotient >>= λ q. Ok (Kept record { poly = q; kind = Equal })) (Ok (Constant false)) ≡ Ok (Kept r) → EachColumn P r.poly.terms
    go true f =
        on_ok (with_positive_first quotient) (λ q. Ok (Kept record { poly = q; kind = Equal })) (Kept r) f
        (λ q k l. let same : record { poly = q; kind = Equal } ≡ r = cc in subst (λ (s : Row). EachColumn P s.poly.terms) same (with_positive_first-each P quotient q k (divided-each P g p.terms h)))
    go false f = cc

normal_form-each : (P : Col → Type 0) (ts : Terms) (rest : ℤ) (kind : Kind) (r : Row) → normal_form record { poly = record { terms = ts; rest = rest }; kind = kind } ≡ Ok (Kept r) → EachColumn P ts → EachColumn P r.poly.terms
normal_form-each P [] rest kind r e h = cc
normal_form-each P (t ∷ ts) rest kind r e h = reduced-each P kind (gcd_of_all (values_of (t ∷ ts))) record { terms = t ∷ ts; rest = rest } r e h

module _ (test : Col → Bool) where
  abbrev pub passes : Row → Bool
  passes row = every_column test row.poly

  normal_form-passes : (row r : Row) → normal_form row ≡ Ok (Kept r) → IsTrue (passes row) → IsTrue (passes r)
  normal_form-passes row r e h =
      test_from_columns test r.poly (normal_form-each (λ c. IsTrue (test c)) row.poly.terms row.poly.rest row.kind r e (columns_from_test test row.poly h))

  pub tidied-passes : (rows made : List Row) → (tidied_rows rows).rows ≡ Some made → IsTrue (list_all passes rows) → IsTrue (list_all passes made)
  tidied-passes rows made e h =
      test_from_each passes (λ row. IsTrue (passes row)) (λ row k. k) made
      (tidied-keeps (λ p. IsTrue (every_column test p)) normal_form-passes rows made e (each_from_test passes (λ row. IsTrue (passes row)) (λ row k. k) rows h))

  -- ---- a solution

  without-each : (P : Col → Type 0) (n : ℕ) (ts : Terms) → EachColumn P ts → EachColumn P (filter (λ t. not (has_auxiliary n t.0)) ts)
  without-each P n [] h = tt
  without-each P n (t ∷ ts) h = go (not (has_auxiliary n t.0)) (without-each P n ts h.1)
    where
      go : (b : Bool) → EachColumn P (filter (λ t. not (has_auxiliary n t.0)) ts) → EachColumn P (cond b (t ∷ filter (λ t. not (has_auxiliary n t.0)) ts) (filter (λ t. not (has_auxiliary n t.0)) ts))
      go true later = (h.0, later)
      go false later = later

  pub solution-passes : (p : Polynomial) (n : ℕ) (q : Polynomial) → solution p n ≡ Ok q → IsTrue (every_column test p) → IsTrue (every_column test q)
  solution-passes p n q e h = test_from_columns test q (go (int_eq (coefficient_in p.terms (Aux n ∷ [])) (negsuc 0)) e)
    where
      rest : EachColumn (λ c. IsTrue (test c)) (without n p).terms
      rest = without-each (λ c. IsTrue (test c)) n p.terms (columns_from_test test p h)

      go : (b : Bool) → cond b (Ok (without n p)) (multiple_of (without n p) (negsuc 0)) ≡ Ok q → EachColumn (λ c. IsTrue (test c)) q.terms
      go true f = let same : without n p ≡ q = cc in subst (λ r. EachColumn (λ c. IsTrue (test c)) r.terms) same rest
      go false f = multiple_of-each (λ c. IsTrue (test c)) (without n p) (negsuc 0) q f rest

  pub with_solution-carries : (n : ℕ) (by : Polynomial) (t : Col → Bool) → ((c : Col) → IsTrue (test c) → IsTrue (t c)) → IsTrue (every_column test by) → Carries (with_solution n by) test t
  with_solution-carries n by t more h = record { to = λ p q e k. go (occurs n p) p q e k }
    where
      put : (b : Bool) (m : ℕ) → IsTrue (t (Aux m)) → IsTrue (every_column t (cond b by (column_of (Aux m))))
      put true m k = more_columns test t more by h
      put false m k = test_from_columns t (column_of (Aux m)) ((k, tt), tt)

      covers : (c : Col) → IsTrue (test c) → IsTrue (every_column t (put_for n by c))
      covers (At m) k = test_from_columns t (column_of (At m)) ((more (At m) k, tt), tt)
      covers (Aux m) k = put (m == n) m (more (Aux m) k)

      go : (b : Bool) (p q : Polynomial) → cond b (substituted_polynomial (put_for n by) p) (Ok p) ≡ Ok q → IsTrue (every_column test p) → IsTrue (every_column t q)
      go true p q f k = (substituted-carries (put_for n by) test t covers).to p q f k
      go false p q f k = let same : p ≡ q = cc in subst (λ r. IsTrue (every_column t r)) same (more_columns test t more p k)

-- ---- a round

numbered-more : (end more : ℕ) → end ≤ more → (c : Col) → IsTrue (is_numbered end c) → IsTrue (is_numbered more c)
numbered-more end more le (At n) h = h
numbered-more end more le (Aux n) h = let lt = true-below n end h in below-true n more (omega arith)

pub with_solved-numbered : (p : Polynomial) (n : ℕ) (case : Case) → IsTrue (every_column (is_numbered case.aux) p) → IsTrue (every_column_of (is_numbered case.aux) case)
    → IsTrue (every_column_of (is_numbered (with_solved (solution p n) n case).aux) (with_solved (solution p n) n case))
with_solved-numbered p n case h k = go (solution p n) refl
  where
    columns : IsTrue (list_all (λ row. every_column (is_numbered case.aux) row.poly) case.rows) × IsTrue (list_all (every_column (is_numbered case.aux)) case.post)
    columns = both (list_all (λ row. every_column (is_numbered case.aux) row.poly) case.rows) (list_all (every_column (is_numbered case.aux)) case.post) k

    put : (q : Polynomial) → IsTrue (every_column (is_numbered case.aux) q) → IsTrue (every_column_of (is_numbered (by (with_solution n q) case).aux) (by (with_solution n q) case))
    put q f =
        let end : ℕ = case.aux + count_by (lost (with_solution n q)) case.post in
        let carries = with_solution-carries (is_numbered case.aux) n q (is_numbered end) (numbered-more case.aux end (omega arith)) f in
        both_true (list_all (λ row. every_column (is_numbered end) row.poly) (rows_by (with_solution n q) case.rows)) (list_all (every_column (is_numbered end)) (posts_by (with_solution n q) case.aux case.post))
        (rows_by-covered (with_solution n q) (is_numbered case.aux) (is_numbered end) carries case.rows columns.0)
        (posts_by-covered (with_solution n q) (is_numbered case.aux) (is_numbered end) carries end (λ j lt. below-true j end lt) case.aux case.post (omega arith) columns.1)

    go : (r : Result Polynomial TermError) → solution p n ≡ r → IsTrue (every_column_of (is_numbered (with_solved r n case).aux) (with_solved r n case))
    go (Ok q) e = put q (solution-passes (is_numbered case.aux) p n q e h)
    go (Err x) e = k
