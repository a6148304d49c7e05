-- The row that holds where a candidate's row does not, in a case of one more unfolding: which
-- columns it has.
use Rattle.std.proofs.Common.{◌≡◌, ℕ, ◌+◌, Bool, true, length, length-append, List, ◌++◌, pos, negsuc, refl, subst, ◌∙◌, arith}
use Rattle.std.specs.Prelude.{All, IsTrue, Result, Ok, Err, option_to_list}
use Rattle.std.specs.List.{list_all}
use Rattle.std.proofs.lemmas.List.FromFn.{length-map-range_with_len}
use Rattle.items.specs.Gives.{◌>>=◌}
use Rattle.linear_terms.specs.declared.col.Col.{Col}
use Rattle.linear_terms.specs.declared.col.Col.TheVariants.{At, Aux}
use Rattle.linear_terms.specs.declared.error.TermError.{TermError}
use Rattle.linear_terms.specs.declared.row.Case.{Case}
use Rattle.linear_terms.specs.declared.row.Kind.TheVariants.{AtMost}
use Rattle.linear_terms.specs.declared.row.Row.{Row}
use Rattle.linear_terms.specs.Expressions.{negation}
use Rattle.linear_terms.specs.Operations.{multiple_of, substituted_polynomial, sum_of_polys}
use Rattle.linear_terms.specs.Polynomial.{Polynomial, column_of, constant_of}
use Rattle.linear_terms.specs.Replacement.{HasPoly, put_in}
use Rattle.linear_terms.proofs.Columns.{multiple_of-each, sum_of_polys-each}
use Rattle.transition_formula.specs.Hiding.{own_auxiliaries}
use Rattle.transition_formula.specs.Loss.{answer_of}
use Rattle.transition_formula.specs.Transition.{every_column, fits, is_below, IsSolvable}
use Rattle.transition_formula.proofs.ColumnTests.{both_true, columns_from_test, every_column-Decides, more_columns, substituted-carries, test_from_columns}
use Rattle.transition_formula.proofs.FittedFormulas.{fits-solvable}
use Rattle.transition_formula.proofs.Fitting.{below-true, fitting, from_fitting, test_of_get, true-below}
use Rattle.leaf_cases.specs.Guard.{columns_of}
use Rattle.newton_rounds.specs.Candidates.{against, contrary}
use Rattle.newton_rounds.specs.Shapes.{IsOverPairs}
use Rattle.newton_rounds.proofs.PostFormulas.{appended, columns-covered, columns-length}

bind-ok : {A B : Type 0} (r : Result A TermError) (f : A → Result B TermError) (b : B) → r >>= f ≡ Ok b → (a : A) × (r ≡ Ok a) × (f a ≡ Ok b)
bind-ok (Ok a) f b e = (a, refl, e)
bind-ok (Err x) f b e = absurd cc

pub one-ok : {A : Type 0} {x y : A} {r : Result A TermError} → r ≡ Ok x → r ≡ Ok y → x ≡ y
one-ok e f = cc

pub negation-covered : (t : Col → Bool) (p : Polynomial) (r : Row) → negation p ≡ Ok r → IsTrue (every_column t p) → IsTrue (every_column t r.poly)
negation-covered t p r e h =
    let made = bind-ok (multiple_of p (negsuc 0) >>= λ n. sum_of_polys n (constant_of (pos 1))) (λ q. Ok record { poly = q; kind = AtMost }) r e in
    let first = bind-ok (multiple_of p (negsuc 0)) (λ n. sum_of_polys n (constant_of (pos 1))) made.0 made.1 in
    subst (λ (row : Row). IsTrue (every_column t row.poly)) (one-ok refl made.2)
    (test_from_columns t made.0
    (sum_of_polys-each (λ c. IsTrue (t c)) first.0 (constant_of (pos 1)) made.0 first.2
    (multiple_of-each (λ c. IsTrue (t c)) p (negsuc 0) first.0 first.1 (columns_from_test t p h)) tt))

module _ (from : ℕ) (case : Case) (row : Row) (over : IsOverPairs from case row) where
  abbrev pairs : List Polynomial
  pairs = columns_of from ++ case.post

  pairs-length : length pairs ≡ from + length case.post
  pairs-length = length-append (columns_of from) case.post ∙ (λ i. columns-length 0 from i + length case.post)

  own-length : length (own_auxiliaries case.aux) ≡ case.aux
  own-length = length-map-range_with_len (λ n. column_of (Aux n)) 0 case.aux

  wider : (c : Col) → IsTrue (is_below (from + length case.post) 0 c) → IsTrue (is_below (length pairs) (length (own_auxiliaries case.aux)) c)
  wider (At n) h = let lt = true-below n (from + length case.post) h in let long = pairs-length in below-true n (length pairs) (omega (arith, lt, long))
  wider (Aux n) h = let lt = true-below n 0 h in absurd (omega (arith, lt))

  -- each column of its negation has something that is put in
  pub opposite-has : (opposite : Row) → negation row.poly ≡ Ok opposite → All (λ t. All (HasPoly pairs (own_auxiliaries case.aux)) t.0) opposite.poly.terms
  opposite-has opposite e =
      (every_column-Decides (length pairs) (length (own_auxiliaries case.aux)) opposite.poly).0
      (more_columns (is_below (from + length case.post) 0) (is_below (length pairs) (length (own_auxiliaries case.aux))) wider opposite.poly
      (negation-covered (is_below (from + length case.post) 0) row.poly opposite e over.row_is))

  put-covered : (c : Col) → IsTrue (is_below (from + length case.post) 0 c) → IsTrue (every_column (is_below from case.aux) (put_in pairs (own_auxiliaries case.aux) c))
  put-covered (At n) h =
      let f = fitting from (length case.post) case over.case_is in
      test_of_get (every_column (is_below from case.aux)) (constant_of (pos 0)) pairs n
      (appended (every_column (is_below from case.aux)) (columns_of from) case.post (columns-covered 0 from from case.aux (omega arith)) f.posts_are)
      (let lt = true-below n (from + length case.post) h in let long = pairs-length in omega (arith, lt, long))
  put-covered (Aux n) h = let lt = true-below n 0 h in absurd (omega (arith, lt))

  contrary-covered : (made : Row) → contrary from case row ≡ Ok made → IsTrue (every_column (is_below from case.aux) made.poly)
  contrary-covered made e =
      let first = bind-ok (negation row.poly) _ made e in
      let second = bind-ok (substituted_polynomial (put_in pairs (own_auxiliaries case.aux)) first.0.poly) (λ p. Ok record { poly = p; kind = AtMost }) made first.2 in
      subst (λ (r : Row). IsTrue (every_column (is_below from case.aux) r.poly)) (one-ok refl second.2)
      ((substituted-carries (put_in pairs (own_auxiliaries case.aux)) (is_below (from + length case.post) 0) (is_below from case.aux) put-covered).to first.0.poly second.0 second.1
      (negation-covered (is_below (from + length case.post) 0) row.poly first.0 first.1 over.row_is))

  pub against-fits : IsTrue (fits from (length case.post) (against from case row))
  against-fits =
      let f = fitting from (length case.post) case over.case_is in
      from_fitting from (length case.post) (against from case row) record {
        length_is = refl;
        rows_are = appended (λ (r : Row). every_column (is_below from case.aux) r.poly) case.rows (option_to_list (answer_of (contrary from case row))) f.rows_are (one (contrary from case row) refl);
        posts_are = f.posts_are;
      }
    where
      one : (r : Result Row TermError) → contrary from case row ≡ r → IsTrue (list_all (λ (r : Row). every_column (is_below from case.aux) r.poly) (option_to_list (answer_of r)))
      one (Ok made) e = both_true (every_column (is_below from case.aux) made.poly) true (contrary-covered made e) refl
      one (Err x) e = refl

  pub against-solvable : IsSolvable (against from case row)
  against-solvable = fits-solvable from (length case.post) (against from case row) against-fits over.few
