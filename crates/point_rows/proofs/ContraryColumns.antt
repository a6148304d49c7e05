-- The contraries of a polynomial have the columns that it has.
use Rattle.std.proofs.Common.{◌≡◌, Bool, pos, negsuc, Ok, subst}
use Rattle.std.specs.Prelude.{IsTrue}
use Rattle.items.specs.Gives.{◌>>=◌}
use Rattle.items.proofs.Gives.{on_ok}
use Rattle.linear_terms.specs.declared.col.Col.{Col}
use Rattle.linear_terms.specs.declared.row.Kind.TheVariants.{AtMost}
use Rattle.linear_terms.specs.declared.row.Row.{Row}
use Rattle.linear_terms.specs.Expressions.{negation}
use Rattle.linear_terms.specs.Operations.{multiple_of, sum_of_polys}
use Rattle.linear_terms.specs.Polynomial.{Polynomial, constant_of}
use Rattle.linear_terms.proofs.Columns.{multiple_of-each, sum_of_polys-each}
use Rattle.transition_formula.specs.Transition.{every_column}
use Rattle.transition_formula.proofs.ColumnTests.{columns_from_test, test_from_columns}

pub sum-covered : (test : Col → Bool) (p q : Polynomial) → sum_of_polys p (constant_of (pos 1)) ≡ Ok q → IsTrue (every_column test p) → IsTrue (every_column test q)
sum-covered test p q e h = test_from_columns test q (sum_of_polys-each (λ c. IsTrue (test c)) p (constant_of (pos 1)) q e (columns_from_test test p h) tt)

pub negation-covered : (test : Col → Bool) (p : Polynomial) (row : Row) → negation p ≡ Ok row → IsTrue (every_column test p) → IsTrue (every_column test row.poly)
negation-covered test p row e h =
    on_ok (multiple_of p (negsuc 0) >>= λ n. sum_of_polys n (constant_of (pos 1))) (λ q. Ok record { poly = q; kind = AtMost }) row e (λ q f g.
    on_ok (multiple_of p (negsuc 0)) (λ n. sum_of_polys n (constant_of (pos 1))) q f (λ n k l.
    let same : record { poly = q; kind = AtMost } ≡ row = cc in
    subst (λ (r : Row). IsTrue (every_column test r.poly)) same
    (sum-covered test n q l (test_from_columns test n (multiple_of-each (λ c. IsTrue (test c)) p (negsuc 0) n k (columns_from_test test p h))))))
