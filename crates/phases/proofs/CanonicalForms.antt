-- Two ways to say that a formula's rows are in canonical form, and sequences of such.
use Rattle.std.proofs.Common.{◌≡◌, List, [], ◌∷◌, map, Result, Ok, Err, refl}
use Rattle.std.specs.List.{AllByRecursion, cons_option}
use Rattle.std.proofs.lemmas.List.Elements.{All-from_recursion, recursion_from_All}
use Rattle.items.proofs.Each.{each-any, each-append, each-flat_map, each-map, each-more}
use Rattle.linear_terms.specs.declared.error.TermError.{TermError}
use Rattle.linear_terms.specs.declared.row.Row.{Row}
use Rattle.linear_terms.specs.declared.row.Case.{Case}
use Rattle.linear_terms.specs.Polynomial.{Polynomial}
use Rattle.linear_terms.proofs.Canonical.{IsCanonical-substituted}
use Rattle.transition_formula.specs.Composition.{after_case, row_of, rows_by, sequence_of, sequence_of_cases}
use Rattle.transition_formula.specs.Transition.{Transition}
use Rattle.polyhedra.specs.Laws.{HaveCanonicalRows}
use Rattle.recurrence.proofs.CanonicalOrder.{IsCanonicalCase, IsCanonicalFormula, IsCanonicalRow}

pub rows-canonical : (f : Transition) → IsCanonicalFormula f → HaveCanonicalRows f.cases
rows-canonical f h =
    All-from_recursion (λ (case : Case). _) f.cases (each-more IsCanonicalCase (λ (case : Case). _) (λ case k. All-from_recursion IsCanonicalRow case.rows k) f.cases h)

pub formula-canonical : (f : Transition) → HaveCanonicalRows f.cases → IsCanonicalFormula f
formula-canonical f h = each-more _ IsCanonicalCase (λ (case : Case) k. recursion_from_All IsCanonicalRow case.rows k) f.cases (recursion_from_All _ f.cases h)

-- ---- rows of sequences

after-canonical : (x y : Case) (rows : List Row) → AllByRecursion IsCanonicalRow (rows_by (after_case x y) rows)
after-canonical x y [] = tt
after-canonical x y (row ∷ rows) = by_answer (after_case x y row.poly) refl (after-canonical x y rows)
  where
    by_answer : (r : Result Polynomial TermError) → after_case x y row.poly ≡ r → AllByRecursion IsCanonicalRow (rows_by (after_case x y) rows)
        → AllByRecursion IsCanonicalRow (cons_option (row_of row.kind r) (rows_by (after_case x y) rows))
    by_answer (Ok p) e h = (IsCanonical-substituted _ row.poly p e, h)
    by_answer (Err e) f h = h

pair-canonical : (x y : Case) → IsCanonicalCase x → IsCanonicalCase (sequence_of_cases x y)
pair-canonical x y h = each-append IsCanonicalRow x.rows (rows_by (after_case x y) y.rows) h (after-canonical x y y.rows)

pub sequence-canonical : (a b : Transition) → IsCanonicalFormula a → IsCanonicalFormula (sequence_of a b)
sequence-canonical a b h =
    each-flat_map IsCanonicalCase IsCanonicalCase (λ x. map (sequence_of_cases x) b.cases)
    (λ x k. each-map (λ y. Unit {0}) IsCanonicalCase (sequence_of_cases x) (λ y any. pair-canonical x y k) b.cases (each-any (λ y. Unit {0}) (λ y. tt) b.cases)) a.cases h
