-- The rows of a candidate are inequalities over the columns of its pairs.
use Rattle.std.proofs.Common.{◌≡◌, ℕ, ◌<◌, ℤ, Bool, List, [], ◌∷◌, map, Ok, sym, ap}
use Rattle.std.specs.Prelude.{IsTrue}
use Rattle.std.specs.List.{AllByRecursion, range_with_len}
use Rattle.items.proofs.Gives.{on_ok}
use Rattle.items.proofs.Each.{each-any, each-map}
use Rattle.linear_terms.specs.declared.col.Col.{Col}
use Rattle.linear_terms.specs.declared.col.Col.TheVariants.{At}
use Rattle.linear_terms.specs.declared.row.Kind.TheVariants.{AtMost}
use Rattle.linear_terms.specs.declared.row.Row.{Row}
use Rattle.linear_terms.specs.declared.row.Case.{Case}
use Rattle.linear_terms.specs.Expressions.{Made, ◌⊟◌, at_most, whole}
use Rattle.linear_terms.specs.Polynomial.{Polynomial, column_of}
use Rattle.linear_terms.proofs.Canonical.{IsCanonical-column}
use Rattle.transition_formula.specs.Transition.{Transition, every_column, is_below}
use Rattle.transition_formula.proofs.Fitting.{below-true}
use Rattle.posing.specs.Posing.{each, Always}
use Rattle.polyhedra.specs.Bounds.{after_row, rows_with_exit_bound, put_in_for}
use Rattle.polyhedra.specs.Directions.{directions}
use Rattle.polyhedra.proofs.Places.{range-first}
use Rattle.polyhedra.proofs.Rows.{IsSound, at_most-sound, difference-sound, put_in_for-sound, whole-sound}
use Rattle.polyhedra.proofs.RowShapes.{HasIfMade, bounded-keeps, each-keeps}
use Rattle.leaf_cases.specs.Guard.{columns_of}
use Rattle.newton_rounds.specs.Candidates.{candidate_by, candidate_of, paired_case}
use Rattle.newton_rounds.specs.Pairs.{PairEnds}

-- an inequality over the first so many entry columns
pub record IsPairRow (columns : ℕ) (row : Row) : Type 0 where
  pub kind : row.kind ≡ AtMost
  pub below : IsTrue (every_column (is_below columns 0) row.poly)

abbrev pub ArePairRows : ℕ → List Row → Type 0
ArePairRows columns rows = AllByRecursion (IsPairRow columns) rows

at_most-kind : (a : Made) (r : Row) → at_most a ≡ Ok r → r.kind ≡ AtMost
at_most-kind a r e = on_ok a (λ q. Ok record { poly = q; kind = AtMost }) r e (λ q f g. let same : record { poly = q; kind = AtMost } ≡ r = cc in ap (λ (x : Row). x.kind) (sym same))

module _ (columns : ℕ) where
  abbrev test : Col → Bool
  test = is_below columns 0

  columns-sound : AllByRecursion (IsSound test) (columns_of columns)
  columns-sound =
      each-map (λ n. n < columns) (IsSound test) (λ n. column_of (At n)) (λ n lt. record { canonical = IsCanonical-column (At n ∷ []); passes = ((below-true n columns lt, tt), tt) })
      (range_with_len 0 columns) (range-first columns)

  bound-row : (d : Polynomial) (most : ℤ) → HasIfMade (IsPairRow columns) (after_row (columns_of columns) d most)
  bound-row d most row e = record {
    kind = at_most-kind (put_in_for (columns_of columns) d ⊟ whole most) row e;
    below =
        (at_most-sound test (put_in_for (columns_of columns) d ⊟ whole most)
        (difference-sound test (put_in_for (columns_of columns) d) (whole most) (put_in_for-sound test (columns_of columns) d columns-sound) (whole-sound test most)) row e).passes;
  }

  bounds-rows : (cases : List Case) (ds : List Polynomial) → Always (ArePairRows columns) (each (rows_with_exit_bound cases (columns_of columns)) [] ds)
  bounds-rows cases ds =
      each-keeps (IsPairRow columns) (λ (d : Polynomial). Unit {0}) (rows_with_exit_bound cases (columns_of columns)) [] ds
      (λ made d k fine. bounded-keeps (IsPairRow columns) cases (λ case. put_in_for case.post d) (after_row (columns_of columns) d) made (bound-row d) fine)
      (each-any (λ d. Unit {0}) (λ d. tt) ds) tt

pub candidate-rows : (member : PairEnds) (f : Transition) → Always (ArePairRows member.pair.columns) (candidate_of member f)
unfolding candidate_of
candidate-rows member f = go f.cases
  where
    go : (cases : List Case) → Always (ArePairRows member.pair.columns) (candidate_by member f.from cases)
    go [] = tt
    go (case ∷ cases) = bounds-rows member.pair.columns (map (paired_case f.from) (case ∷ cases)) (directions member.pair)
