-- Laws of finishing: what is left holds of all that the case holds of, fits where the case fits,
-- and has few rows.
use Rattle.std.proofs.Common.{ℕ, zero, suc, ◌≤◌, List, [], ◌∷◌, Bool, Option, None, Some, length, take, refl, sym, ap, subst, ◌∙◌, arith}
use Rattle.std.specs.Prelude.{IsTrue}
use Rattle.std.specs.List.{list_all}
use Rattle.std.proofs.lemmas.List.{length-take}
use Rattle.linear_terms.specs.declared.row.Row.{Row}
use Rattle.linear_terms.specs.declared.row.Case.{Case}
use Rattle.linear_terms.specs.Auxiliaries.{is_numbered}
use Rattle.linear_terms.specs.Row.{RowsHold, AreCanonical}
use Rattle.linear_terms.specs.Value.{Valuation}
use Rattle.transition_formula.specs.Meaning.{numbers}
use Rattle.transition_formula.specs.Rounds.{in_order, solved_answer, Stays}
use Rattle.transition_formula.specs.Transition.{every_column, every_column_of, is_below, fits}
use Rattle.transition_formula.proofs.ColumnTests.{both, both_true}
use Rattle.transition_formula.proofs.Fitting.{fitting, from_fitting}
use Rattle.transition_formula.proofs.KeptCases.{kept-fits}
use Rattle.transition_formula.proofs.Ordering.{in_order-holds}
use Rattle.posing.specs.Posing.{Done, ◌>>=◌, Always}
use Rattle.posing.proofs.Paths.{always_bind}
use Rattle.polyhedra.specs.Finish.{cut_case, cut, finished_left, finish_of_case}
use Rattle.polyhedra.specs.Laws.{IsWider}
use Rattle.polyhedra.specs.Thin.{thinned_case}
use Rattle.polyhedra.proofs.SettleLaws.{KeepsLeft}
use Rattle.polyhedra.proofs.ThinLaws.{IsThinned, thinned-covers, thinned-tested}

-- ---- what is left holds of all that the case holds of

first_true : (at : Valuation) (n : ℕ) (rows : List Row) → RowsHold at rows → RowsHold at (take n rows)
first_true at zero rows h = tt
first_true at (suc n) [] h = h
first_true at (suc n) (row ∷ rows) h = (h.0, first_true at n rows h.1)

cut-wider : (case : Case) → IsWider case (cut_case case)
cut-wider case before after (aux, h) = (aux, record { rows = first_true (numbers before aux) 64 case.rows h.rows; posts = h.posts })

pub finished-covers : (case : Case) → AreCanonical case.rows → IsTrue (every_column_of (is_numbered case.aux) case) → Always (KeepsLeft case) (finish_of_case case)
unfolding finish_of_case cut ◌>>=◌
finished-covers case canonical numbered = go (in_order case).left (in_order-holds case canonical numbered)
  where
    go : (o : Option Case) → KeepsLeft case o → Always (KeepsLeft case) (finished_left o)
    go None keeps = keeps
    go (Some left) keeps =
        always_bind (IsWider left) (KeepsLeft case) (thinned_case left) (λ thin. cut thin >>= λ kept. Done (Some kept)) (thinned-covers left)
        (λ thin wider before after h. cut-wider thin before after (wider before after (keeps before after h)))

-- ---- what is left fits where the case fits, and has at most 64 rows and no more auxiliaries than
-- it has in order

pub record IsFinished (from to most : ℕ) (case : Case) : Type 0 where
  pub fit : IsTrue (fits from to case)
  pub rows : length case.rows ≤ 64
  pub aux : case.aux ≤ most

abbrev pub FinishedLeft : ℕ → ℕ → ℕ → Option Case → Type 0
FinishedLeft from to most None = Unit {0}
FinishedLeft from to most (Some case) = IsFinished from to most case

first_pass : (test : Row → Bool) (n : ℕ) (rows : List Row) → IsTrue (list_all test rows) → IsTrue (list_all test (take n rows))
first_pass test zero rows h = refl
first_pass test (suc n) [] h = h
first_pass test (suc n) (row ∷ rows) h = let parts = both (test row) (list_all test rows) h in both_true (test row) (list_all test (take n rows)) parts.0 (first_pass test n rows parts.1)

module _ (from to most : ℕ) (left : Case) (fit : IsTrue (fits from to left)) (few : left.aux ≤ most) where
  abbrev test : Row → Bool
  test row = every_column (is_below from left.aux) row.poly

  cut-finished : (thin : Case) → IsThinned test left thin → IsFinished from to most (cut_case thin)
  cut-finished thin is =
      let f = fitting from to left fit in
      record {
        fit = from_fitting from to (cut_case thin) (record {
          length_is = ap length is.post ∙ f.length_is;
          rows_are = subst (λ n. IsTrue (list_all (λ row. every_column (is_below from n) row.poly) (take 64 thin.rows))) (sym is.aux) (first_pass test 64 thin.rows is.rows);
          posts_are = subst (λ n. IsTrue (list_all (every_column (is_below from n)) thin.post)) (sym is.aux) (subst (λ ps. IsTrue (list_all (every_column (is_below from left.aux)) ps)) (sym is.post) f.posts_are);
        });
        rows = few_rows thin.rows;
        aux = subst (λ n. n ≤ most) (sym is.aux) few;
      }
    where
      few_rows : (rows : List Row) → length (take 64 rows) ≤ 64
      few_rows rows = omega (arith, length-take 64 rows)

  pub left-finished : Always (FinishedLeft from to most) (finished_left (Some left))
  unfolding cut ◌>>=◌
  left-finished =
      always_bind (IsThinned test left) (FinishedLeft from to most) (thinned_case left) (λ thin. cut thin >>= λ kept. Done (Some kept))
      (thinned-tested test left (fitting from to left fit).rows_are) (λ thin is. cut-finished thin is)

pub finished-fits : (from to most : ℕ) (case : Case) → IsTrue (fits from to case) → Stays (λ left. left.aux ≤ most) (solved_answer (in_order case).left) → Always (FinishedLeft from to most) (finish_of_case case)
unfolding finish_of_case
finished-fits from to most case fit few = go (in_order case).left (kept-fits from to case (solved_answer (in_order case).left) fit refl) few
  where
    go : (o : Option Case) → Stays (λ c. IsTrue (fits from to c)) (solved_answer o) → Stays (λ c. c.aux ≤ most) (solved_answer o) → Always (FinishedLeft from to most) (finished_left o)
    go None stays few = tt
    go (Some left) stays few = left-finished from to most left stays few
