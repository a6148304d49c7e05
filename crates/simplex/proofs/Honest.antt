-- The answer before its test, read off from what the search found.
use Rattle.std.proofs.Common.{arith, ◌≡◌, ◌+◌, ◌∙◌, ℕ, List, [], length, Bool, Result, Ok, Err, ap, subst}
use Rattle.std.specs.Prelude.{IfOk, IfErr, ◌≤◌, ◌-◌, ◌^◌, ◌<◌}
use Rattle.linear_terms.specs.declared.row.Kind.{Kind}
use Rattle.linear_terms.specs.declared.row.Row.{Row}
use Rattle.linear_terms.specs.declared.col.Col.{Col}
use Rattle.farkas_check.specs.Columns.{columns}
use Rattle.linear_terms.specs.Row.{AreCanonical}
use Rattle.farkas_check.specs.declared.answer.Answer.{Answer}
use Rattle.farkas_check.specs.declared.answer.Answer.TheVariants as answer
use Rattle.farkas_check.specs.declared.answer.Limit.TheVariants as limit
use Rattle.whole_numbers.specs.declared.wide.Wide as Step
use Rattle.farkas_check.specs.Calm.{IsCalm, IsLiveAndCalm}
use Rattle.farkas_check.specs.Meaning.{IsLimit}
use Rattle.farkas_check.specs.Frames.{choose, choice_count}
use Rattle.farkas_check.specs.Kept.{HasPositive}
use Rattle.farkas_check.specs.Tested.{outcome, Passes}
use Rattle.farkas_check.specs.declared.question.Question.TheVariants.{Infeasible}
use Rattle.farkas_check.proofs.Farkas.{bool_ok}
use Rattle.simplex.specs.Answers.{AnswerOf, IsHonestOf, IsFoundFor, IsRefusalFor, IsRowsStep, rows_search, rows_test, IsRowsAnswer, PivotsOf, IsWide}
use Rattle.simplex.specs.Refusal.{LeavesBits, IsRefusalIn}
use Rattle.simplex.specs.declared.stop.SearchStop.TheVariants as stop
use Rattle.simplex.proofs.RowTableaux.{kinds-length}
use Rattle.simplex.proofs.Calmness.{small_frame}
use Rattle.simplex.proofs.Tame.{fits_twice, calm_found, more_choices}
use Rattle.simplex.proofs.Stops.{names_none}
use Rattle.simplex.proofs.Leaves.{outcome-leaves, limit_of}
use Rattle.simplex.specs.Exchange.{numbers_of}
use Rattle.simplex.specs.Rows.{kinds_of, framed_tableau, frame_of_rows}
use Rattle.simplex.specs.declared.stop.SearchStop.{SearchStop}
use Rattle.simplex.specs.declared.tableau.Tableau.{Tableau}
use Rattle.simplex.proofs.Certificates.{yes-honest}
use Rattle.simplex.proofs.RowCorners.{no-honest}

honest : (rows : List Row) (budget : ℕ) (a : Answer) → AreCanonical rows → AnswerOf (frame_of_rows (columns rows []) rows) (length (columns rows [])) (kinds_of rows) budget a → IsHonestOf rows a
honest rows budget (answer.Yes by) k h b e = yes-honest rows h.0 h.1.0 by b h.1.1.0 h.1.1.1 e
honest rows budget (answer.No point) k h b e = no-honest rows h.0 h.1.0 point b k h.1.1.0 h.1.1.1 e
honest rows budget (answer.Bound at certs case point) k h b e = absurd h
honest rows budget (answer.Unbounded case point ray) k h b e = absurd h
honest rows budget (answer.Basis relations spots free) k h b e = absurd h
honest rows budget (answer.Limit limit.Pivots) k h b e = cc
honest rows budget (answer.Limit (limit.Wide left right times)) k h b e = absurd (not_pivots h.0)
  where
    not_pivots : limit.Wide left right times ≡ limit.Pivots → ⊥
    not_pivots f = cc

-- what a search says of its frame, said of the rows
pub found_at : (rows : List Row) (budget constants count : ℕ) (cs : List (List Col)) (kinds : List Kind) (t : Tableau) (r : Result Answer SearchStop) → cs ≡ columns rows [] → constants ≡ length cs → count ≡ length rows → kinds ≡ kinds_of rows → t ≡ framed_tableau cs rows
    → IfOk r (λ a. AnswerOf (record { units = constants + 1; rows = count; frame = numbers_of t }) constants kinds budget a) → IfOk r (λ a. IsFoundFor budget rows a)
found_at rows budget constants count cs kinds t (Err s) e f d g u h = tt
found_at rows budget constants count cs kinds t (Ok a) e f d g u h =
    subst (λ (ds : List (List Col)). AnswerOf (frame_of_rows ds rows) (length ds) (kinds_of rows) budget a) e
    (subst (λ (ks : List Kind). AnswerOf (frame_of_rows cs rows) (length cs) ks budget a) g
    (subst (λ (v : Tableau). AnswerOf (record { units = length cs + 1; rows = length rows; frame = numbers_of v }) (length cs) kinds budget a) u
    (subst (λ (n : ℕ). AnswerOf (record { units = length cs + 1; rows = n; frame = numbers_of t }) (length cs) kinds budget a) d
    (subst (λ (n : ℕ). AnswerOf (record { units = n + 1; rows = count; frame = numbers_of t }) n kinds budget a) f h))))

pub refusal_at : (rows : List Row) (constants count : ℕ) (cs : List (List Col)) (kinds : List Kind) (t : Tableau) (r : Result Answer SearchStop) → cs ≡ columns rows [] → constants ≡ length cs → count ≡ length rows → kinds ≡ kinds_of rows → t ≡ framed_tableau cs rows
    → IfErr r (IsRefusalIn (record { units = constants + 1; rows = count; frame = numbers_of t }) (length kinds)) → IfErr r (λ s. IsRefusalFor rows s)
refusal_at rows constants count cs kinds t (Ok a) e f d g u h = tt
refusal_at rows constants count cs kinds t (Err s) e f d g u h =
    subst (λ (n : ℕ). IsRefusalIn (frame_of_rows (columns rows []) rows) n s) (kinds-length rows)
    (subst (λ (ds : List (List Col)). IsRefusalIn (frame_of_rows ds rows) (length (kinds_of rows)) s) e
    (subst (λ (ks : List Kind). IsRefusalIn (frame_of_rows cs rows) (length ks) s) g
    (subst (λ (v : Tableau). IsRefusalIn (record { units = length cs + 1; rows = length rows; frame = numbers_of v }) (length kinds) s) u
    (subst (λ (n : ℕ). IsRefusalIn (record { units = length cs + 1; rows = n; frame = numbers_of t }) (length kinds) s) d
    (subst (λ (n : ℕ). IsRefusalIn (record { units = n + 1; rows = count; frame = numbers_of t }) (length kinds) s) f h)))))

-- ---- answers

limit_passes : (rows : List Row) (step : Step.Wide) → AreCanonical rows → LeavesBits step → Passes (Infeasible rows) (answer.Limit (limit.Wide step.left step.right step.times))
limit_passes rows step k leaves = record { canonical = k; positive = tt; passed = ap (λ (b : Bool). bool_ok b) (limit_of step leaves) }

no_pivots : (rows : List Row) (step : Step.Wide) → PivotsOf (2 ^ 127 - 1) rows (answer.Limit (limit.Wide step.left step.right step.times))
no_pivots rows step e = cc

pub overrun_answer : (rows : List Row) (step : Step.Wide) → AreCanonical rows → IsRefusalFor rows (stop.Wide step) → IsRowsAnswer rows (answer.Limit (limit.Wide step.left step.right step.times))
overrun_answer rows step k h = record { passes = limit_passes rows step k h.leaves; pivots = no_pivots rows step; wide = λ c is. wild c; calm = λ live is. wild live.calm; step = rows_search h.is }
  where
    wild : IsCalm (Infeasible rows) → ⊥
    wild c = h.great 1099511627776 fits_twice (small_frame 1099511627776 (columns rows []) rows c.cases.calm)

pub step_answer : (rows : List Row) (a : Answer) (step : Step.Wide) → AreCanonical rows → IsFoundFor (2 ^ 127 - 1) rows a → outcome (Infeasible rows) a ≡ Err step → IsRowsAnswer rows (answer.Limit (limit.Wide step.left step.right step.times))
step_answer rows a step k h e = record { passes = limit_passes rows step k (outcome-leaves rows a step e); pivots = no_pivots rows step; wide = λ c is. calm_found rows (2 ^ 127 - 1) a step k c.cases h e; calm = λ live is. calm_found rows (2 ^ 127 - 1) a step k live.calm.cases h e; step = rows_test a h e }

pub found_answer : (rows : List Row) (a : Answer) (b : Bool) → AreCanonical rows → HasPositive a → IsFoundFor (2 ^ 127 - 1) rows a → outcome (Infeasible rows) a ≡ Ok b → IsRowsAnswer rows a
found_answer rows a b k p h e = record {
  passes = record { canonical = k; positive = p; passed = e ∙ ap (λ (x : Bool). bool_ok x) (honest rows (2 ^ 127 - 1) a k h b e) };
  pivots = pivots_of rows a h;
  wide = λ c is. not_wide rows a h is;
  calm = calm_of rows a h;
  step = names_none (IsRowsStep rows) a (λ is. not_wide rows a h is);
}
  where
    pivots_of : (rows : List Row) (a : Answer) → IsFoundFor (2 ^ 127 - 1) rows a → PivotsOf (2 ^ 127 - 1) rows a
    pivots_of rows (answer.Yes by) h e = cc
    pivots_of rows (answer.No point) h e = cc
    pivots_of rows (answer.Bound at certs case point) h e = absurd h
    pivots_of rows (answer.Unbounded case point ray) h e = absurd h
    pivots_of rows (answer.Basis relations spots free) h e = absurd h
    pivots_of rows (answer.Limit l) h e = subst (λ (n : ℕ). (2 ^ 127 - 1) < choose (length (columns rows []) + 1 + n) n) (kinds-length rows) h.1

    not_wide : (rows : List Row) (a : Answer) → IsFoundFor (2 ^ 127 - 1) rows a → IsWide a → ⊥
    not_wide rows (answer.Yes by) h is = is
    not_wide rows (answer.No point) h is = is
    not_wide rows (answer.Bound at certs case point) h is = is
    not_wide rows (answer.Unbounded case point ray) h is = is
    not_wide rows (answer.Basis relations spots free) h is = is
    not_wide rows (answer.Limit limit.Pivots) h is = is
    not_wide rows (answer.Limit (limit.Wide left right times)) h is = other h.0
      where
        other : limit.Wide left right times ≡ limit.Pivots → ⊥
        other f = cc

    calm_of : (rows : List Row) (a : Answer) → IsFoundFor (2 ^ 127 - 1) rows a → IsLiveAndCalm (Infeasible rows) → IsLimit a → ⊥
    calm_of rows (answer.Yes by) h live is = is
    calm_of rows (answer.No point) h live is = is
    calm_of rows (answer.Bound at certs case point) h live is = h
    calm_of rows (answer.Unbounded case point ray) h live is = h
    calm_of rows (answer.Basis relations spots free) h live is = h
    calm_of rows (answer.Limit l) h live is =
        let great : (2 ^ 127 - 1) < choose (length (columns rows []) + 1 + length rows) (length rows) = subst (λ (n : ℕ). (2 ^ 127 - 1) < choose (length (columns rows []) + 1 + n) n) (kinds-length rows) h.1 in
        let more : choose (length (columns rows []) + 1 + length rows) (length rows) ≤ choice_count (length (columns rows [])) (length rows + 1) = more_choices (length (columns rows [])) (length rows) in
        let few : choice_count (length (columns rows [])) (length rows + 1) ≤ 170141183460469231731687303715884105727 = live.few.0 in omega (arith, great, more, few)
