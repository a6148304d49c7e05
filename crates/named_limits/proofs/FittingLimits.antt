-- Settling, thinning, finishing and fitting tell each limit at once.
--     losses-tell_none              losses are no limits
--     tells-if                      one of two computations
--     assent-tells, relations-tell, bounded-tells, with_row-tells      questions, and the rows that come of them
--     settled-tells, finished-tells, fitted-tells      the formulas
use Rattle.std.proofs.Common.{◌≡◌, ℕ, List, [], ◌∷◌, Bool, true, false, refl, arith}
use Rattle.std.specs.Prelude.{ℤ, ◌+◌, ◌-◌, Option, None, Some, Result, Ok, Err, if◌then◌else◌, length, nat_le, slice_get}
use Rattle.linear_terms.specs.declared.error.TermError.{TermError}
use Rattle.linear_terms.specs.declared.row.Case.{Case}
use Rattle.linear_terms.specs.declared.row.Kind.{Kind}
use Rattle.linear_terms.specs.declared.row.Kind.TheVariants.{AtMost, Equal}
use Rattle.linear_terms.specs.declared.row.Row.{Row}
use Rattle.linear_terms.specs.Expressions.{Made, negation}
use Rattle.linear_terms.specs.Polynomial.{Polynomial}
use Rattle.farkas_check.specs.declared.answer.Answer.{Answer}
use Rattle.farkas_check.specs.declared.answer.Answer.TheVariants as answer
use Rattle.farkas_check.specs.declared.answer.Limit.{Limit}
use Rattle.farkas_check.specs.declared.question.Goal.{Goal}
use Rattle.farkas_check.specs.declared.question.Question.{Question}
use Rattle.farkas_check.specs.declared.question.Question.TheVariants.{Sup}
use Rattle.farkas_check.specs.declared.stratum.Change.{Change}
use Rattle.farkas_check.specs.declared.stratum.Relation.{Relation}
use Rattle.transition_formula.specs.declared.loss.Loss.{Loss}
use Rattle.transition_formula.specs.Loss.{losses_of}
use Rattle.transition_formula.specs.Loss as loss
use Rattle.transition_formula.specs.Transition.{Transition, is_fitted}
use Rattle.posing.specs.declared.note.Note.TheVariants as note
use Rattle.posing.specs.Logs.{loss_notes}
use Rattle.posing.specs.Posing.{Posing, Done, Noted, ◌>>=◌, answer_to}
use Rattle.polyhedra.specs.Bounds.{bound_in, bound_by, rows_with_bound, with_row, with_row_for}
use Rattle.polyhedra.specs.Finish.{cut, cut_notes, finish_of_case, finished_left, told_count}
use Rattle.polyhedra.specs.Infeasibility.{assent, is_yes, limits_of}
use Rattle.polyhedra.specs.Relations.{relations_in, relations_of}
use Rattle.polyhedra.specs.Settle.{feasible, feasible_by, feasible_left, settled_formula, settled_case, with_settled}
use Rattle.polyhedra.specs.Squash.{fitted_formula, noted_squash, change_relations, squash_rows, squashed_formula, squashed_case, with_bounds, with_differences, with_relations}
use Rattle.polyhedra.specs.Thin.{thinned_case, thinning_at, thinning_by, thinned_found, thinning_of, thinning_with}
use Rattle.polyhedra.specs.Vocabulary.{Vocabulary}
use Rattle.named_limits.specs.Limits.{count, limit_given, limits_told}
use Rattle.named_limits.proofs.Balance.{TellNone, TellsAll, balances-asked, balances-done, balances-noted, no_limit, same-refl, tells-bind, tells-done, tells-down, tells-each, tells-noted, tells-then}

pub losses-tell_none : (losses : List Loss) → TellNone (loss_notes losses)
losses-tell_none [] = record { none = refl }
losses-tell_none (l ∷ losses) = record { none = (losses-tell_none losses).none }

pub tells-if : {A : Type 0} {p q : Posing A} (b : Bool) → TellsAll p → TellsAll q → TellsAll (if b then p else q)
tells-if true one other = one
tells-if false one other = other

-- ---- questions

limit-noted : (test : Limit → Bool) (a : Answer) → count test (limit_given a) ≡ count test (limits_told (limits_of a)) + count test []
limit-noted test (answer.Yes by) = refl
limit-noted test (answer.No point) = refl
limit-noted test (answer.Bound at certs case point) = refl
limit-noted test (answer.Unbounded case point ray) = refl
limit-noted test (answer.Basis relations spots free) = refl
limit-noted test (answer.Limit limit) = omega arith

-- a question whose answer's limit is noted at once
answered-tells : {A : Type 0} (question : Question) (value : Answer → A) → TellsAll (answer_to question >>= λ a. Noted (limits_of a) (Done (value a)))
unfolding ◌>>=◌
answered-tells question value =
    record {
      balances = balances-asked [] no_limit question _
          (λ a. balances-noted (limit_given a) [] no_limit (limits_of a) (Done (value a)) (λ test. limit-noted test a) (balances-done [] no_limit (value a) (same-refl [])));
    }

pub assent-tells : (question : Question) → TellsAll (assent question)
unfolding assent
assent-tells question = answered-tells question is_yes

pub relations-tell : (cases : List Change) (lower : List Polynomial) → TellsAll (relations_of cases lower)
unfolding relations_of
relations-tell cases lower = answered-tells _ (relations_in cases lower)

bound-tells : (goals : Result (List Goal) TermError) → TellsAll (bound_by goals)
unfolding bound_by
bound-tells (Ok goals) = answered-tells (Sup goals) bound_in
bound-tells (Err e) = tells-noted (losses-tell_none (loss.error_losses e)) (tells-done None)

pub with_row-tells : (rows : List Row) (made : Result Row TermError) → TellsAll (with_row rows made)
unfolding with_row
with_row-tells rows made = tells-noted (losses-tell_none (losses_of made)) (tells-done _)

with_row_for-tells : (rows : List Row) (row : ℤ → Result Row TermError) (most : Option ℤ) → TellsAll (with_row_for rows row most)
with_row_for-tells rows row None = tells-done rows
with_row_for-tells rows row (Some most) = with_row-tells rows (row most)

pub bounded-tells : (cases : List Case) (objective : Case → Made) (row : ℤ → Result Row TermError) (rows : List Row) → TellsAll (rows_with_bound cases objective row rows)
unfolding rows_with_bound
bounded-tells cases objective row rows = tells-bind (bound-tells _) (λ most. with_row_for-tells rows row most)

-- ---- settling

feasible_by-tells : (case : Case) (rows : List Row) → TellsAll (feasible_by case rows)
feasible_by-tells case [] = tells-done (Some case)
feasible_by-tells case (row ∷ rows) = tells-then _ (assent-tells _)

feasible-tells : (case : Case) → TellsAll (feasible case)
unfolding feasible
feasible-tells case = feasible_by-tells case case.rows

feasible_left-tells : (left : Option Case) → TellsAll (feasible_left left)
feasible_left-tells None = tells-done None
feasible_left-tells (Some case) = feasible-tells case

settled_case-tells : (case : Case) → TellsAll (settled_case case)
unfolding settled_case
settled_case-tells case = tells-noted (losses-tell_none _) (feasible_left-tells _)

with_settled-tells : (made : List Case) (case : Case) → TellsAll (with_settled made case)
unfolding with_settled
with_settled-tells made case = tells-then _ (settled_case-tells case)

pub settled-tells : (f : Transition) → TellsAll (settled_formula f)
unfolding settled_formula
settled-tells f = tells-then _ (tells-each with_settled [] f.cases with_settled-tells)

-- ---- thinning and finishing

thinned_with-tells : (row : Row) (place : ℕ) (rows : List Row) → TellsAll (thinning_with row place rows)
unfolding thinning_with
thinned_with-tells row place rows = tells-then _ (assent-tells _)

thinned_by-tells : (made : Result Row TermError) (place : ℕ) (rows : List Row) → TellsAll (thinning_by made place rows)
unfolding thinning_by
thinned_by-tells (Ok row) place rows = thinned_with-tells row place rows
thinned_by-tells (Err e) place rows = tells-noted (losses-tell_none (loss.error_losses e)) (tells-done rows)

thinned_of-tells : (kind : Kind) (poly : Polynomial) (place : ℕ) (rows : List Row) → TellsAll (thinning_of kind poly place rows)
thinned_of-tells AtMost poly place rows = thinned_by-tells (negation poly) place rows
thinned_of-tells Equal poly place rows = tells-done rows

thinned_found-tells : (found : Option Row) (place : ℕ) (rows : List Row) → TellsAll (thinned_found found place rows)
thinned_found-tells None place rows = tells-done rows
thinned_found-tells (Some row) place rows = thinned_of-tells row.kind row.poly place rows

thinned_at-tells : (rows : List Row) (place : ℕ) → TellsAll (thinning_at rows place)
unfolding thinning_at
thinned_at-tells rows place = thinned_found-tells (slice_get rows place) place rows

thinned-tells : (case : Case) → TellsAll (thinned_case case)
unfolding thinned_case
thinned-tells case = tells-then _ (tells-down thinning_at case.rows (length case.rows) thinned_at-tells)

cut-tell_none : (rows : ℕ) → TellNone (cut_notes rows)
cut-tell_none rows = go (nat_le rows 64)
  where
    go : (few : Bool) → TellNone (if few then [] else note.Cut (told_count (rows - 64)) ∷ [])
    go true = record { none = refl }
    go false = record { none = refl }

cut-tells : (case : Case) → TellsAll (cut case)
unfolding cut
cut-tells case = tells-noted (cut-tell_none (length case.rows)) (tells-done _)

finished_left-tells : (left : Option Case) → TellsAll (finished_left left)
finished_left-tells None = tells-done None
finished_left-tells (Some case) = tells-bind (thinned-tells case) (λ left. tells-then _ (cut-tells left))

pub finished-tells : (case : Case) → TellsAll (finish_of_case case)
unfolding finish_of_case
finished-tells case = tells-noted (losses-tell_none _) (finished_left-tells _)

-- ---- fitting

with_relations-tells : (terms lower : List Polynomial) (relations : Option (List Relation)) → TellsAll (with_relations terms lower relations)
with_relations-tells terms lower None = tells-done []
with_relations-tells terms lower (Some relations) = tells-each _ [] relations (λ rows r. with_row-tells rows _)

related-tells : (one : Bool) (f : Transition) → TellsAll (change_relations one f)
unfolding change_relations
related-tells one f = tells-bind (relations-tell _ _) (λ found. with_relations-tells _ _ found)

with_differences-tells : (one : Bool) (f : Transition) (voc : Vocabulary) (rows : List Row) → TellsAll (with_differences one f voc rows)
with_differences-tells true f voc rows = tells-each _ rows _ (λ rows d. bounded-tells _ _ _ rows)
with_differences-tells false f voc rows = tells-done rows

with_bounds-tells : (one : Bool) (f : Transition) (from to : Vocabulary) (rows : List Row) → TellsAll (with_bounds one f from to rows)
unfolding with_bounds
with_bounds-tells one f from to rows =
    tells-bind (tells-each _ rows _ (λ rows d. bounded-tells _ _ _ rows)) (λ before.
    tells-bind (tells-each _ before _ (λ rows d. bounded-tells _ _ _ rows)) (λ both. with_differences-tells one f from both))

squash_rows-tells : (one : Bool) (f : Transition) (from to : Vocabulary) → TellsAll (squash_rows one f from to)
unfolding squash_rows
squash_rows-tells one f from to = tells-bind (related-tells one f) (λ rows. with_bounds-tells one f from to rows)

squashed_case-tells : (one : Bool) (f : Transition) (from to : Vocabulary) → TellsAll (squashed_case one f from to)
unfolding squashed_case
squashed_case-tells one f from to = tells-noted (losses-tell_none _) (tells-then _ (squash_rows-tells one f from to))

squashed-tells : (f : Transition) (from to : Vocabulary) → TellsAll (squashed_formula f from to)
unfolding squashed_formula
squashed-tells f from to = tells-bind (squashed_case-tells _ f from to) (λ case. tells-then _ (finished-tells case))

noted_squash-tells : (f : Transition) (from to : Vocabulary) → TellsAll (noted_squash f from to)
unfolding noted_squash
noted_squash-tells f from to = tells-noted (record { none = refl }) (squashed-tells f from to)

pub fitted-tells : (f : Transition) (from to : Vocabulary) → TellsAll (fitted_formula f from to)
unfolding fitted_formula
fitted-tells f from to = tells-if (is_fitted f.cases) (tells-done f) (noted_squash-tells f from to)
