-- Finishing loses nothing where nothing is noted: a row that thinning leaves out follows from those
-- that stay, no row is cut off, and a case in order holds of no more than it held of.
use Rattle.std.proofs.Common.{◌≡◌, ℕ, zero, suc, List, [], ◌∷◌, ◌++◌, Bool, true, false, Option, None, Some, Result, Ok, Err, length, take, refl, sym, subst, arith, ℤ, pos, ◌≤ℤ◌, ◌<ℤ◌}
use Rattle.std.specs.Prelude.{slice_get, IsTrue, nat_le, if◌then◌else◌, ◌-◌}
use Rattle.std.specs.List.{remove}
use Rattle.std.proofs.lemmas.Int.{ints, by_lt_z}
use Rattle.std.proofs.lemmas.List.{take_all}
use Rattle.items.proofs.Each.{each-append}
use Rattle.linear_terms.specs.Auxiliaries.{is_numbered}
use Rattle.linear_terms.specs.Expressions.{negation}
use Rattle.linear_terms.specs.Polynomial.{Polynomial}
use Rattle.linear_terms.specs.Row.{IsWithin, RowHolds, RowsHold, AreCanonical}
use Rattle.linear_terms.specs.Value.{Valuation, value_of}
use Rattle.linear_terms.specs.declared.error.TermError.{TermError}
use Rattle.linear_terms.specs.declared.row.Kind.{Kind}
use Rattle.linear_terms.specs.declared.row.Kind.TheVariants.{AtMost, Equal}
use Rattle.linear_terms.specs.declared.row.Row.{Row}
use Rattle.linear_terms.specs.declared.row.Case.{Case}
use Rattle.linear_terms.proofs.Worth.{RowHolds-negation}
use Rattle.farkas_check.specs.declared.answer.Answer.{Answer}
use Rattle.farkas_check.specs.declared.answer.Answer.TheVariants as answer
use Rattle.farkas_check.specs.declared.question.Question.TheVariants.{Infeasible}
use Rattle.transition_formula.specs.declared.loss.Loss.{Loss}
use Rattle.transition_formula.specs.Meaning.{numbers, HoldsCase, HoldsLeft}
use Rattle.transition_formula.specs.Rounds.{in_order}
use Rattle.transition_formula.specs.Transition.{every_column_of}
use Rattle.transition_formula.proofs.Ordering.{in_order-held}
use Rattle.posing.specs.declared.note.Note.TheVariants.{Cut}
use Rattle.posing.specs.Logs.{loss_notes}
use Rattle.posing.specs.Posing.{Done, ◌>>=◌, IsPassing}
use Rattle.polyhedra.specs.Finish.{told_count, cut_notes, cut_case, cut, finished_left, finish_of_case}
use Rattle.polyhedra.specs.Infeasibility.{is_yes, assent}
use Rattle.polyhedra.specs.Laws.{IsWider}
use Rattle.polyhedra.specs.Thin.{without_if, thinning_with, thinning_by, thinning_of, thinned_found, thinning_at, thinned_rows, thinned_case}
use Rattle.star_completeness.specs.Laws.{FinishingLosesNothing}
use Rattle.star_completeness.proofs.Quiet.{AlwaysQuiet, quiet-weaker, quiet-bind, quiet-down, quiet-path}

-- ---- thinning

-- what makes the second rows true makes the first true
abbrev Implied : List Row → List Row → Type 0
Implied rows made = (at : Valuation) → RowsHold at made → RowsHold at rows

-- a row that is true is put back among those that stay
row-restored : (at : Valuation) (rows : List Row) (place : ℕ) (row : Row) → slice_get rows place ≡ Some row → RowHolds at row → RowsHold at (remove rows place) → RowsHold at rows
row-restored at [] place row is h k = cc
row-restored at (r ∷ rows) zero row is h k = let same : r ≡ row = cc in (subst (RowHolds at) (sym same) h, k)
row-restored at (r ∷ rows) (suc place) row is h k = (k.0, row-restored at rows place row is h k.1)

-- an inequality whose negation the others exclude is true where they are
excluded-true : (at : Valuation) (p : Polynomial) (n : Row) (others : List Row) → negation p ≡ Ok n → (RowsHold at (others ++ n ∷ []) → ⊥) → RowsHold at others → value_of at p ≤ℤ pos 0
excluded-true at p n others e never h =
    by_lt_z (pos 0) (value_of at p)
    (λ above. absurd (never (each-append (RowHolds at) others (n ∷ []) h ((RowHolds-negation at p n e).1 (λ below. apart (value_of at p) above below), tt))))
    (λ below. below)
  where
    apart : (x : ℤ) → pos 0 <ℤ x → x ≤ℤ pos 0 → ⊥
    apart x above below = omega (arith, ints)

module _ (rows : List Row) (place : ℕ) (row : Row) (is : slice_get rows place ≡ Some row) where
  thinning_with-implied : row.kind ≡ AtMost → (n : Row) → negation row.poly ≡ Ok n → AlwaysQuiet (Implied rows) (thinning_with n place rows)
  unfolding thinning_with assent ◌>>=◌
  thinning_with-implied kind n e = λ a good none. told a good
    where
      dropped : ((at : Valuation) → RowsHold at (remove rows place ++ n ∷ []) → ⊥) → Implied rows (remove rows place)
      dropped never at h = row-restored at rows place row is (subst (λ k. IsWithin k (value_of at row.poly)) (sym kind) (excluded-true at row.poly n (remove rows place) e (never at) h)) h

      told : (a : Answer) → IsPassing (Infeasible (remove rows place ++ n ∷ [])) a → Implied rows (without_if (is_yes a) place rows)
      told (answer.Yes by) good = dropped good.is_true
      told (answer.No point) good = λ at h. h
      told (answer.Bound most certs case point) good = λ at h. h
      told (answer.Unbounded case point ray) good = λ at h. h
      told (answer.Basis relations spots free) good = λ at h. h
      told (answer.Limit limit) good = λ at h. h

  thinning_by-implied : row.kind ≡ AtMost → (made : Result Row TermError) → negation row.poly ≡ made → AlwaysQuiet (Implied rows) (thinning_by made place rows)
  unfolding thinning_by
  thinning_by-implied kind (Ok n) e = thinning_with-implied kind n e
  thinning_by-implied kind (Err fault) e = λ none at h. h

  thinning_of-implied : (kind : Kind) → row.kind ≡ kind → AlwaysQuiet (Implied rows) (thinning_of kind row.poly place rows)
  thinning_of-implied AtMost e = thinning_by-implied e (negation row.poly) refl
  thinning_of-implied Equal e = λ at h. h

thinning_at-implied : (rows : List Row) (place : ℕ) → AlwaysQuiet (Implied rows) (thinning_at rows place)
unfolding thinning_at
thinning_at-implied rows place = go (slice_get rows place) refl
  where
    go : (o : Option Row) → slice_get rows place ≡ o → AlwaysQuiet (Implied rows) (thinned_found o place rows)
    go None e = λ at h. h
    go (Some row) e = thinning_of-implied rows place row e row.kind refl

-- the first case holds of all that the second holds of
thinned-wider : (case : Case) → AlwaysQuiet (λ made. IsWider made case) (thinned_case case)
unfolding thinned_case
thinned-wider case =
    quiet-bind (Implied case.rows) (λ made. IsWider made case) (thinned_rows case.rows) (λ rows. Done record { aux = case.aux; rows = rows; post = case.post })
    (quiet-down (Implied case.rows) thinning_at
    (λ made place implied. quiet-weaker (Implied made) (Implied case.rows) (thinning_at made place) (λ next further at h. implied at (further at h)) (thinning_at-implied made place))
    (length case.rows) case.rows (λ at h. h))
    (λ rows implied before after (aux, h). (aux, record { rows = implied (numbers before aux) h.rows; posts = h.posts }))

-- ---- cutting

-- where no cut is noted all rows are kept
uncut-kept : (rows : List Row) → cut_notes (length rows) ≡ [] → take 64 rows ≡ rows
uncut-kept rows none = go (nat_le (length rows) 64) refl none
  where
    go : (b : Bool) → nat_le (length rows) 64 ≡ b → (if b then [] else Cut (told_count (length rows - 64)) ∷ []) ≡ [] → take 64 rows ≡ rows
    go true e f = take_all 64 rows (grind arith)
    go false e f = cc

cut-wider : (case : Case) → cut_notes (length case.rows) ≡ [] → IsWider (cut_case case) case
cut-wider case none before after (aux, h) = (aux, record { rows = subst (RowsHold (numbers before aux)) (uncut-kept case.rows none) h.rows; posts = h.posts })

-- ---- finishing

-- what is left holds of nothing that the case does not hold of
abbrev pub IsHeld : Case → Option Case → Type 0
IsHeld case left = (before after : List ℤ) → HoldsLeft left before after → HoldsCase case before after

losses-none : (losses : List Loss) → loss_notes losses ≡ [] → losses ≡ []
losses-none [] none = refl
losses-none (loss ∷ losses) none = cc

pub finished-held : (case : Case) → AreCanonical case.rows → IsTrue (every_column_of (is_numbered case.aux) case) → AlwaysQuiet (IsHeld case) (finish_of_case case)
unfolding finish_of_case cut ◌>>=◌
finished-held case canonical numbered = λ none. go (in_order case).left (in_order-held case canonical numbered (losses-none (in_order case).losses none))
  where
    go : (o : Option Case) → IsHeld case o → AlwaysQuiet (IsHeld case) (finished_left o)
    go None held = held
    go (Some left) held =
        quiet-bind (λ made. IsWider made left) (IsHeld case) (thinned_case left) (λ thin. cut thin >>= λ kept. Done (Some kept)) (thinned-wider left)
        (λ thin wider few before after h. held before after (wider before after (cut-wider thin few before after h)))

pub finishing-loses-nothing : FinishingLosesNothing
finishing-loses-nothing case canonical numbered left answers kept =
    quiet-path (IsHeld case) (finish_of_case case) (Done left) [] answers kept.path refl (finished-held case canonical numbered)
