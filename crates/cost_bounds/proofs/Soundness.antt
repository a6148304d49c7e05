-- What a cost says of its case, as long as each answer is good for its question.
use Rattle.std.proofs.Common.{◌≡◌, ℕ, zero, suc, ◌<◌, Bool, true, false, ℤ, pos, ◌-ℤ◌, ◌*ℤ◌, ◌≤ℤ◌, List, [], ◌∷◌, length, map, Option, Some, None, Result, Ok, Err, refl, sym, ap, subst, ◌∙◌, arith}
use Rattle.std.specs.Prelude.{slice_get, unwrap_or, if◌then◌else◌}
use Rattle.std.specs.List.{AllByRecursion, remove}
use Rattle.std.proofs.lemmas.List.Elements.{recursion_from_All}
use Rattle.whole_numbers.specs.Divisors.{gcd_of_all}
use Rattle.linear_terms.specs.declared.col.Col.TheVariants.{At}
use Rattle.linear_terms.specs.declared.error.TermError.{TermError}
use Rattle.linear_terms.specs.declared.row.Case.{Case}
use Rattle.linear_terms.specs.declared.row.Kind.{Kind}
use Rattle.linear_terms.specs.declared.row.Kind.TheVariants.{AtMost, Equal}
use Rattle.linear_terms.specs.declared.row.Row.{Row}
use Rattle.linear_terms.specs.Expressions.{Made, negation}
use Rattle.linear_terms.specs.Polynomial.{Polynomial, IsCanonical, column_of, without_constant}
use Rattle.linear_terms.specs.Row.{RowsHold}
use Rattle.linear_terms.specs.Value.{Valuation, value_of}
use Rattle.linear_terms.proofs.Values.{difference_of_polys-value}
use Rattle.linear_terms.proofs.Worth.{column_of-value}
use Rattle.farkas_check.specs.declared.answer.Answer.{Answer}
use Rattle.farkas_check.specs.declared.answer.Answer.TheVariants as answer
use Rattle.farkas_check.specs.declared.answer.Limit.{Limit}
use Rattle.farkas_check.specs.declared.question.Question.{Question}
use Rattle.farkas_check.specs.declared.question.Question.TheVariants.{Infeasible}
use Rattle.farkas_check.specs.Tested.{Passes}
use Rattle.farkas_check.proofs.Farkas.{CanonicalRows}
use Rattle.farkas_check.proofs.Tight.{passing}
use Rattle.transition_formula.specs.Meaning.{numbers, HoldsAt, HoldsCase}
use Rattle.posing.specs.Follows.{IsGood}
use Rattle.posing.specs.Posing.{Done, ◌>>=◌, AlwaysUnder}
use Rattle.posing.proofs.UnderAnswers.{under-bind, under-down}
use Rattle.cost_bounds.specs.declared.cost.Cost.{Cost}
use Rattle.cost_bounds.specs.declared.cost.Cost.TheVariants as cost
use Rattle.cost_bounds.specs.declared.kept.Kept.{Kept}
use Rattle.cost_bounds.specs.Changes.{post_at, change_of, is_over_entry}
use Rattle.cost_bounds.specs.Questions.{cost_rows, entry_rows, first_question}
use Rattle.cost_bounds.specs.Small.{yes_of, kept_part, fewer_rows, yes_to, trial, is_of, row_trial, without_row, without_rows, entry_trial, without_entry, without_entries, least_kept}
use Rattle.farkas_check.specs.Multiples.{lowest_multipliers}
use Rattle.cost_bounds.specs.Costs.{scale_in, bound_of, limit_of, bound_by, kept_bound, by_answer, cost_asked, cost_by_last, cost_of_change, cost_by, case_cost}
use Rattle.cost_bounds.specs.Says.{change_between, entry_value, IsMetByCase, IsAsked, IsLimited, unanswered, change_wide, question_wide, bound_wide, Says}
use Rattle.cost_bounds.proofs.Lists.{each-remove}
use Rattle.cost_bounds.proofs.Bounds.{bound-met, scale-positive}
use Rattle.cost_bounds.proofs.OverEntry.{IsOverEntry-test, IsEntryRow, entry_rows-are, flat_rows, bound-over, entry-value}
use Rattle.cost_bounds.proofs.RayGrowth.{grows}
use Rattle.farkas_check.proofs.LowestMultipliers.{yes-lowest_multipliers, coprime-lowest_multipliers}
use Rattle.cost_bounds.proofs.Wide.{difference_of_polys-wide, negation-wide, bound-wide}

-- ---- the change under numbers of which the case holds

read-map : (f : Polynomial → ℤ) (posts : List Polynomial) (number : ℕ) → number < length posts → unwrap_or (slice_get (map f posts) number) (pos 0) ≡ f (post_at posts number)
read-map f [] number lt = absurd (omega (arith, lt))
read-map f (p ∷ posts) zero lt = refl
read-map f (p ∷ posts) (suc number) lt = read-map f posts number (omega (arith, lt))

change-value : (at : Valuation) (posts : List Polynomial) (number : ℕ) (change : Polynomial) → change_of posts number ≡ Ok change
    → value_of at change ≡ value_of at (post_at posts number) -ℤ at (At number)
change-value at posts number change e =
    difference_of_polys-value at (post_at posts number) (column_of (At number)) change e ∙ ap (λ z. value_of at (post_at posts number) -ℤ z) (column_of-value at (At number))

change-between : (case : Case) (number : ℕ) (before after : List ℤ) (aux : ℕ → ℤ) (change : Polynomial) → number < length case.post
    → HoldsAt (numbers before aux) case after → change_of case.post number ≡ Ok change → value_of (numbers before aux) change ≡ change_between number before after
change-between case number before after aux change lt holds e =
    change-value (numbers before aux) case.post number change e
    ∙ ap (λ z. z -ℤ numbers before aux (At number))
    (sym (read-map (value_of (numbers before aux)) case.post number lt) ∙ ap (λ zs. unwrap_or (slice_get zs number) (pos 0)) holds.posts)

-- ---- making the question small

module _ (allows : Question → Answer → Type 0) (case : Case) (number : ℕ) (counts : number < length case.post) where
  -- what is left suffices, and says no more of the case
  record IsKept (last : Row) (kept : Kept) : Type 0 where
    passes : Passes (Infeasible (cost_rows kept.rows kept.entries last)) (answer.Yes kept.by)
    weaker : (at : Valuation) → RowsHold at case.rows → RowsHold at kept.rows
    entries_too : AllByRecursion IsEntryRow kept.entries

  trial-keeps : (last : Row) (kept : Kept) (rows entries : List Row) → IsKept last kept → ((at : Valuation) → RowsHold at case.rows → RowsHold at rows) → AllByRecursion IsEntryRow entries
      → AlwaysUnder (IsGood allows) (IsKept last) (trial last kept rows entries)
  unfolding trial yes_to ◌>>=◌
  trial-keeps last kept rows entries known weaker entries_too = λ a good. go a good
    where
      go : (a : Answer) → IsGood allows (Infeasible (cost_rows rows entries last)) a → IsKept last (fewer_rows kept rows entries (yes_of a))
      go (answer.Yes by) good = record { passes = good.passes; weaker = weaker; entries_too = entries_too }
      go (answer.No point) good = known
      go (answer.Bound at certs place point) good = known
      go (answer.Unbounded place point ray) good = known
      go (answer.Basis relations spots free) good = known
      go (answer.Limit limit) good = known

  removed : (at : Valuation) (rows : List Row) (place : ℕ) → RowsHold at rows → RowsHold at (remove rows place)
  removed at [] zero h = h
  removed at [] (suc place) h = h
  removed at (row ∷ rows) zero h = h.1
  removed at (row ∷ rows) (suc place) h = (h.0, removed at rows place h.1)

  without_row-keeps : (kind : Kind) (last : Row) (kept : Kept) (place : ℕ) → IsKept last kept → AlwaysUnder (IsGood allows) (IsKept last) (without_row kind last kept place)
  unfolding without_row
  without_row-keeps kind last kept place known = go (slice_get kept.rows place)
    where
      by_kind : (b : Bool) → AlwaysUnder (IsGood allows) (IsKept last) (if b then trial last kept (remove kept.rows place) kept.entries else Done kept)
      by_kind true = trial-keeps last kept (remove kept.rows place) kept.entries known (λ at h. removed at kept.rows place (known.weaker at h)) known.entries_too
      by_kind false = known

      go : (o : Option Row) → AlwaysUnder (IsGood allows) (IsKept last) (row_trial kind last kept place o)
      go None = known
      go (Some row) = by_kind (is_of kind row.kind)

  without_rows-keep : (kind : Kind) (last : Row) (kept : Kept) → IsKept last kept → AlwaysUnder (IsGood allows) (IsKept last) (without_rows kind last kept)
  without_rows-keep kind last kept known =
      under-down (IsGood allows) (IsKept last) (without_row kind last) kept (length kept.rows) (λ made n h. without_row-keeps kind last made n h) known

  without_entry-keeps : (last : Row) (kept : Kept) (place : ℕ) → IsKept last kept → AlwaysUnder (IsGood allows) (IsKept last) (without_entry last kept place)
  unfolding without_entry
  without_entry-keeps last kept place known = go (slice_get kept.entries place)
    where
      go : (o : Option Row) → AlwaysUnder (IsGood allows) (IsKept last) (entry_trial last kept place o)
      go None = known
      go (Some row) = trial-keeps last kept kept.rows (remove kept.entries place) known known.weaker (each-remove IsEntryRow kept.entries place known.entries_too)

  without_entries-keep : (last : Row) (kept : Kept) → IsKept last kept → AlwaysUnder (IsGood allows) (IsKept last) (without_entries last kept)
  without_entries-keep last kept known =
      under-down (IsGood allows) (IsKept last) (without_entry last) kept (length kept.entries) (λ made n h. without_entry-keeps last made n h) known

  least_kept-keeps : (last : Row) (kept : Kept) → IsKept last kept → AlwaysUnder (IsGood allows) (IsKept last) (least_kept last kept)
  unfolding least_kept
  least_kept-keeps last kept known =
      under-bind (IsGood allows) (IsKept last) (IsKept last) (without_rows AtMost last kept) (λ fewer. without_rows Equal last fewer >>= λ least. without_entries last least)
      (without_rows-keep AtMost last kept known)
      (λ fewer h. under-bind (IsGood allows) (IsKept last) (IsKept last) (without_rows Equal last fewer) (λ least. without_entries last least)
      (without_rows-keep Equal last fewer h) (λ least k. without_entries-keep last least k))

  -- ---- what comes of it

  pub record IsSound (made : Cost) : Type 0 where
    pub met : IsMetByCase case number made
    pub says : Says allows case number made

  exact-sound : (p : Polynomial) → change_of case.post number ≡ Ok p → is_over_entry p ≡ true → IsSound (cost.Exact p)
  exact-sound p e over = record {
    met = λ before after (aux, holds). sym (change-between case number before after aux p counts holds e) ∙ entry-value before aux (λ n. pos 0) p (IsOverEntry-test p over);
    says = record { is = e; over = over };
  }

  limit-sound : (l : Limit) → IsLimited allows case number l → IsSound (cost.Limit l)
  limit-sound l limited = record { met = λ before after holds. tt; says = limited }

  canonical_rows : (rows : List Row) (by : List ℤ) → Passes (Infeasible rows) (answer.Yes by) → CanonicalRows rows
  canonical_rows rows by passes = recursion_from_All (λ (row : Row). IsCanonical row.poly.terms) rows passes.canonical

  module _ (change : Polynomial) (last : Row) (asked : IsAsked case number change last) where
    lowest_multipliers-passes : (rows : List Row) (by : List ℤ) → Passes (Infeasible rows) (answer.Yes by) → Passes (Infeasible rows) (answer.Yes (lowest_multipliers by))
    lowest_multipliers-passes rows by passes = record {
      canonical = passes.canonical;
      positive = tt;
      passed = yes-lowest_multipliers rows by (canonical_rows rows by passes) passes.passed;
    }

    bound-sound : (first : List ℤ) → IsGood allows (first_question case.rows change last) (answer.Yes first) → (kept : Kept) → IsKept last kept → IsSound (kept_bound change.rest last kept)
    bound-sound first good kept known = go (bound_of change.rest kept.rows kept.entries (lowest_multipliers kept.by)) refl
      where
        passes : Passes (Infeasible (cost_rows kept.rows kept.entries last)) (answer.Yes (lowest_multipliers kept.by))
        passes = lowest_multipliers-passes (cost_rows kept.rows kept.entries last) kept.by known.passes

        canonical : CanonicalRows (cost_rows kept.rows kept.entries last)
        canonical = canonical_rows (cost_rows kept.rows kept.entries last) kept.by known.passes

        flat : AllByRecursion (λ (row : Row). row.poly.rest ≡ pos 0) kept.entries
        flat = flat_rows kept.entries known.entries_too

        coprime : gcd_of_all (lowest_multipliers kept.by) ≡ 1
        coprime = coprime-lowest_multipliers (cost_rows kept.rows kept.entries last) kept.by canonical known.passes.passed

        met : (p : Polynomial) → bound_of change.rest kept.rows kept.entries (lowest_multipliers kept.by) ≡ Ok p → (before after : List ℤ) → HoldsCase case before after
            → (scale_in kept.rows kept.entries (lowest_multipliers kept.by) *ℤ change_between number before after) ≤ℤ entry_value before p
        met p e before after (aux, holds) =
            subst (λ z. (scale_in kept.rows kept.entries (lowest_multipliers kept.by) *ℤ change_between number before after) ≤ℤ z)
            (entry-value before aux (λ n. pos 0) p (bound-over change.rest kept.rows kept.entries (lowest_multipliers kept.by) p known.entries_too e))
            (subst (λ z. (scale_in kept.rows kept.entries (lowest_multipliers kept.by) *ℤ z) ≤ℤ value_of (numbers before aux) p)
            (change-between case number before after aux change counts holds asked.is)
            (bound-met (numbers before aux) kept.rows kept.entries last change (lowest_multipliers kept.by) p flat asked.asks canonical passes.passed e (known.weaker (numbers before aux) holds.rows)))

        go : (made : Made) → bound_of change.rest kept.rows kept.entries (lowest_multipliers kept.by) ≡ made → IsSound (bound_by kept.rows kept.entries last (lowest_multipliers kept.by) made)
        go (Ok p) e = record {
          met = met p e;
          says = record {
            change = change;
            last = last;
            asked = asked;
            first = first;
            good = good;
            rows = kept.rows;
            entries = kept.entries;
            left = refl;
            passes = passes;
            coprime = coprime;
            scale_is = refl;
            positive = scale-positive (λ c. pos 0) kept.rows kept.entries last change (lowest_multipliers kept.by) flat asked.asks canonical passes.passed;
            sum = e;
          };
        }
        go (Err e) f =
            limit-sound (limit_of e)
            (bound_wide change last kept.rows kept.entries (lowest_multipliers kept.by) e (bound-wide change.rest kept.rows kept.entries (lowest_multipliers kept.by) e f) asked passes coprime f)

    unbounded-sound : (point : _) → IsGood allows (first_question case.rows change last) (answer.No point) → IsSound (cost.Unbounded point)
    unbounded-sound point good = record {
      met = λ before after holds. tt;
      says = record {
        change = change;
        last = last;
        asked = asked;
        good = good;
        grows =
            let tight = (passing (first_question case.rows change last) (answer.No point) good.passes).1 (λ never. never) in
            grows case.rows change last tight.point asked.asks tight.met;
      };
    }

    asked-sound : AlwaysUnder (IsGood allows) IsSound (cost_asked change case.rows last)
    unfolding cost_asked ◌>>=◌
    asked-sound = λ a good. go a good
      where
        go : (a : Answer) → IsGood allows (first_question case.rows change last) a → AlwaysUnder (IsGood allows) IsSound (by_answer change.rest last case.rows (entry_rows case.rows change) a)
        go (answer.Yes by) good =
            under-bind (IsGood allows) (IsKept last) IsSound (least_kept last (kept_part case.rows (entry_rows case.rows change) by)) (λ kept. Done (kept_bound change.rest last kept))
            (least_kept-keeps last (kept_part case.rows (entry_rows case.rows change) by) (record { passes = good.passes; weaker = λ at h. h; entries_too = entry_rows-are case.rows change }))
            (λ kept known. bound-sound by good kept known)
        go (answer.No point) good = unbounded-sound point good
        go (answer.Limit l) good = limit-sound l (unanswered change last l asked good)
        go (answer.Bound at certs place point) good = let never = good.passes.passed in cc
        go (answer.Unbounded place point ray) good = let never = good.passes.passed in cc
        go (answer.Basis relations spots free) good = let never = good.passes.passed in cc

  change-sound : (change : Polynomial) → change_of case.post number ≡ Ok change → AlwaysUnder (IsGood allows) IsSound (cost_of_change change case.rows)
  unfolding cost_of_change cost_by_last
  change-sound change e = over (is_over_entry change) refl
    where
      by_last : is_over_entry change ≡ false → (made : Result Row TermError) → negation (without_constant change) ≡ made → AlwaysUnder (IsGood allows) IsSound (cost_by_last change case.rows made)
      by_last inside (Ok last) f = asked-sound change last (record { is = e; inside = inside; asks = f })
      by_last inside (Err d) f = limit-sound (limit_of d) (question_wide change d (negation-wide (without_constant change) d f) e inside f)

      over : (b : Bool) → is_over_entry change ≡ b → AlwaysUnder (IsGood allows) IsSound (if b then Done (cost.Exact change) else cost_by_last change case.rows (negation (without_constant change)))
      over true f = exact-sound change e f
      over false f = by_last f (negation (without_constant change)) refl

  pub case_cost-sound : AlwaysUnder (IsGood allows) IsSound (case_cost case number)
  unfolding cost_by
  case_cost-sound = go (change_of case.post number) refl
    where
      go : (made : Made) → change_of case.post number ≡ made → AlwaysUnder (IsGood allows) IsSound (cost_by case.rows made)
      go (Ok change) e = change-sound change e
      go (Err d) e =
          limit-sound (limit_of d)
          (change_wide d (difference_of_polys-wide (post_at case.post number) (column_of (At number)) d e) e)
