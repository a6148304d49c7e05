-- The answer of a stratum question, from what the search finds.
use Rattle.std.proofs.Common.{◌≡◌, ◌⊎◌, ℕ, zero, suc, ◌+◌, ◌<◌, Bool, true, false, List, [], ◌∷◌, length, map, Result, Ok, Err, Some, refl, ap, subst, ◌∙◌, arith, ⊎_elim, inl, inr}
use Rattle.std.specs.Prelude.{slice_get, ◌-◌, ◌^◌, ◌≤◌, ◌&&◌, All}
use Rattle.std.specs.List.{AllByRecursion, list_all}
use Rattle.std.proofs.lemmas.Bool.{false≢true}
use Rattle.std.proofs.lemmas.List.Elements.{recursion_from_All}
use Rattle.linear_terms.specs.declared.col.Col.{Col}
use Rattle.whole_numbers.specs.declared.wide.Wide as Step
use Rattle.farkas_check.specs.Calm.{IsCalm, IsLiveAndCalm}
use Rattle.farkas_check.specs.Frames.{choose, choice_count}
use Rattle.farkas_check.specs.Kept.{IsCanonicalChange, IsCanonicalStratum, HasPositive}
use Rattle.farkas_check.specs.Meaning.{IsLimit}
use Rattle.farkas_check.specs.Parts.{and_then}
use Rattle.farkas_check.specs.Relations.{Changes, stratum_columns, case_monos, unknown_count, numbers_of, is_reduced, free_places}
use Rattle.farkas_check.specs.Stratum.{has_unknowns, all_of, tested_relation, tested_spot, tested_free, spot_side}
use Rattle.farkas_check.specs.Sizes.{IsDead}
use Rattle.farkas_check.specs.Tested.{outcome}
use Rattle.farkas_check.specs.declared.answer.Answer.{Answer}
use Rattle.farkas_check.specs.declared.answer.Answer.TheVariants as answer
use Rattle.farkas_check.specs.declared.answer.Limit.{Limit}
use Rattle.farkas_check.specs.declared.answer.Limit.TheVariants as limit
use Rattle.farkas_check.specs.declared.question.Question.TheVariants.{Stratum}
use Rattle.farkas_check.specs.declared.stratum.Change.{Change}
use Rattle.farkas_check.proofs.Farkas.{bool_ok}
use Rattle.farkas_check.proofs.Vanishing.{IsCaseAmong, cases_among}
use Rattle.farkas_check.proofs.Walks.{IsOrdered-columns}
use Rattle.simplex.specs.Answers.{IsWide}
use Rattle.simplex.specs.Refusal.{LeavesBits}
use Rattle.simplex.specs.Rows.{kinds_of}
use Rattle.simplex.specs.SmallBasis.{HasFewRows, IsSmallWhereCalm}
use Rattle.simplex.specs.Strata.{HasEndlessCase, IsFoundOver, HasCaseOfManyChoices, PivotsOver, IsStratumStep, strata_test, IsStratumAnswer}
use Rattle.simplex.specs.Suprema.{with_goal, IsSupremumOver}
use Rattle.simplex.specs.declared.supremum.Supremum.TheVariants as supremum
use Rattle.simplex.proofs.BasisLeaves.{stratum-leaves}
use Rattle.simplex.proofs.CalmBases.{found_calm}
use Rattle.simplex.proofs.Cases.{at_place}
use Rattle.simplex.proofs.Emptiness.{no_point_over}
use Rattle.simplex.proofs.RowTableaux.{kinds-length}
use Rattle.simplex.proofs.Leaves.{limit_of}
use Rattle.simplex.proofs.Objectives.{more_rows}
use Rattle.simplex.proofs.SpotPoints.{all_honest, spots_honest}
use Rattle.simplex.proofs.Stops.{names_none}

mapped_place : (cases : List Change) (l : ℕ) (case : Change) → slice_get cases l ≡ Some case → slice_get (map (λ (c : Change). c.rows) cases) l ≡ Some case.rows
mapped_place [] l case e = cc
mapped_place (c ∷ cases) zero case e = let same : c ≡ case = cc in ap (λ (x : Change). Some x.rows) same
mapped_place (c ∷ cases) (suc l) case e = mapped_place cases l case e

-- a case without an end has no points, or more choices than turns
endless_case : (budget : ℕ) (asked : Changes) → IsCanonicalStratum asked.cases asked.lower → HasEndlessCase (stratum_columns asked.cases asked.lower) budget asked.cases → IsDead (Stratum asked) ⊎ HasCaseOfManyChoices budget asked
endless_case budget asked k h = ⊎_elim
    (λ (empty : IsSupremumOver cs h.case.rows h.endless.objective budget supremum.Empty). inl (record {
      place = h.place;
      rows = h.case.rows;
      is = mapped_place asked.cases h.place h.case h.is;
      empty = no_point_over cs h.case.rows h.endless.objective empty.0 empty.1.0 (IsOrdered-columns (case_monos asked.cases asked.lower)) canonical.rows among.rows empty.1.1;
    }))
    (λ (many : IsSupremumOver cs h.case.rows h.endless.objective budget supremum.Pivots). inr (record { place = h.place; case = h.case; is = h.is; many = counted many })) h.endless.why
  where
    cs : List (List Col)
    cs = stratum_columns asked.cases asked.lower

    canonical : IsCanonicalChange h.case
    canonical = at_place IsCanonicalChange asked.cases h.place h.case (recursion_from_All IsCanonicalChange asked.cases k.cases_too) h.is

    among : IsCaseAmong (stratum_columns asked.cases asked.lower) h.case
    among = at_place (IsCaseAmong (stratum_columns asked.cases asked.lower)) asked.cases h.place h.case (cases_among asked.cases asked.lower) h.is

    counted : budget < choose (length (stratum_columns asked.cases asked.lower) + 1 + length (kinds_of (with_goal h.case.rows h.endless.objective))) (length (kinds_of (with_goal h.case.rows h.endless.objective))) → budget < choice_count (length (stratum_columns asked.cases asked.lower)) (length h.case.rows + 1)
    counted many = subst (λ (n : ℕ). budget < choose (length (stratum_columns asked.cases asked.lower) + 1 + n) n) (kinds-length (with_goal h.case.rows h.endless.objective) ∙ more_rows h.case.rows h.endless.objective) many

-- ---- answers

-- the answer on a live and calm question
live_stratum : (asked : Changes) (a : Answer) → PivotsOver (2 ^ 127 - 1) asked a → (IsCalm (Stratum asked) → IsWide a → ⊥) → IsLiveAndCalm (Stratum asked) → IsLimit a → ⊥
live_stratum asked (answer.Yes by) p wide live is = is
live_stratum asked (answer.No point) p wide live is = is
live_stratum asked (answer.Bound at certs case point) p wide live is = is
live_stratum asked (answer.Unbounded case point ray) p wide live is = is
live_stratum asked (answer.Basis relations spots free) p wide live is = is
live_stratum asked (answer.Limit (limit.Wide left right times)) p wide live is = wide live.calm tt
live_stratum asked (answer.Limit limit.Pivots) p wide live is = ⊎_elim (λ (dead : IsDead (Stratum asked)). live.live dead) (λ (many : HasCaseOfManyChoices (2 ^ 127 - 1) asked). too_many many) (p refl)
  where
    width : ℕ
    width = length (stratum_columns asked.cases asked.lower)

    few_at : (cases : List Change) (l : ℕ) (case : Change) → AllByRecursion (λ n. n ≤ 170141183460469231731687303715884105727) (map (λ (c : Change). choice_count width (length c.rows + 1)) cases) → slice_get cases l ≡ Some case → choice_count width (length case.rows + 1) ≤ 170141183460469231731687303715884105727
    few_at [] l case f e = cc
    few_at (c ∷ cases) zero case f e = let same : c ≡ case = cc in subst (λ (x : Change). choice_count width (length x.rows + 1) ≤ 170141183460469231731687303715884105727) same f.0
    few_at (c ∷ cases) (suc l) case f e = few_at cases l case f.1 e

    too_many : HasCaseOfManyChoices (2 ^ 127 - 1) asked → ⊥
    too_many m = let few : choice_count width (length m.case.rows + 1) ≤ 170141183460469231731687303715884105727 = few_at asked.cases m.place m.case live.few m.is in let many : (2 ^ 127 - 1) < choice_count width (length m.case.rows + 1) = m.many in omega (arith, few, many)

pub wide_stratum : (asked : Changes) (step : Step.Wide) → IsCanonicalStratum asked.cases asked.lower → LeavesBits step → (IsCalm (Stratum asked) → ⊥) → IsStratumStep asked step → IsStratumAnswer asked (answer.Limit (limit.Wide step.left step.right step.times))
wide_stratum asked step k leaves wild is = record {
  passes = record { canonical = k; positive = tt; passed = ap (λ (b : Bool). bool_ok b) (limit_of step leaves) };
  pivots = λ e. no_pivots e;
  wide = λ calm w. wild calm;
  calm = λ live l. wild live.calm;
  step = is;
}
  where
    no_pivots : answer.Limit (limit.Wide step.left step.right step.times) ≡ answer.Limit limit.Pivots → IsDead (Stratum asked) ⊎ HasCaseOfManyChoices (2 ^ 127 - 1) asked
    no_pivots e = cc

pub untested_stratum : (asked : Changes) (a : Answer) (step : Step.Wide) → IsCanonicalStratum asked.cases asked.lower → All HasFewRows asked.cases → IsFoundOver (stratum_columns asked.cases asked.lower) (2 ^ 127 - 1) asked.cases asked.lower a → IsSmallWhereCalm asked a → outcome (Stratum asked) a ≡ Err step
    → IsStratumAnswer asked (answer.Limit (limit.Wide step.left step.right step.times))
untested_stratum asked a step k few h s e = wide_stratum asked step k (stratum-leaves asked a step e) (λ calm. found_calm asked a step k calm few h (s.small calm) e) (strata_test a h e)

-- no part of the test of what is found is false
found_honest : (asked : Changes) (a : Answer) (b : Bool) → IsCanonicalStratum asked.cases asked.lower → IsFoundOver (stratum_columns asked.cases asked.lower) (2 ^ 127 - 1) asked.cases asked.lower a → outcome (Stratum asked) a ≡ Ok b → b ≡ true
found_honest asked (answer.Yes by) b k h e = absurd h
found_honest asked (answer.No point) b k h e = absurd h
found_honest asked (answer.Bound at certs case point) b k h e = absurd h
found_honest asked (answer.Unbounded case point ray) b k h e = absurd h
found_honest asked (answer.Limit l) b k h e = pivots l h.0 e
  where
    pivots : (l : Limit) → l ≡ limit.Pivots → outcome (Stratum asked) (answer.Limit l) ≡ Ok b → b ≡ true
    pivots (limit.Wide left right times) f g = cc
    pivots limit.Pivots f g = cc
found_honest asked (answer.Basis relations spots free) b k h e = counted (list_all (has_unknowns asked.cases asked.lower) relations && is_reduced (map numbers_of relations)) (both h.counts h.reduced) e
  where
    cs : List (List Col)
    cs = stratum_columns asked.cases asked.lower

    both : {p q : Bool} → p ≡ true → q ≡ true → p && q ≡ true
    both {p} {q} f g = rw (f, g) refl

    after : (first others : Result Bool Step.Wide) → ((c : Bool) → first ≡ Ok c → c ≡ true) → ((c : Bool) → others ≡ Ok c → c ≡ true) → (c : Bool) → and_then first others ≡ Ok c → c ≡ true
    after (Ok true) others f g c i = g c i
    after (Ok false) others f g c i = absurd (false≢true (f false refl))
    after (Err w) others f g c i = cc

    counted : (q : Bool) → q ≡ true → and_then (bool_ok q) (and_then (all_of (tested_relation cs asked.cases asked.lower) relations) (and_then (all_of (tested_spot cs asked.cases) spots) (tested_free (spot_side cs asked.cases asked.lower) spots (free_places (map numbers_of relations) (unknown_count asked.cases asked.lower)) free))) ≡ Ok b → b ≡ true
    counted true f g =
        after (all_of (tested_relation cs asked.cases asked.lower) relations) (and_then (all_of (tested_spot cs asked.cases) spots) (tested_free (spot_side cs asked.cases asked.lower) spots (free_places (map numbers_of relations) (unknown_count asked.cases asked.lower)) free))
        (λ c i. all_honest (tested_relation cs asked.cases asked.lower) relations c h.tied i)
        (after (all_of (tested_spot cs asked.cases) spots) (tested_free (spot_side cs asked.cases asked.lower) spots (free_places (map numbers_of relations) (unknown_count asked.cases asked.lower)) free)
        (λ c i. spots_honest asked.cases asked.lower spots c k h.points i) h.free_too) b g
    counted false f g = cc

pub found_stratum : (asked : Changes) (a : Answer) (b : Bool) → IsCanonicalStratum asked.cases asked.lower → HasPositive a → IsFoundOver (stratum_columns asked.cases asked.lower) (2 ^ 127 - 1) asked.cases asked.lower a → outcome (Stratum asked) a ≡ Ok b → IsStratumAnswer asked a
found_stratum asked a b k p h e = record {
  passes = record { canonical = k; positive = p; passed = e ∙ ap (λ (c : Bool). bool_ok c) (found_honest asked a b k h e) };
  pivots = pivots_of a h;
  wide = λ calm is. not_wide a h is;
  calm = λ live is. live_stratum asked a (pivots_of a h) (λ calm x. not_wide a h x) live is;
  step = names_none (IsStratumStep asked) a (λ is. not_wide a h is);
}
  where
    not_wide : (a : Answer) → IsFoundOver (stratum_columns asked.cases asked.lower) (2 ^ 127 - 1) asked.cases asked.lower a → IsWide a → ⊥
    not_wide (answer.Yes by) h is = is
    not_wide (answer.No point) h is = is
    not_wide (answer.Bound at certs case point) h is = is
    not_wide (answer.Unbounded case point ray) h is = is
    not_wide (answer.Basis relations spots free) h is = is
    not_wide (answer.Limit limit.Pivots) h is = is
    not_wide (answer.Limit (limit.Wide left right times)) h is = other h.0
      where
        other : limit.Wide left right times ≡ limit.Pivots → ⊥
        other f = cc

    pivots_of : (a : Answer) → IsFoundOver (stratum_columns asked.cases asked.lower) (2 ^ 127 - 1) asked.cases asked.lower a → PivotsOver (2 ^ 127 - 1) asked a
    pivots_of (answer.Yes by) h e = cc
    pivots_of (answer.No point) h e = cc
    pivots_of (answer.Bound at certs case point) h e = cc
    pivots_of (answer.Unbounded case point ray) h e = cc
    pivots_of (answer.Basis relations spots free) h e = cc
    pivots_of (answer.Limit l) h e = endless_case (2 ^ 127 - 1) asked k h.1
