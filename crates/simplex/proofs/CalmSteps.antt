-- Where a step of the search for relations leaves 128 bits, its question is not calm.
use Rattle.std.proofs.Common.{◌≡◌, ℕ, ◌^◌, ◌<◌, ◌≤◌, List, [], ◌∷◌, ◌++◌, map, length, Result, Ok, Err, refl, sym, ap, subst, ◌∙◌, arith, ℤ, pos, negsuc, ◌*ℤ◌, ◌<ℤ◌}
use Rattle.std.specs.Prelude.{unsigned_abs, IfErr}
use Rattle.std.specs.List.{AllByRecursion}
use Rattle.std.proofs.lemmas.Int.{ints}
use Rattle.items.specs.Gives.{Gives}
use Rattle.whole_numbers.specs.declared.wide.Wide as Step
use Rattle.linear_terms.specs.declared.col.Col.{Col}
use Rattle.linear_terms.specs.Polynomial.{Polynomial}
use Rattle.farkas_check.specs.Calm.{row_frame}
use Rattle.farkas_check.specs.Frames.{IsCalmUpTo}
use Rattle.farkas_check.specs.Points.{ratio_at, ratio_value}
use Rattle.farkas_check.specs.Ratios.{Fraction, whole}
use Rattle.farkas_check.specs.Relations.{Side, Term, Lower, One}
use Rattle.farkas_check.specs.Sizes.{HasNumbersUpTo}
use Rattle.farkas_check.specs.Stratum.{minus_value}
use Rattle.farkas_check.specs.declared.stratum.Change.{Change}
use Rattle.farkas_check.proofs.Differences.{IsOver, AreSidesOver}
use Rattle.simplex.specs.Calm.{IsMemory}
use Rattle.simplex.specs.CalmStrata.{IsStrayUnder, IsRefusalUnder, IsCalmAsked, IsStray, IsRefusalOf, HasSpotLine}
use Rattle.simplex.specs.Points.{IsPointOf}
use Rattle.simplex.specs.Exchange.{cause}
use Rattle.simplex.specs.Refusal.{LeavesBits, IsRefusal}
use Rattle.simplex.specs.Spots.{values_of, AreSideValues, common_denominator, numerators_over, frame_of_lines}
use Rattle.simplex.specs.SearchSteps.{StopsBy, far_step}
use Rattle.simplex.specs.Strata.{IsAsked, IsCaseOf}
use Rattle.simplex.specs.StrataSteps.{IsSearchStep, place_step}
use Rattle.simplex.specs.declared.differences.StrataQuestion.{StrataQuestion}
use Rattle.simplex.specs.declared.stop.SearchStop.{SearchStop}
use Rattle.simplex.specs.declared.stop.SearchStop.TheVariants.{Wide, Memory}
use Rattle.simplex.proofs.Cases.{at_place}
use Rattle.simplex.proofs.Further.{IsGiven, case_given}
use Rattle.simplex.proofs.Memory.{only_memory, never}
use Rattle.simplex.proofs.Numerators.{IsRatioBelow, HasValueWith, values-with, common-fits, over-fits}
use Rattle.simplex.proofs.Small.{HasValue}
use Rattle.simplex.proofs.SmallPoints.{IsSmallPoint, point_small}
use Rattle.simplex.proofs.SmallSides.{value_below, minus_below}
use Rattle.farkas_check.proofs.Lowest.{IsLowest-whole}
use Rattle.farkas_check.proofs.PointValues.{Stands-whole}

-- ---- errors

pub under_error : {X : Type 0} (s : StrataQuestion) (count : ℕ) (lines : List (List ℤ)) (r : Result X SearchStop) → IfErr r (IsRefusalUnder count lines) → (IsCalmAsked s → IsCalmUpTo 1048576 (frame_of_lines count lines)) → IfErr r (StopsBy (IsSearchStep s.columns.now s.cases.now s.lower.now)) → IfErr r (IsRefusalOf s)
under_error s count lines (Ok x) h calm is = tt
under_error s count lines (Err (Wide step)) h calm is = record { leaves = h.leaves; great = λ c. h.great (calm c); is = is }
under_error s count lines (Err Memory) h calm is = tt

pub refusal_error : {X : Type 0} (s : StrataQuestion) (r : Result X SearchStop) → IfErr r IsRefusal → (IsCalmAsked s → IfErr r IsMemory) → IfErr r (StopsBy (IsSearchStep s.columns.now s.cases.now s.lower.now)) → IfErr r (IsRefusalOf s)
refusal_error s (Ok x) h calm is = tt
refusal_error s (Err (Wide step)) h calm is = record { leaves = h; great = calm; is = is }
refusal_error s (Err Memory) h calm is = tt

pub step_error : {X : Type 0} (s : StrataQuestion) (r : Result X Step.Wide) → IfErr r LeavesBits → (IsCalmAsked s → IfErr r (λ _. ⊥)) → IfErr r (IsSearchStep s.columns.now s.cases.now s.lower.now) → IfErr r (IsStray s)
step_error s (Ok x) h calm is = tt
step_error s (Err step) h calm is = record { leaves = h; great = calm; is = is }

pub error_under : {X : Type 0} (count : ℕ) (lines : List (List ℤ)) (r : Result X SearchStop) → IfErr r IsRefusal → (IsCalmUpTo 1048576 (frame_of_lines count lines) → IfErr r IsMemory) → IfErr r (IsRefusalUnder count lines)
error_under count lines (Ok x) h calm = tt
error_under count lines (Err (Wide step)) h calm = record { leaves = h; great = calm }
error_under count lines (Err Memory) h calm = tt

pub step_under : {X : Type 0} (count : ℕ) (lines : List (List ℤ)) (r : Result X Step.Wide) → IfErr r LeavesBits → (IsCalmUpTo 1048576 (frame_of_lines count lines) → IfErr r (λ _. ⊥)) → IfErr r (IsStrayUnder count lines)
step_under count lines (Ok x) h calm = tt
step_under count lines (Err step) h calm = record { leaves = h; great = calm }

-- a call whose stated answer is a value fails by want of memory alone
pub gives_memory : {X Y : Type 0} (view : X → Y) (r : Result X SearchStop) (stated : Result Y Step.Wide) → Gives cause view r stated → HasValue stated → IfErr r IsMemory
gives_memory view (Ok x) stated g v = tt
gives_memory view (Err e) stated g v = only_memory e stated g v

pub plain_error : {X : Type 0} (s : StrataQuestion) (r : Result X SearchStop) → IfErr r (IsRefusalOf s) → IfErr r IsRefusal
plain_error s (Ok x) h = tt
plain_error s (Err (Wide step)) h = h.leaves
plain_error s (Err Memory) h = tt

pub calm_error : {X : Type 0} (s : StrataQuestion) (r : Result X SearchStop) → IfErr r (IsRefusalOf s) → IsCalmAsked s → IfErr r IsMemory
calm_error s (Ok x) h calm = tt
calm_error s (Err (Wide step)) h calm = h.great calm
calm_error s (Err Memory) h calm = tt

-- ---- the line of a spot

pub terms_of_sides : (cs : List (List Col)) (terms : List Polynomial) (rest : List Side) → AreSidesOver cs (map Term terms ++ rest) → AllByRecursion (IsOver cs) terms × AreSidesOver cs rest
terms_of_sides cs [] rest h = (tt, h)
terms_of_sides cs (p ∷ terms) rest h = let more = terms_of_sides cs terms rest h.1 in ((h.0, more.0), more.1)

pub lower_of_sides : (cs : List (List Col)) (lower : List Polynomial) → AreSidesOver cs (map Lower lower ++ One ∷ []) → AllByRecursion (IsOver cs) lower
lower_of_sides cs [] h = tt
lower_of_sides cs (p ∷ lower) h = (h.0, lower_of_sides cs lower h.1)

pub all_below : {P Q R : Polynomial → Type 0} (ps : List Polynomial) → ((p : Polynomial) → P p → Q p → R p) → AllByRecursion P ps → AllByRecursion Q ps → AllByRecursion R ps
all_below [] f h k = tt
all_below (p ∷ ps) f h k = (f p h.0 k.0, all_below ps f h.1 k.1)

both_lists : (P : Fraction → Type 0) (xs ys : List Fraction) → AllByRecursion P xs → AllByRecursion P ys → AllByRecursion P (xs ++ ys)
both_lists P [] ys h k = k
both_lists P (x ∷ xs) ys h k = (h.0, both_lists P xs ys h.1 k)

less_one : (d : ℤ) → pos 0 <ℤ d → unsigned_abs d ≤ 1099511627776 → IsRatioBelow (2 ^ 126) d (whole (negsuc 0))
less_one d above small = record { number = negsuc 0 *ℤ d; is = record { stands = Stands-whole (negsuc 0) d; lowest = IsLowest-whole (negsuc 0) }; small = size d small }
  where
    size : (d : ℤ) → unsigned_abs d ≤ 1099511627776 → unsigned_abs (negsuc 0 *ℤ d) ≤ 2 ^ 126
    size d h = let e : unsigned_abs (negsuc 0 *ℤ d) ≡ unsigned_abs d = same d in omega (arith, e, h)
      where
        same : (d : ℤ) → unsigned_abs (negsuc 0 *ℤ d) ≡ unsigned_abs d
        same d = omega (arith, ints)

-- a spot at a point that the search meets has a line, where the question is calm
pub spot_line_made : (s : StrataQuestion) (case : Change) (at : List Fraction) → IsAsked s → IsCaseOf s case → length s.columns.now < 2 ^ 64 → IsPointOf s.columns.now case.rows at → IsCalmAsked s → HasSpotLine s.columns.now at case.terms s.lower.now
spot_line_made s case at is of few point calm = with_own (values-with (IsRatioBelow (2 ^ 126) h.over) (ratio_value (ratio_at s.columns.now at)) case.terms terms_fit)
  where
    given : IsGiven s.columns.now case.rows case.terms s.lower.now
    given = case_given s case is of

    h : IsSmallPoint s.columns.now 1099511627776 at
    h = point_small s.columns.now case.rows at (at_place (λ (c : Change). IsCalmUpTo 1048576 (row_frame s.columns.now c.rows)) s.cases.now of.place case calm.calm.rows of.is) point

    parts : AllByRecursion (IsOver s.columns.now) case.terms × AreSidesOver s.columns.now (map Lower s.lower.now ++ One ∷ [])
    parts = terms_of_sides s.columns.now case.terms (map Lower s.lower.now ++ One ∷ []) given.over

    terms_fit : AllByRecursion (HasValueWith (IsRatioBelow (2 ^ 126) h.over) (ratio_value (ratio_at s.columns.now at))) case.terms
    terms_fit = all_below case.terms (λ p o u. value_below s.columns.now at p given.ordered few h o u) parts.0 (at_place (λ (c : Change). AllByRecursion (HasNumbersUpTo 1048576) c.terms) s.cases.now of.place case calm.calm.terms of.is)

    lower_fit : AllByRecursion (HasValueWith (IsRatioBelow (2 ^ 126) h.over) (minus_value (ratio_value (ratio_at s.columns.now at)))) s.lower.now
    lower_fit = all_below s.lower.now (λ p o u. minus_below s.columns.now at p given.ordered few h o u) (lower_of_sides s.columns.now s.lower.now parts.1) calm.calm.lower_terms

    with_own : ((own : List Fraction) × ((values_of (ratio_value (ratio_at s.columns.now at)) case.terms ≡ Ok own) × AllByRecursion (IsRatioBelow (2 ^ 126) h.over) own)) → HasSpotLine s.columns.now at case.terms s.lower.now
    with_own own = with_others (values-with (IsRatioBelow (2 ^ 126) h.over) (minus_value (ratio_value (ratio_at s.columns.now at))) s.lower.now lower_fit)
      where
        with_others : ((others : List Fraction) × ((values_of (minus_value (ratio_value (ratio_at s.columns.now at))) s.lower.now ≡ Ok others) × AllByRecursion (IsRatioBelow (2 ^ 126) h.over) others)) → HasSpotLine s.columns.now at case.terms s.lower.now
        with_others others = with_scale (common-fits (2 ^ 126) h.over values h.positive h.over_small below)
          where
            values : List Fraction
            values = own.0 ++ (others.0 ++ whole (negsuc 0) ∷ [])

            below : AllByRecursion (IsRatioBelow (2 ^ 126) h.over) values
            below = both_lists (IsRatioBelow (2 ^ 126) h.over) own.0 (others.0 ++ whole (negsuc 0) ∷ []) own.1.1 (both_lists (IsRatioBelow (2 ^ 126) h.over) others.0 (whole (negsuc 0) ∷ []) others.1.1 (less_one h.over h.positive h.over_small, tt))

            with_scale : HasValue (common_denominator values) → HasSpotLine s.columns.now at case.terms s.lower.now
            with_scale scale = with_line (over-fits (2 ^ 126) h.over scale.0 values h.positive scale.1 below (omega arith))
              where
                with_line : HasValue (numerators_over scale.0 values) → HasSpotLine s.columns.now at case.terms s.lower.now
                with_line line = (line.0, (scale.0, record { values = values; are = record { own = own.0; others = others.0; own_is = own.1.0; others_is = others.1.0; is = refl }; scale_is = scale.1; line_is = line.1 }))

-- ---- what the line of a spot is made of

ok_same : {X : Type 0} (r : Result X Step.Wide) (x y : X) → r ≡ Ok x → r ≡ Ok y → x ≡ y
ok_same {X = X} r x y e f = let g : ok x ≡ ok y = sym e ∙ f in cc
  where
    ok : X → Result X Step.Wide
    ok z = Ok z

same_sides : (cs : List (List Col)) (at : List Fraction) (terms lower : List Polynomial) (v w : List Fraction) → AreSideValues cs at terms lower v → AreSideValues cs at terms lower w → v ≡ w
same_sides cs at terms lower v w a b =
    a.is
    ∙ ap (λ (rs : List Fraction). rs ++ (a.others ++ whole (negsuc 0) ∷ [])) (ok_same (values_of (ratio_value (ratio_at cs at)) terms) a.own b.own a.own_is b.own_is)
    ∙ ap (λ (rs : List Fraction). b.own ++ (rs ++ whole (negsuc 0) ∷ [])) (ok_same (values_of (minus_value (ratio_value (ratio_at cs at))) lower) a.others b.others a.others_is b.others_is)
    ∙ sym b.is

pub scale_fits : (cs : List (List Col)) (at : List Fraction) (terms lower : List Polynomial) (values : List Fraction) → AreSideValues cs at terms lower values → HasSpotLine cs at terms lower → HasValue (common_denominator values)
scale_fits cs at terms lower values a l = (l.1.0, ap common_denominator (same_sides cs at terms lower values l.1.1.values a l.1.1.are) ∙ l.1.1.scale_is)

pub line_fits : (cs : List (List Col)) (at : List Fraction) (terms lower : List Polynomial) (values : List Fraction) (scale : ℤ) → AreSideValues cs at terms lower values → common_denominator values ≡ Ok scale → HasSpotLine cs at terms lower → HasValue (numerators_over scale values)
line_fits cs at terms lower values scale a e l = (
  l.0,
  ap (λ z. numerators_over z values) (ok_same (common_denominator values) scale l.1.0 e (ap common_denominator same ∙ l.1.1.scale_is)) ∙ ap (numerators_over l.1.0) same ∙ l.1.1.line_is,
)
  where
    same : values ≡ l.1.1.values
    same = same_sides cs at terms lower values l.1.1.values a l.1.1.are

-- a step whose stated answer is a value does not fail
pub never_is : {X : Type 0} (r stated : Result X Step.Wide) → r ≡ stated → HasValue stated → IfErr r (λ _. ⊥)
never_is {X = X} r stated e v = subst (λ (q : Result X Step.Wide). IfErr q (λ _. ⊥)) (sym e) (never stated v)

-- a case past the last that is counted is none of a calm question
pub far_error : {X : Type 0} (s : StrataQuestion) (place : ℕ) (r : Result X Step.Wide) → IfErr r (λ step. LeavesBits step × (2 ^ 32 ≤ place) × (step ≡ far_step)) → place < length s.cases.now → IfErr r (IsStray s)
far_error s place (Ok x) h here = tt
far_error s place (Err step) h here = record { leaves = h.0; great = λ calm. let few : length s.cases.now ≤ 4294967296 = calm.few_cases in let far : 2 ^ 32 ≤ place = h.1 in omega (arith, few, far, here); is = let far : 2 ^ 32 ≤ place = h.1 in place_step (omega (arith, far, here)) h.2 }
