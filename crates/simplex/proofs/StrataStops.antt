-- Which step a search for relations stopped at, from the stated answers of its calls.
use Rattle.std.proofs.Common.{◌≡◌, ◌∙◌, ℕ, ◌+◌, Bool, true, not, List, [], ◌∷◌, ◌++◌, take, drop, length, get_or, Result, Ok, Err, sym, ap, subst, ℤ, pos, negsuc}
use Rattle.std.specs.Prelude.{IfErr, if◌then◌else◌}
use Rattle.std.specs.Ordering.{int_eq}
use Rattle.items.specs.Gives.{◌>>=◌, err_map, Gives}
use Rattle.whole_numbers.specs.declared.wide.Wide as Step
use Rattle.linear_terms.specs.declared.col.Col.{Col}
use Rattle.linear_terms.specs.declared.error.TermError.{TermError}
use Rattle.linear_terms.specs.Operations.{sum_of_polys}
use Rattle.linear_terms.specs.Polynomial.{Polynomial, constant_of}
use Rattle.linear_terms.specs.TermError.{wide}
use Rattle.farkas_check.specs.Points.{ratio_at, ratio_value}
use Rattle.farkas_check.specs.Ratios.{Fraction, whole}
use Rattle.farkas_check.specs.Relations.{entry, unknown_count}
use Rattle.farkas_check.specs.Stratum.{terms_of, minus_value}
use Rattle.farkas_check.specs.declared.stratum.Change.{Change}
use Rattle.farkas_check.specs.declared.stratum.Spot.{Spot}
use Rattle.simplex.specs.CalmStrata.{IsRefusalOf, IsLinesStep, lines_choice, lines_ratio, lines_relation, IsUnitStep, AreSpotsOf}
use Rattle.simplex.specs.Differences.{with_multiples}
use Rattle.simplex.specs.Exchange.{cause, line_multiple, choices_of}
use Rattle.simplex.specs.Points.{IsSpotAt}
use Rattle.simplex.specs.Raise.{sign_of}
use Rattle.simplex.specs.SearchSteps.{StopsBy}
use Rattle.simplex.specs.Spots.{common_denominator, numerators_over, sums_of, values_of, AreSideValues, IsSpotLine, AreSpots, IsRelationOf, IsSpotTableau, multiples_from}
use Rattle.simplex.specs.Strata.{IsAsked, IsCaseOf, AreKnown}
use Rattle.simplex.specs.StrataSteps.{numerators_of, line_at, difference_from, difference_made, point_beyond, AreSpotsIn, IsTableauOfSpots, IsCandidate, IsSearchStep, spot_step, choice_step, ratio_step, relation_step, unit_step, difference_step}
use Rattle.simplex.specs.declared.differences.StrataQuestion.{StrataQuestion}
use Rattle.simplex.specs.declared.spots.Spots.{Spots}
use Rattle.simplex.specs.declared.stop.SearchStop.{SearchStop}
use Rattle.simplex.specs.declared.stop.SearchStop.TheVariants.{Wide, Memory}
use Rattle.simplex.specs.declared.strata.KnownRelations.{KnownRelations}
use Rattle.simplex.specs.declared.tableau.Tableau.{Tableau}
use Rattle.simplex.proofs.Courses.{all_more, lines_more}
use Rattle.simplex.proofs.Stops.{stops_weaker, gives_stop}

-- ---- a spot's line

pub common_stops : (rs : List Fraction) (step : Step.Wide) → common_denominator rs ≡ Err step → numerators_of rs ≡ Err step
common_stops rs step e = ap (λ (r : Result ℤ Step.Wide). r >>= λ scale. numerators_over scale rs) e

pub over_stops : (rs : List Fraction) (scale : ℤ) (step : Step.Wide) → common_denominator rs ≡ Ok scale → numerators_over scale rs ≡ Err step → numerators_of rs ≡ Err step
over_stops rs scale step is e = ap (λ (r : Result ℤ Step.Wide). r >>= λ scale. numerators_over scale rs) is ∙ e

module _ (cs : List (List Col)) (at : List Fraction) (terms lower : List Polynomial) where
  abbrev after_others : List Fraction → List Fraction → Result (List ℤ) Step.Wide
  after_others own others = numerators_of (own ++ (others ++ whole (negsuc 0) ∷ []))

  abbrev after_own : List Fraction → Result (List ℤ) Step.Wide
  after_own own = values_of (minus_value (ratio_value (ratio_at cs at))) lower >>= λ others. after_others own others

  pub own_stops : (step : Step.Wide) → values_of (ratio_value (ratio_at cs at)) terms ≡ Err step → line_at cs at terms lower ≡ Err step
  own_stops step e = ap (λ (r : Result (List Fraction) Step.Wide). r >>= λ own. after_own own) e

  pub others_stop : (own : List Fraction) (step : Step.Wide) → values_of (ratio_value (ratio_at cs at)) terms ≡ Ok own → values_of (minus_value (ratio_value (ratio_at cs at))) lower ≡ Err step → line_at cs at terms lower ≡ Err step
  others_stop own step is e =
      ap (λ (r : Result (List Fraction) Step.Wide). r >>= λ own. after_own own) is ∙ ap (λ (r : Result (List Fraction) Step.Wide). r >>= λ others. after_others own others) e

  pub values_stop : (values : List Fraction) (step : Step.Wide) → AreSideValues cs at terms lower values → numerators_of values ≡ Err step → line_at cs at terms lower ≡ Err step
  values_stop values step a e =
      ap (λ (r : Result (List Fraction) Step.Wide). r >>= λ own. after_own own) a.own_is
      ∙ ap (λ (r : Result (List Fraction) Step.Wide). r >>= λ others. after_others a.own others) a.others_is
      ∙ ap numerators_of (sym a.is) ∙ e

-- ---- a difference

module _ (own others : List ℤ) (terms lower : List Polynomial) where
  abbrev last_sum : Polynomial → Result Polynomial TermError
  last_sum sides = sum_of_polys sides (constant_of (entry others (length lower)))

  abbrev lower_sum : Polynomial → Result Polynomial TermError
  lower_sum first = with_multiples first others lower >>= λ sides. last_sum sides

  pub terms_stop : (zero_poly : Polynomial) (step : Step.Wide) → zero_poly ≡ constant_of (pos 0) → with_multiples zero_poly own terms ≡ Err (wide step) → difference_from own others terms lower ≡ Err (wide step)
  terms_stop zero_poly step z e = ap (λ (r : Result Polynomial TermError). r >>= λ first. lower_sum first) (ap (λ (q : Polynomial). with_multiples q own terms) (sym z) ∙ e)

  pub sides_stop : (zero_poly first : Polynomial) (step : Step.Wide) → zero_poly ≡ constant_of (pos 0) → with_multiples zero_poly own terms ≡ Ok first → with_multiples first others lower ≡ Err (wide step) → difference_from own others terms lower ≡ Err (wide step)
  sides_stop zero_poly first step z is e =
      ap (λ (r : Result Polynomial TermError). r >>= λ first. lower_sum first) (ap (λ (q : Polynomial). with_multiples q own terms) (sym z) ∙ is)
      ∙ ap (λ (r : Result Polynomial TermError). r >>= λ sides. last_sum sides) e

  pub last_stops : (zero_poly first sides : Polynomial) (last : ℤ) (step : Step.Wide) → zero_poly ≡ constant_of (pos 0) → with_multiples zero_poly own terms ≡ Ok first → with_multiples first others lower ≡ Ok sides → last ≡ entry others (length lower)
      → sum_of_polys sides (constant_of last) ≡ Err (wide step) → difference_from own others terms lower ≡ Err (wide step)
  last_stops zero_poly first sides last step z is are l e =
      ap (λ (r : Result Polynomial TermError). r >>= λ first. lower_sum first) (ap (λ (q : Polynomial). with_multiples q own terms) (sym z) ∙ is)
      ∙ ap (λ (r : Result Polynomial TermError). r >>= λ sides. last_sum sides) are
      ∙ ap (λ (z : ℤ). sum_of_polys sides (constant_of z)) (sym l) ∙ e

module _ (count : ℕ) (numbers : List ℤ) (up : Bool) (terms lower : List Polynomial) where
  abbrev others_sum : List ℤ → Result Polynomial TermError
  others_sum own = err_map wide (line_multiple (drop count numbers) (sign_of (not up))) >>= λ others. difference_from own others terms lower

  pub first_numbers_stop : (step : Step.Wide) → line_multiple (take count numbers) (sign_of up) ≡ Err step → difference_made count numbers up terms lower ≡ Err (wide step)
  first_numbers_stop step e = ap (λ (r : Result (List ℤ) Step.Wide). err_map wide r >>= λ own. others_sum own) e

  pub last_numbers_stop : (own : List ℤ) (step : Step.Wide) → line_multiple (take count numbers) (sign_of up) ≡ Ok own → line_multiple (drop count numbers) (sign_of (not up)) ≡ Err step → difference_made count numbers up terms lower ≡ Err (wide step)
  last_numbers_stop own step is e =
      ap (λ (r : Result (List ℤ) Step.Wide). err_map wide r >>= λ own. others_sum own) is
      ∙ ap (λ (r : Result (List ℤ) Step.Wide). err_map wide r >>= λ others. difference_from own others terms lower) e

  pub numbers_made : (own others : List ℤ) (step : Step.Wide) → line_multiple (take count numbers) (sign_of up) ≡ Ok own → line_multiple (drop count numbers) (sign_of (not up)) ≡ Ok others → difference_from own others terms lower ≡ Err (wide step) → difference_made count numbers up terms lower ≡ Err (wide step)
  numbers_made own others step is are e =
      ap (λ (r : Result (List ℤ) Step.Wide). err_map wide r >>= λ own. others_sum own) is
      ∙ ap (λ (r : Result (List ℤ) Step.Wide). err_map wide r >>= λ others. difference_from own others terms lower) are ∙ e

-- ---- a point beyond a corner

module _ (cs : List (List Col)) (p : Polynomial) (point ray : List Fraction) where
  abbrev beyond : Fraction → Result (List Fraction) Step.Wide
  beyond value = if int_eq value.num (pos 0) then sums_of point ray else Ok point

  pub value_stops : (step : Step.Wide) → ratio_value (ratio_at cs point) p ≡ Err step → point_beyond cs p point ray ≡ Err step
  value_stops step e = ap (λ (r : Result Fraction Step.Wide). r >>= λ value. beyond value) e

  pub sums_stop : (value : Fraction) (step : Step.Wide) → ratio_value (ratio_at cs point) p ≡ Ok value → int_eq value.num (pos 0) ≡ true → sums_of point ray ≡ Err step → point_beyond cs p point ray ≡ Err step
  sums_stop value step is zero_here e =
      ap (λ (r : Result Fraction Step.Wide). r >>= λ value. beyond value) is
      ∙ ap (λ (b : Bool). if b then sums_of point ray else Ok point) zero_here ∙ e

-- ---- steps of the question

pub unknowns_are : (s : StrataQuestion) → IsAsked s → s.count ≡ s.terms + length s.lower.now + 1 → s.count ≡ unknown_count s.cases.now s.lower.now
unknowns_are s is count = count ∙ ap (λ (n : ℕ). n + length s.lower.now + 1) is.terms

pub known_spots : (s : StrataQuestion) (known : KnownRelations) → IsAsked s → s.count ≡ s.terms + length s.lower.now + 1 → AreKnown s known → AreSpotsOf s known.spots
known_spots s known is count k = record { count = unknowns_are s is count; are = record { points = k.points; are = k.lines } }

tableau_of : (s : StrataQuestion) (known : Spots) → AreSpotsOf s known → AreSpots s.count known → IsTableauOfSpots s.columns.now s.cases.now s.lower.now known.tableau
tableau_of s known of are = record { spots = known.spots; lines = known.lines; scales = known.scales; are = of.are; is = subst (λ (n : ℕ). IsSpotTableau n known.lines known.tableau) of.count are.tableau }

pub candidate_of : (s : StrataQuestion) (known : KnownRelations) (u : ℕ) (numbers : List ℤ) → IsAsked s → s.count ≡ s.terms + length s.lower.now + 1 → AreKnown s known → IsRelationOf s.count known.spots.tableau u numbers → IsCandidate s.columns.now s.cases.now s.lower.now numbers
candidate_of s known u numbers is count k r = record {
  tableau = known.spots.tableau;
  of = tableau_of s known.spots (known_spots s known is count k) k.spots;
  unknown = u;
  is = subst (λ (n : ℕ). IsRelationOf n known.spots.tableau u numbers) (unknowns_are s is count) r;
}

pub lines_stop : {X : Type 0} (s : StrataQuestion) (spots : List Spot) (lines : List (List ℤ)) (scales : List ℤ) (r : Result X SearchStop) → s.count ≡ unknown_count s.cases.now s.lower.now → AreSpotsIn s.columns.now s.cases.now s.lower.now spots lines scales
    → IfErr r (StopsBy (IsLinesStep s.count lines)) → IfErr r (StopsBy (IsSearchStep s.columns.now s.cases.now s.lower.now))
lines_stop s spots lines scales r e a h = stops_weaker (IsLinesStep s.count lines) (IsSearchStep s.columns.now s.cases.now s.lower.now) r h (λ step k. at_step step (subst (λ (n : ℕ). IsLinesStep n lines step) e k))
  where
    own : (t : Tableau) → IsSpotTableau (unknown_count s.cases.now s.lower.now) lines t → IsTableauOfSpots s.columns.now s.cases.now s.lower.now t
    own t is = record { spots = spots; lines = lines; scales = scales; are = a; is = is }

    at_step : (step : Step.Wide) → IsLinesStep (unknown_count s.cases.now s.lower.now) lines step → IsSearchStep s.columns.now s.cases.now s.lower.now step
    at_step step (lines_choice t line column is stopped) = choice_step t line column (own t is) stopped
    at_step step (lines_ratio t unknown is stopped) = ratio_step t unknown (own t is) stopped
    at_step step (lines_relation t unknown ratios is along stopped) = relation_step t unknown ratios (own t is) along stopped

pub known_stop : {X : Type 0} (s : StrataQuestion) (known : KnownRelations) (r : Result X SearchStop) → IsAsked s → s.count ≡ s.terms + length s.lower.now + 1 → AreKnown s known → IfErr r (StopsBy (IsLinesStep s.count known.spots.lines)) → IfErr r (StopsBy (IsSearchStep s.columns.now s.cases.now s.lower.now))
known_stop s known r is count k h = lines_stop s known.spots.spots known.spots.lines known.spots.scales r (unknowns_are s is count) (known_spots s known is count k).are h

pub more_stop : {X : Type 0} (s : StrataQuestion) (known : Spots) (spot : Spot) (terms : List Polynomial) (line : List ℤ) (scale : ℤ) (r : Result X SearchStop) → AreSpotsOf s known → IsSpotAt s.columns.now s.cases.now spot → terms ≡ terms_of s.cases.now spot.case
    → IsSpotLine s.columns.now spot.at terms s.lower.now line scale → IfErr r (StopsBy (IsLinesStep s.count (known.lines ++ line ∷ []))) → IfErr r (StopsBy (IsSearchStep s.columns.now s.cases.now s.lower.now))
more_stop s known spot terms line scale r of at e is h =
    lines_stop s (known.spots ++ spot ∷ []) (known.lines ++ line ∷ []) (known.scales ++ scale ∷ []) r of.count
    (record {
      points = all_more (IsSpotAt s.columns.now s.cases.now) known.spots spot of.are.points at;
      are = lines_more s.columns.now s.cases.now s.lower.now known.spots known.lines known.scales spot line scale of.are.are (subst (λ (ts : List Polynomial). IsSpotLine s.columns.now spot.at ts s.lower.now line scale) e is);
    }) h

pub units_stop : {X : Type 0} (s : StrataQuestion) (known : KnownRelations) (r : Result X SearchStop) → IsAsked s → s.count ≡ s.terms + length s.lower.now + 1 → AreKnown s known → IfErr r (StopsBy (IsUnitStep s.count known.spots)) → IfErr r (StopsBy (IsSearchStep s.columns.now s.cases.now s.lower.now))
units_stop s known r is count k h =
    stops_weaker (IsUnitStep s.count known.spots) (IsSearchStep s.columns.now s.cases.now s.lower.now) r h
    (λ step u. at_step step (subst (λ (n : ℕ). IsUnitStep n known.spots step) (unknowns_are s is count) u))
  where
    at_step : (step : Step.Wide) → IsUnitStep (unknown_count s.cases.now s.lower.now) known.spots step → IsSearchStep s.columns.now s.cases.now s.lower.now step
    at_step step u = unit_step known.spots.tableau u.line
        (record {
          spots = known.spots.spots;
          lines = known.spots.lines;
          scales = known.spots.scales;
          are = (known_spots s known is count k).are;
          is = subst (λ (n : ℕ). IsSpotTableau n known.spots.lines known.spots.tableau) (unknowns_are s is count) k.spots.tableau;
        }) u.is

pub units_stop_at : (count : ℕ) (spots : Spots) (unknown line : ℕ) (own : List ℤ) (r : Result (List Fraction) SearchStop) → own ≡ get_or spots.tableau.lines line [] → choices_of spots.tableau line ≡ unknown → Gives cause (λ by. by) r (multiples_from own (entry own unknown) count spots.scales)
    → IfErr r (StopsBy (IsUnitStep count spots))
units_stop_at count spots unknown line own r e f g =
    gives_stop (IsUnitStep count spots) (λ by. by) r (multiples_from own (entry own unknown) count spots.scales) g
    (λ step stopped. record {
      line = line;
      is = ap (λ (zs : List ℤ). multiples_from zs (entry zs (choices_of spots.tableau line)) count spots.scales) (sym e)
          ∙ ap (λ (j : ℕ). multiples_from own (entry own j) count spots.scales) f ∙ stopped;
    })

-- a step of the line of a spot
pub spot_stop : (s : StrataQuestion) (spot : Spot) (terms : List Polynomial) (step : Step.Wide) → IsSpotAt s.columns.now s.cases.now spot → terms ≡ terms_of s.cases.now spot.case → line_at s.columns.now spot.at terms s.lower.now ≡ Err step → IsSearchStep s.columns.now s.cases.now s.lower.now step
spot_stop s spot terms step at e stopped = spot_step spot at (ap (λ (ts : List Polynomial). line_at s.columns.now spot.at ts s.lower.now) (sym e) ∙ stopped)

-- a step of the difference of a relation
pub difference_stop : (s : StrataQuestion) (case : Change) (numbers : List ℤ) (up : Bool) (step : Step.Wide) → IsAsked s → IsCaseOf s case → IsCandidate s.columns.now s.cases.now s.lower.now numbers → difference_made s.terms numbers up case.terms s.lower.now ≡ Err (wide step)
    → IsSearchStep s.columns.now s.cases.now s.lower.now step
difference_stop s case numbers up step is of candidate stopped = difference_step numbers up of.place case candidate of.is (ap (λ (n : ℕ). difference_made n numbers up case.terms s.lower.now) (sym is.terms) ∙ stopped)

pub search_stop : {X : Type 0} (s : StrataQuestion) (r : Result X SearchStop) → IfErr r (IsRefusalOf s) → IfErr r (StopsBy (IsSearchStep s.columns.now s.cases.now s.lower.now))
search_stop s (Ok x) h = tt
search_stop s (Err (Wide step)) h = h.is
search_stop s (Err Memory) h = tt
