-- A calm question of relations: the test of a basis of small numbers stays within 128 bits.
use Rattle.std.proofs.Common.{◌≡◌, ◌^◌, ◌<◌, ◌≤◌, List, [], ◌∷◌, length, map, Err, arith}
use Rattle.std.specs.Prelude.{All, ◌&&◌, ◌-◌}
use Rattle.std.specs.List.{AllByRecursion, list_all}
use Rattle.std.proofs.lemmas.List.Elements.{recursion_from_All}
use Rattle.whole_numbers.specs.declared.wide.Wide as Step
use Rattle.linear_terms.specs.declared.col.Col.{Col}
use Rattle.linear_terms.specs.Polynomial.{Polynomial}
use Rattle.farkas_check.specs.Calm.{row_frame, IsCalm, IsCalmStratum}
use Rattle.farkas_check.specs.Frames.{IsCalmUpTo}
use Rattle.farkas_check.specs.Kept.{IsCanonicalStratum}
use Rattle.farkas_check.specs.Parts.{and_then}
use Rattle.farkas_check.specs.Points.{ratio_at}
use Rattle.farkas_check.specs.Ratios.{Fraction}
use Rattle.farkas_check.specs.Relations.{Changes, stratum_columns, unknown_count, numbers_of, is_reduced, free_places}
use Rattle.farkas_check.specs.Sizes.{HasNumbersUpTo}
use Rattle.farkas_check.specs.Stratum.{has_unknowns, all_of, tested_relation, tested_spot, tested_free, spot_side, tested_basis}
use Rattle.farkas_check.specs.Tested.{outcome}
use Rattle.farkas_check.specs.declared.answer.Answer.{Answer}
use Rattle.farkas_check.specs.declared.answer.Answer.TheVariants as answer
use Rattle.farkas_check.specs.declared.question.Question.TheVariants.{Stratum}
use Rattle.farkas_check.specs.declared.stratum.Change.{Change}
use Rattle.farkas_check.specs.declared.stratum.Relation.{Relation}
use Rattle.farkas_check.specs.declared.stratum.Spot.{Spot}
use Rattle.farkas_check.proofs.Farkas.{both_true}
use Rattle.simplex.specs.Points.{IsSpotAt}
use Rattle.simplex.specs.SmallBasis.{IsSmallBasis, IsSmallFound, HasFewRows}
use Rattle.simplex.specs.Strata.{IsFoundOver}
use Rattle.simplex.proofs.CalmTies.{IsSmallCase, both-fit, second-fits, all_of-fits, relations-fit}
use Rattle.simplex.proofs.CalmUnits.{AreSmallSpots, spots-fit, free-fits}
use Rattle.simplex.proofs.Small.{HasValue}
use Rattle.simplex.proofs.SpotPoints.{spot_positive}
use Rattle.simplex.proofs.Tame.{no_error}
use Rattle.simplex.proofs.Units.{IsPositiveAt}

small_cases : (cs : List (List Col)) (cases : List Change) → AllByRecursion (λ (case : Change). AllByRecursion (HasNumbersUpTo 1048576) case.terms) cases → AllByRecursion (λ (case : Change). IsCalmUpTo 1048576 (row_frame cs case.rows)) cases → AllByRecursion HasFewRows cases → AllByRecursion (IsSmallCase cs) cases
small_cases cs [] terms rows few = tt
small_cases cs (case ∷ cases) terms rows few = (record { terms = terms.0; calm = rows.0; few = few.0.few }, small_cases cs cases terms.1 rows.1 few.1)

positive_spots : (cases : List Change) (lower : List Polynomial) (spots : List Spot) → IsCanonicalStratum cases lower → AllByRecursion (IsSpotAt (stratum_columns cases lower) cases) spots → AllByRecursion (λ (spot : Spot). IsPositiveAt (ratio_at (stratum_columns cases lower) spot.at)) spots
positive_spots cases lower [] k h = tt
positive_spots cases lower (spot ∷ spots) k h = (spot_positive cases lower spot k h.0, positive_spots cases lower spots k h.1)

basis-fits : (cases : List Change) (lower : List Polynomial) (relations : List Relation) (spots : List Spot) (free : List (List Fraction)) → IsCanonicalStratum cases lower → IsCalmStratum (stratum_columns cases lower) cases lower → AllByRecursion HasFewRows cases
    → AllByRecursion (IsSpotAt (stratum_columns cases lower) cases) spots → IsSmallBasis (stratum_columns cases lower) cases lower relations spots free → HasValue (tested_basis cases lower relations spots free)
basis-fits cases lower relations spots free k calm few points b =
    second-fits (list_all (has_unknowns cases lower) relations && is_reduced (map numbers_of relations))
    (and_then (all_of (tested_relation cs cases lower) relations) (and_then (all_of (tested_spot cs cases) spots) (tested_free (spot_side cs cases lower) spots (free_places (map numbers_of relations) (unknown_count cases lower)) free)))
    (λ e. both-fit (all_of (tested_relation cs cases lower) relations) (and_then (all_of (tested_spot cs cases) spots) (tested_free (spot_side cs cases lower) spots (free_places (map numbers_of relations) (unknown_count cases lower)) free))
    (all_of-fits (tested_relation cs cases lower) relations (relations-fit cs cases lower relations small calm.lower_terms (both_true (list_all (has_unknowns cases lower) relations) (is_reduced (map numbers_of relations)) e).0 b.few_unknowns b.relations_small))
    (both-fit (all_of (tested_spot cs cases) spots) (tested_free (spot_side cs cases lower) spots (free_places (map numbers_of relations) (unknown_count cases lower)) free)
    (all_of-fits (tested_spot cs cases) spots (spots-fit cases lower spots k small b.few_columns b.spots_small))
    (free-fits cs cases lower (unknown_count cases lower) spots b.lines b.scales (free_places (map numbers_of relations) (unknown_count cases lower)) free units b.free_small)))
  where
    cs : List (List Col)
    cs = stratum_columns cases lower

    small : AllByRecursion (IsSmallCase (stratum_columns cases lower)) cases
    small = small_cases (stratum_columns cases lower) cases calm.terms calm.rows few

    units : AreSmallSpots (stratum_columns cases lower) cases lower spots b.lines b.scales
    units = record {
      few = let each : length spots ≤ unknown_count cases lower = b.few_spots in let all : unknown_count cases lower < 2 ^ 61 = b.few_unknowns in omega (arith, each, all);
      positive = positive_spots cases lower spots k points;
      are = b.are_lines;
      lines_small = b.lines_small;
      scales_small = b.scales_small;
    }

-- on a calm question no step of the test of what is found leaves 128 bits
pub found_calm : (asked : Changes) (a : Answer) (w : Step.Wide) → IsCanonicalStratum asked.cases asked.lower → IsCalm (Stratum asked) → All HasFewRows asked.cases → IsFoundOver (stratum_columns asked.cases asked.lower) (2 ^ 127 - 1) asked.cases asked.lower a → IsSmallFound (stratum_columns asked.cases asked.lower) asked.cases asked.lower a
    → outcome (Stratum asked) a ≡ Err w → ⊥
found_calm asked (answer.Yes by) w k calm few h s e = h
found_calm asked (answer.No point) w k calm few h s e = h
found_calm asked (answer.Bound at certs case point) w k calm few h s e = h
found_calm asked (answer.Unbounded case point ray) w k calm few h s e = h
found_calm asked (answer.Limit l) w k calm few h s e = cc
found_calm asked (answer.Basis relations spots free) w k calm few h s e =
    no_error (tested_basis asked.cases asked.lower relations spots free) w (basis-fits asked.cases asked.lower relations spots free k calm.cases (recursion_from_All HasFewRows asked.cases few) h.points s) e
