use Rattle.std.proofs.Common.{rules, ◌≡◌, ◌+◌, ◌<◌, ◌≤◌, length, true, sym, subst, arith, Ok, ℤ, List}
use Rattle.std.specs.Prelude.{IfErr}
use Rattle.items.specs.Gives.{Gives}
use Rattle.simplex.specs.Exchange.{cause, IsTableauOf}
use Rattle.simplex.specs.Raise.{Framed}
use Rattle.simplex.specs.Spots.{common_denominator, numerators_over}
use Rattle.simplex.specs.CalmStrata.{IsStrayUnder, IsRefusalUnder, IsLinesStep, lines_ratio, lines_relation}
use Rattle.simplex.specs.SearchSteps.{StopsBy, IsSlopeStep}
use Rattle.simplex.specs.Suprema.{IsRayOf}
use Rattle.simplex.proofs.CalmReads.{spots_small, relation_common}
use Rattle.simplex.proofs.CalmSteps.{error_under, step_under, gives_memory, never_is}
use Rattle.simplex.proofs.Echelons.{relation-given}
use Rattle.simplex.proofs.Numerators.{common-fits, over-fits}
use Rattle.simplex.proofs.SpotFrames.{numerators-count}
use Rattle.simplex.proofs.Stops.{stops_weaker, gives_stop, exact_step}
use Rattle.simplex.proofs.StrataStops.{common_stops, over_stops}
use Rattle.simplex.proofs.spots.relation_of.Goals as goal

pub ray-requires : goal.ray-requires
ray-requires g c =
    let here : c.args.unknown < c.args.count = c.requires.1.1.0 in (
      subst (λ (over : Framed). IsTableauOf over.units over.frame c.args.known.now.tableau) (sym c.requires.0) c.requires.1.0.tableau.tableau,
      (subst (λ (over : Framed). c.args.count ≤ over.units) (sym c.requires.0) (omega arith), subst (λ (over : Framed). c.args.unknown < over.units + length c.args.known.now.tableau.lines) (sym c.requires.0) (omega (arith, here))),
    )

pub returns-clause-count : goal.returns-clause-count
returns-clause-count g c =
    let own : length c.as_slice-2.result.now ≡ c.args.count = search rules in
    let given : Gives cause (λ (made : List ℤ). made) c.numerators_over.result (numerators_over c.in_ok-scale.scale c.as_slice-2.result.now) = search rules in
    numerators-count c.numerators_over.result c.in_ok-scale.scale c.as_slice-2.result.now c.args.count given own

pub returns-clause-relation : goal.returns-clause-relation
returns-clause-relation g c =
    let along : IsRayOf c.args.known.now.tableau c.args.unknown true c.args.count c.as_slice-2.result.now = search rules in
    let common : common_denominator c.as_slice-2.result.now ≡ Ok c.in_ok-scale.scale = search rules in
    let given : Gives cause (λ (made : List ℤ). made) c.numerators_over.result (numerators_over c.in_ok-scale.scale c.as_slice-2.result.now) = search rules in
    relation-given c.numerators_over.result c.args.count c.args.known.now.tableau c.args.unknown c.as_slice-2.result.now c.in_ok-scale.scale c.requires.1.1.0 along common given

pub returns-in_err-ratios-clause-refusal : goal.returns-in_err-ratios-clause-refusal
returns-in_err-ratios-clause-refusal g c =
    let known : IfErr c.ray.result (IsRefusalUnder c.args.count c.args.known.now.lines) =
    error_under c.args.count c.args.known.now.lines c.ray.result c.ray.ensures.refusal (λ calm. c.ray.ensures.calm 1048576 (omega arith) (spots_small c.args.count c.args.known.now c.requires.1.0 calm)) in search rules

pub returns-in_err-scale-clause-refusal : goal.returns-in_err-scale-clause-refusal
returns-in_err-scale-clause-refusal g c =
    let along : IsRayOf c.args.known.now.tableau c.args.unknown true c.args.count c.as_slice.result.now = search rules in
    let known : IfErr c.common_denominator.result (IsStrayUnder c.args.count c.args.known.now.lines) =
    step_under c.args.count c.args.known.now.lines c.common_denominator.result c.common_denominator.ensures.width
    (λ calm.
    let h = relation_common c.args.count c.args.known.now c.args.unknown c.as_slice.result.now c.requires.1.0 c.requires.1.1.0 c.requires.1.1.1 along calm in
    never_is c.common_denominator.result (common_denominator c.as_slice.result.now) c.common_denominator.ensures.exact (common-fits 1048576 h.over c.as_slice.result.now h.positive h.over_small h.below)) in search rules

pub returns-clause-refusal : goal.returns-clause-refusal
returns-clause-refusal g c =
    let along : IsRayOf c.args.known.now.tableau c.args.unknown true c.args.count c.as_slice-2.result.now = search rules in
    let common : common_denominator c.as_slice-2.result.now ≡ Ok c.in_ok-scale.scale = search rules in
    let given : Gives cause (λ (made : List ℤ). made) c.numerators_over.result (numerators_over c.in_ok-scale.scale c.as_slice-2.result.now) = search rules in
    error_under c.args.count c.args.known.now.lines c.numerators_over.result c.numerators_over.ensures.refusal
    (λ calm.
    let h = relation_common c.args.count c.args.known.now c.args.unknown c.as_slice-2.result.now c.requires.1.0 c.requires.1.1.0 c.requires.1.1.1 along calm in
    gives_memory (λ (made : List ℤ). made) c.numerators_over.result (numerators_over c.in_ok-scale.scale c.as_slice-2.result.now) given (over-fits 1048576 h.over c.in_ok-scale.scale c.as_slice-2.result.now h.positive common h.below (omega arith)))

pub returns-in_err-ratios-clause-step : goal.returns-in_err-ratios-clause-step
returns-in_err-ratios-clause-step g c =
    let known : IfErr c.ray.result (StopsBy (IsLinesStep c.args.count c.args.known.now.lines)) =
    stops_weaker (IsSlopeStep c.args.known.now.tableau c.args.unknown true) (IsLinesStep c.args.count c.args.known.now.lines) c.ray.result c.ray.ensures.step
    (λ step s. lines_ratio c.args.known.now.tableau c.args.unknown c.requires.1.0.tableau s) in search rules

pub returns-in_err-scale-clause-step : goal.returns-in_err-scale-clause-step
returns-in_err-scale-clause-step g c =
    let along : IsRayOf c.args.known.now.tableau c.args.unknown true c.args.count c.as_slice.result.now = search rules in
    let known : IfErr c.common_denominator.result (IsLinesStep c.args.count c.args.known.now.lines) =
    exact_step (IsLinesStep c.args.count c.args.known.now.lines) c.common_denominator.result (common_denominator c.as_slice.result.now) c.common_denominator.ensures.exact
    (λ step e. lines_relation c.args.known.now.tableau c.args.unknown c.as_slice.result.now c.requires.1.0.tableau along (common_stops c.as_slice.result.now step e)) in search rules

pub returns-clause-step : goal.returns-clause-step
returns-clause-step g c =
    let along : IsRayOf c.args.known.now.tableau c.args.unknown true c.args.count c.as_slice-2.result.now = search rules in
    let common : common_denominator c.as_slice-2.result.now ≡ Ok c.in_ok-scale.scale = search rules in
    let given : Gives cause (λ (made : List ℤ). made) c.numerators_over.result (numerators_over c.in_ok-scale.scale c.as_slice-2.result.now) = search rules in
    gives_stop (IsLinesStep c.args.count c.args.known.now.lines) (λ (made : List ℤ). made) c.numerators_over.result (numerators_over c.in_ok-scale.scale c.as_slice-2.result.now) given
    (λ step e. lines_relation c.args.known.now.tableau c.args.unknown c.as_slice-2.result.now c.requires.1.0.tableau along (over_stops c.as_slice-2.result.now c.in_ok-scale.scale step common e))
