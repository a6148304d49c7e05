use Rattle.std.proofs.Common.{rules, ◌≡◌, List, ℤ, Ok, Err, ap, sym, ◌∙◌}
use Rattle.std.specs.Prelude.{IfErr}
use Rattle.items.specs.Gives.{Gives}
use Rattle.farkas_check.specs.Points.{ratio_at, ratio_value}
use Rattle.farkas_check.specs.Ratios.{Fraction}
use Rattle.farkas_check.specs.Stratum.{minus_value}
use Rattle.simplex.specs.CalmStrata.{IsStray, IsRefusalOf}
use Rattle.simplex.specs.Exchange.{cause}
use Rattle.simplex.specs.Spots.{values_of, AreSideValues, common_denominator, numerators_over}
use Rattle.simplex.proofs.CalmSteps.{refusal_error, step_error, gives_memory, never_is, scale_fits, line_fits}
use Rattle.simplex.specs.StrataSteps.{line_at, IsSearchStep}
use Rattle.simplex.proofs.Stops.{stops_weaker, gives_stop, exact_step}
use Rattle.simplex.proofs.StrataStops.{common_stops, over_stops, values_stop, spot_stop}
use Rattle.simplex.proofs.spots.spot_line.Goals as goal

pub returns-clause-line : goal.returns-clause-line
returns-clause-line c = record { values = c.in_ok-values.values; are = (search rules); scale_is = (search rules); line_is = (search rules) }

pub returns-in_err-values-clause-refusal : goal.returns-in_err-values-clause-refusal
returns-in_err-values-clause-refusal c =
    let known : IfErr c.side_values.result (IsRefusalOf c.args.strata.now) =
    refusal_error c.args.strata.now c.side_values.result c.side_values.ensures.refusal (λ calm.
    let l = c.requires.calm.made calm in
    let own : c.as_slice.result.now ≡ c.args.spot.now.at = search rules in
    c.side_values.ensures.calm l.1.1.are.own l.1.1.are.others (ap (λ (at : List Fraction). values_of (ratio_value (ratio_at c.args.strata.now.columns.now at)) c.args.terms.now) own ∙ l.1.1.are.own_is) (ap (λ (at : List Fraction). values_of (minus_value (ratio_value (ratio_at c.args.strata.now.columns.now at))) c.args.strata.now.lower.now) own ∙ l.1.1.are.others_is))
    (let own : c.as_slice.result.now ≡ c.args.spot.now.at = search rules in
    stops_weaker (λ step. line_at c.args.strata.now.columns.now c.as_slice.result.now c.args.terms.now c.args.strata.now.lower.now ≡ Err step) (IsSearchStep c.args.strata.now.columns.now c.args.strata.now.cases.now c.args.strata.now.lower.now) c.side_values.result c.side_values.ensures.step
    (λ step e. spot_stop c.args.strata.now c.args.spot.now c.args.terms.now step c.requires.point c.requires.terms (ap (λ (at : List Fraction). line_at c.args.strata.now.columns.now at c.args.terms.now c.args.strata.now.lower.now) (sym own) ∙ e))) in search rules

pub returns-in_err-scale-clause-refusal : goal.returns-in_err-scale-clause-refusal
returns-in_err-scale-clause-refusal c =
    let values : AreSideValues c.args.strata.now.columns.now c.args.spot.now.at c.args.terms.now c.args.strata.now.lower.now c.in_ok-values.values = search rules in
    let known : IfErr c.common_denominator.result (IsStray c.args.strata.now) =
    step_error c.args.strata.now c.common_denominator.result c.common_denominator.ensures.width
    (λ calm. never_is c.common_denominator.result (common_denominator c.in_ok-values.values) (search rules) (scale_fits c.args.strata.now.columns.now c.args.spot.now.at c.args.terms.now c.args.strata.now.lower.now c.in_ok-values.values values (c.requires.calm.made calm)))
    (exact_step (IsSearchStep c.args.strata.now.columns.now c.args.strata.now.cases.now c.args.strata.now.lower.now) c.common_denominator.result (common_denominator c.in_ok-values.values) (search rules)
    (λ step e. spot_stop c.args.strata.now c.args.spot.now c.args.terms.now step c.requires.point c.requires.terms (values_stop c.args.strata.now.columns.now c.args.spot.now.at c.args.terms.now c.args.strata.now.lower.now c.in_ok-values.values step values (common_stops c.in_ok-values.values step e)))) in search rules

pub returns-in_err-line-clause-refusal : goal.returns-in_err-line-clause-refusal
returns-in_err-line-clause-refusal c =
    let values : AreSideValues c.args.strata.now.columns.now c.args.spot.now.at c.args.terms.now c.args.strata.now.lower.now c.in_ok-values.values = search rules in
    let scale : common_denominator c.in_ok-values.values ≡ Ok c.in_ok-scale.scale = search rules in
    let given : Gives cause (λ (made : List ℤ). made) c.numerators_over.result (numerators_over c.in_ok-scale.scale c.in_ok-values.values) = search rules in
    let known : IfErr c.numerators_over.result (IsRefusalOf c.args.strata.now) =
    refusal_error c.args.strata.now c.numerators_over.result c.numerators_over.ensures.refusal
    (λ calm. gives_memory (λ (made : List ℤ). made) c.numerators_over.result (numerators_over c.in_ok-scale.scale c.in_ok-values.values) given (line_fits c.args.strata.now.columns.now c.args.spot.now.at c.args.terms.now c.args.strata.now.lower.now c.in_ok-values.values c.in_ok-scale.scale values scale (c.requires.calm.made calm)))
    (gives_stop (IsSearchStep c.args.strata.now.columns.now c.args.strata.now.cases.now c.args.strata.now.lower.now) (λ (made : List ℤ). made) c.numerators_over.result (numerators_over c.in_ok-scale.scale c.in_ok-values.values) given
    (λ step e. spot_stop c.args.strata.now c.args.spot.now c.args.terms.now step c.requires.point c.requires.terms (values_stop c.args.strata.now.columns.now c.args.spot.now.at c.args.terms.now c.args.strata.now.lower.now c.in_ok-values.values step values (over_stops c.in_ok-values.values c.in_ok-scale.scale step scale e)))) in search rules
