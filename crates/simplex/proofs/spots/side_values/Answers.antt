use Rattle.std.proofs.Common.{rules, ◌≡◌, List, Ok, Err}
use Rattle.std.specs.Prelude.{IfErr}
use Rattle.items.specs.Gives.{Gives}
use Rattle.farkas_check.specs.Points.{ratio_at, ratio_value}
use Rattle.farkas_check.specs.Ratios.{Fraction}
use Rattle.farkas_check.specs.Stratum.{minus_value}
use Rattle.simplex.specs.Exchange.{cause}
use Rattle.simplex.specs.SearchSteps.{StopsAt}
use Rattle.simplex.specs.Spots.{values_of}
use Rattle.simplex.specs.StrataSteps.{line_at}
use Rattle.simplex.proofs.Stops.{gives_stop}
use Rattle.simplex.proofs.StrataStops.{own_stops, others_stop}
use Rattle.simplex.proofs.spots.side_values.Goals as goal

pub returns-in_err-own-clause-step : goal.returns-in_err-own-clause-step
returns-in_err-own-clause-step c =
    let cs = c.args.columns.now in
    let at = c.args.point.now in
    let given : Gives cause (λ (made : List Fraction). made) c.term_values.result (values_of (ratio_value (ratio_at cs at)) c.args.terms.now) = search rules in
    let known : IfErr c.term_values.result (StopsAt (line_at cs at c.args.terms.now c.args.lower.now)) =
    gives_stop (λ step. line_at cs at c.args.terms.now c.args.lower.now ≡ Err step) (λ (made : List Fraction). made) c.term_values.result (values_of (ratio_value (ratio_at cs at)) c.args.terms.now) given
    (λ step e. own_stops cs at c.args.terms.now c.args.lower.now step e) in search rules

pub returns-in_err-others-clause-step : goal.returns-in_err-others-clause-step
returns-in_err-others-clause-step c =
    let cs = c.args.columns.now in
    let at = c.args.point.now in
    let own : values_of (ratio_value (ratio_at cs at)) c.args.terms.now ≡ Ok c.in_ok-own.own = search rules in
    let given : Gives cause (λ (made : List Fraction). made) c.lower_values.result (values_of (minus_value (ratio_value (ratio_at cs at))) c.args.lower.now) = search rules in
    let known : IfErr c.lower_values.result (StopsAt (line_at cs at c.args.terms.now c.args.lower.now)) =
    gives_stop (λ step. line_at cs at c.args.terms.now c.args.lower.now ≡ Err step) (λ (made : List Fraction). made) c.lower_values.result (values_of (minus_value (ratio_value (ratio_at cs at))) c.args.lower.now) given
    (λ step e. others_stop cs at c.args.terms.now c.args.lower.now c.in_ok-own.own step own e) in search rules
