use Rattle.std.proofs.Common.{rules, ◌≡◌, List, Ok, Err, pos, ap, ℤ}
use Rattle.std.specs.Prelude.{IfErr}
use Rattle.std.specs.Ordering.{int_eq}
use Rattle.items.specs.Gives.{Gives}
use Rattle.farkas_check.specs.Points.{ratio_at, ratio_value}
use Rattle.farkas_check.specs.Ratios.{Fraction}
use Rattle.simplex.specs.Exchange.{cause}
use Rattle.simplex.specs.Spots.{sums_of}
use Rattle.simplex.specs.StrataSteps.{point_beyond}
use Rattle.simplex.proofs.Stops.{gives_stop, exact_step}
use Rattle.simplex.proofs.StrataStops.{value_stops, sums_stop}
use Rattle.simplex.proofs.differences.point_apart.Goals as goal

pub returns-in_err-value-clause-step : goal.returns-in_err-value-clause-step
returns-in_err-value-clause-step c =
    let cs = c.args.columns.now in
    let p = c.args.objective.now in
    let known : IfErr c.value_at.result (λ step. point_beyond cs p c.args.point c.args.ray ≡ Err step) =
    exact_step (λ step. point_beyond cs p c.args.point c.args.ray ≡ Err step) c.value_at.result (ratio_value (ratio_at cs c.args.point) p) (search rules)
    (λ step e. value_stops cs p c.args.point c.args.ray step e) in search rules

pub returns-clause-step : goal.returns-clause-step
returns-clause-step c =
    let cs = c.args.columns.now in
    let p = c.args.objective.now in
    let value : ratio_value (ratio_at cs c.args.point) p ≡ Ok c.in_ok-value.value = search rules in
    let zero_num : c.in_ok-value.value.num ≡ pos 0 = search rules in
    let given : Gives cause (λ (made : List Fraction). made) c.sums_of.result (sums_of c.args.point c.args.ray) = search rules in
    gives_stop (λ step. point_beyond cs p c.args.point c.args.ray ≡ Err step) (λ (made : List Fraction). made) c.sums_of.result (sums_of c.args.point c.args.ray) given
    (λ step e. sums_stop cs p c.args.point c.args.ray c.in_ok-value.value step value (ap (λ (z : ℤ). int_eq z (pos 0)) zero_num) e)
