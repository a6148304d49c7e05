use Rattle.std.proofs.Common.{rules, ◌≡◌, Err, inl, inr}
use Rattle.std.specs.Prelude.{IfErr}
use Rattle.simplex.specs.CalmStrata.{IsRefusalOf}
use Rattle.simplex.specs.Suprema.{IsSupremumOver}
use Rattle.simplex.specs.declared.supremum.Supremum.TheVariants as supremum
use Rattle.simplex.proofs.CalmHalves.{growing_value, growing_sums}
use Rattle.simplex.proofs.CalmSteps.{refusal_error}
use Rattle.simplex.proofs.Further.{case_given, bound_apart, ray_apart, further_way}
use Rattle.simplex.proofs.HonestTies.{tied_half}
use Rattle.simplex.proofs.SmallTies.{half_multipliers}
use Rattle.simplex.proofs.SpotPoints.{bound_point, ray_point}
use Rattle.simplex.specs.StrataSteps.{point_beyond, IsSearchStep, beyond_step}
use Rattle.simplex.proofs.Stops.{stops_weaker}
use Rattle.simplex.proofs.differences.half_at.Goals as goal

pub returns-in-Empty-clause-half : goal.returns-in-Empty-clause-half
returns-in-Empty-clause-half c =
    let came : IsSupremumOver c.args.strata.now.columns.now c.args.case.now.rows c.args.objective.now c.args.strata.now.budget supremum.Empty = search rules in
    record { objective = c.args.objective.now; why = inl came }

pub returns-in-Pivots-clause-half : goal.returns-in-Pivots-clause-half
returns-in-Pivots-clause-half c =
    let came : IsSupremumOver c.args.strata.now.columns.now c.args.case.now.rows c.args.objective.now c.args.strata.now.budget supremum.Pivots = search rules in
    record { objective = c.args.objective.now; why = inr came }

pub returns-in-Bound-clause-half : goal.returns-in-Bound-clause-half
returns-in-Bound-clause-half c =
    let came : IsSupremumOver c.args.strata.now.columns.now c.args.case.now.rows c.args.objective.now c.args.strata.now.budget (supremum.Bound c.in-Bound.cert c.in-Bound.point) = search rules in
    c.half_below.ensures.half c.args.strata.now c.args.numbers.now c.args.case.now c.args.up
    (bound_point c.args.strata.now.columns.now c.args.case.now.rows c.args.objective.now c.args.strata.now.budget c.in-Bound.cert c.in-Bound.point came)
    (bound_apart c.args.strata.now.columns.now c.args.case.now.rows c.args.case.now.terms c.args.strata.now.lower.now c.args.numbers.now c.args.up c.args.objective.now c.args.strata.now.budget c.in-Bound.cert c.in-Bound.point (case_given c.args.strata.now c.args.case.now c.requires.asked c.requires.case) c.requires.difference came)
    (tied_half c.args.strata.now.columns.now c.args.strata.now.lower.now c.args.numbers.now c.args.case.now c.args.strata.now.budget c.args.objective.now c.in-Bound.cert c.in-Bound.point c.args.up c.requires.difference came)

pub returns-in-Bound-clause-small : goal.returns-in-Bound-clause-small
returns-in-Bound-clause-small c =
    let came : IsSupremumOver c.args.strata.now.columns.now c.args.case.now.rows c.args.objective.now c.args.strata.now.budget (supremum.Bound c.in-Bound.cert c.in-Bound.point) = search rules in
    c.half_below.ensures.small c.args.strata.now
    (half_multipliers c.args.strata.now c.args.case.now c.args.numbers.now c.args.up c.args.objective.now c.args.strata.now.budget c.in-Bound.cert c.in-Bound.point c.requires.case c.requires.calm c.requires.difference came)

pub returns-in_ok-at-in-Unbounded-clause-half : goal.returns-in_ok-at-in-Unbounded-clause-half
returns-in_ok-at-in-Unbounded-clause-half c =
    let came : IsSupremumOver c.args.strata.now.columns.now c.args.case.now.rows c.args.objective.now c.args.strata.now.budget (supremum.Unbounded c.in-Unbounded.point c.in-Unbounded.ray) = search rules in
    record {
      point = ray_point c.args.strata.now.columns.now c.args.case.now.rows c.args.objective.now c.args.strata.now.budget c.in-Unbounded.point c.in-Unbounded.ray c.in_ok-at-in-Unbounded.at came (further_way c.args.strata.now.columns.now c.args.objective.now c.in-Unbounded.point c.in-Unbounded.ray c.in_ok-at-in-Unbounded.at c.in_ok-at-in-Unbounded.ensures.point);
      apart = ray_apart c.args.strata.now.columns.now c.args.case.now.rows c.args.case.now.terms c.args.strata.now.lower.now c.args.numbers.now c.args.up c.args.objective.now c.args.strata.now.budget c.in-Unbounded.point c.in-Unbounded.ray c.in_ok-at-in-Unbounded.at (case_given c.args.strata.now c.args.case.now c.requires.asked c.requires.case) c.requires.difference came c.in_ok-at-in-Unbounded.ensures.point;
    }

pub returns-in_err-at-in-Unbounded-clause-refusal : goal.returns-in_err-at-in-Unbounded-clause-refusal
returns-in_err-at-in-Unbounded-clause-refusal c =
    let came : IsSupremumOver c.args.strata.now.columns.now c.args.case.now.rows c.args.objective.now c.args.strata.now.budget (supremum.Unbounded c.in-Unbounded.point c.in-Unbounded.ray) = search rules in
    let known : IfErr c.point_apart.result (IsRefusalOf c.args.strata.now) =
    refusal_error c.args.strata.now c.point_apart.result c.point_apart.ensures.refusal
    (λ calm.
    let value = growing_value c.args.strata.now c.args.case.now c.args.numbers.now c.args.up c.args.objective.now c.args.strata.now.budget c.in-Unbounded.point c.in-Unbounded.ray c.requires.asked c.requires.asked.few_columns c.requires.case c.requires.calm c.requires.difference came calm in
    let sums = growing_sums c.args.strata.now c.args.case.now c.args.objective.now c.args.strata.now.budget c.in-Unbounded.point c.in-Unbounded.ray c.requires.case came calm in
    c.point_apart.ensures.calm value.0 sums.0 value.1 sums.1)
    (stops_weaker (λ step. point_beyond c.args.strata.now.columns.now c.args.objective.now c.in-Unbounded.point c.in-Unbounded.ray ≡ Err step) (IsSearchStep c.args.strata.now.columns.now c.args.strata.now.cases.now c.args.strata.now.lower.now) c.point_apart.result c.point_apart.ensures.step
    (λ step e. beyond_step c.args.numbers.now c.args.up c.requires.case.place c.args.case.now c.args.objective.now c.args.strata.now.budget c.in-Unbounded.point c.in-Unbounded.ray c.requires.candidate c.requires.case.is c.requires.difference came e)) in search rules
