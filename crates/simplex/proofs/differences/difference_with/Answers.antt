use Rattle.std.proofs.Common.{rules, ◌≡◌, Ok, Err, List, length, pos, ap, sym, ◌∙◌}
use Rattle.std.specs.Prelude.{IfErr}
use Rattle.linear_terms.specs.Operations.{sum_of_polys}
use Rattle.linear_terms.specs.Polynomial.{Polynomial, constant_of}
use Rattle.simplex.specs.CalmStrata.{IsRefusalOf}
use Rattle.simplex.specs.Differences.{with_multiples}
use Rattle.simplex.proofs.CalmHalves.{IsReady, first_sum, second_sum, third_sum}
use Rattle.simplex.proofs.CalmSteps.{refusal_error}
use Rattle.simplex.proofs.RaisedDifferences.{asked_difference}
use Rattle.linear_terms.specs.TermError.{wide}
use Rattle.simplex.specs.StrataSteps.{StopsSum, IsSearchStep}
use Rattle.simplex.proofs.Stops.{stops_weaker}
use Rattle.simplex.proofs.StrataStops.{terms_stop, sides_stop, last_stops, numbers_made, difference_stop}
use Rattle.simplex.proofs.differences.difference_with.Goals as goal

pub returns-clause-difference : goal.returns-clause-difference
returns-clause-difference c =
    asked_difference c.args.strata.now c.args.case.now c.args.numbers.now c.args.up c.in_ok-made.made c.requires.asked c.requires.case c.requires.count c.requires.numbers
    (record {
      own = c.args.own.now;
      others = c.args.others.now;
      first = c.in_ok-terms.terms;
      second = c.in_ok-sides.sides;
      own_is = c.requires.own;
      others_is = c.requires.others;
      first_is = (search rules);
      second_is = (search rules);
      is = (search rules);
    })

pub returns-in_err-terms-clause-refusal : goal.returns-in_err-terms-clause-refusal
returns-in_err-terms-clause-refusal c =
    let terms_are : c.as_slice.result.now ≡ c.args.case.now.terms = search rules in
    let zero_is : c.constant-zero.result ≡ constant_of (pos 0) = search rules in
    let known : IfErr c.with_multiples.result (IsRefusalOf c.args.strata.now) =
    refusal_error c.args.strata.now c.with_multiples.result c.with_multiples.ensures.refusal
    (λ calm.
    let ready : IsReady c.args.strata.now c.args.case.now c.args.numbers.now = record { asked = c.requires.asked; of = c.requires.case; many = c.requires.numbers; few = c.requires.few; calm = calm; small = c.requires.calm.small calm } in
    let v = first_sum c.args.strata.now c.args.case.now c.args.numbers.now c.args.own.now c.args.up c.constant-zero.result ready zero_is c.requires.own in
    c.with_multiples.ensures.calm v.0 (ap (λ (ps : List Polynomial). with_multiples c.constant-zero.result c.args.own.now ps) terms_are ∙ v.1.0))
    (stops_weaker (λ step. with_multiples c.constant-zero.result c.args.own.now c.as_slice.result.now ≡ Err (wide step)) (IsSearchStep c.args.strata.now.columns.now c.args.strata.now.cases.now c.args.strata.now.lower.now) c.with_multiples.result c.with_multiples.ensures.step
    (λ step e. difference_stop c.args.strata.now c.args.case.now c.args.numbers.now c.args.up step c.requires.asked c.requires.case c.requires.candidate
    (numbers_made c.args.strata.now.terms c.args.numbers.now c.args.up c.args.case.now.terms c.args.strata.now.lower.now c.args.own.now c.args.others.now step c.requires.own c.requires.others (terms_stop c.args.own.now c.args.others.now c.args.case.now.terms c.args.strata.now.lower.now c.constant-zero.result step zero_is (ap (λ (ps : List Polynomial). with_multiples c.constant-zero.result c.args.own.now ps) (sym terms_are) ∙ e))))) in search rules

pub returns-in_err-sides-clause-refusal : goal.returns-in_err-sides-clause-refusal
returns-in_err-sides-clause-refusal c =
    let zero_is : c.constant-zero.result ≡ constant_of (pos 0) = search rules in
    let terms : with_multiples c.constant-zero.result c.args.own.now c.args.case.now.terms ≡ Ok c.in_ok-terms.terms = search rules in
    let known : IfErr c.with_multiples-2.result (IsRefusalOf c.args.strata.now) =
    refusal_error c.args.strata.now c.with_multiples-2.result c.with_multiples-2.ensures.refusal
    (λ calm.
    let ready : IsReady c.args.strata.now c.args.case.now c.args.numbers.now = record { asked = c.requires.asked; of = c.requires.case; many = c.requires.numbers; few = c.requires.few; calm = calm; small = c.requires.calm.small calm } in
    let v = second_sum c.args.strata.now c.args.case.now c.args.numbers.now c.args.own.now c.args.others.now c.args.up c.constant-zero.result c.in_ok-terms.terms ready zero_is c.requires.own c.requires.others terms in
    c.with_multiples-2.ensures.calm v.0 v.1.0)
    (stops_weaker (λ step. with_multiples c.in_ok-terms.terms c.args.others.now c.args.strata.now.lower.now ≡ Err (wide step)) (IsSearchStep c.args.strata.now.columns.now c.args.strata.now.cases.now c.args.strata.now.lower.now) c.with_multiples-2.result c.with_multiples-2.ensures.step
    (λ step e. difference_stop c.args.strata.now c.args.case.now c.args.numbers.now c.args.up step c.requires.asked c.requires.case c.requires.candidate
    (numbers_made c.args.strata.now.terms c.args.numbers.now c.args.up c.args.case.now.terms c.args.strata.now.lower.now c.args.own.now c.args.others.now step c.requires.own c.requires.others (sides_stop c.args.own.now c.args.others.now c.args.case.now.terms c.args.strata.now.lower.now c.constant-zero.result c.in_ok-terms.terms step zero_is terms e)))) in search rules

pub returns-in_err-made-clause-refusal : goal.returns-in_err-made-clause-refusal
returns-in_err-made-clause-refusal c =
    let zero_is : c.constant-zero.result ≡ constant_of (pos 0) = search rules in
    let terms : with_multiples c.constant-zero.result c.args.own.now c.args.case.now.terms ≡ Ok c.in_ok-terms.terms = search rules in
    let sides : with_multiples c.in_ok-terms.terms c.args.others.now c.args.strata.now.lower.now ≡ Ok c.in_ok-sides.sides = search rules in
    let stopped : IfErr c.with_rest.result (StopsSum (sum_of_polys c.in_ok-sides.sides (constant_of c.entry-last.result))) = search rules in
    let known : IfErr c.with_rest.result (IsRefusalOf c.args.strata.now) =
    refusal_error c.args.strata.now c.with_rest.result c.with_rest.ensures.refusal
    (λ calm.
    let ready : IsReady c.args.strata.now c.args.case.now c.args.numbers.now = record { asked = c.requires.asked; of = c.requires.case; many = c.requires.numbers; few = c.requires.few; calm = calm; small = c.requires.calm.small calm } in
    let v = third_sum c.args.strata.now c.args.case.now c.args.numbers.now c.args.own.now c.args.others.now c.args.up c.constant-zero.result c.in_ok-terms.terms c.in_ok-sides.sides c.entry-last.result (length c.args.strata.now.lower.now) ready zero_is c.requires.own c.requires.others terms sides c.entry-last.ensures in
    let given : sum_of_polys c.in_ok-sides.sides (constant_of c.entry-last.result) ≡ Ok v.0 = v.1 in
    c.with_rest.ensures.calm v.0 (search rules))
    (stops_weaker (λ step. sum_of_polys c.in_ok-sides.sides (constant_of c.entry-last.result) ≡ Err (wide step)) (IsSearchStep c.args.strata.now.columns.now c.args.strata.now.cases.now c.args.strata.now.lower.now) c.with_rest.result stopped
    (λ step e. difference_stop c.args.strata.now c.args.case.now c.args.numbers.now c.args.up step c.requires.asked c.requires.case c.requires.candidate
    (numbers_made c.args.strata.now.terms c.args.numbers.now c.args.up c.args.case.now.terms c.args.strata.now.lower.now c.args.own.now c.args.others.now step c.requires.own c.requires.others (last_stops c.args.own.now c.args.others.now c.args.case.now.terms c.args.strata.now.lower.now c.constant-zero.result c.in_ok-terms.terms c.in_ok-sides.sides c.entry-last.result step zero_is terms sides c.entry-last.ensures e)))) in search rules
