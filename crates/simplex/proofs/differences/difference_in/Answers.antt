use Rattle.std.proofs.Common.{rules, ◌≡◌, Ok, List, take, drop, ℤ}
use Rattle.std.specs.Prelude.{IfErr, not}
use Rattle.items.specs.Gives.{Gives}
use Rattle.simplex.specs.CalmStrata.{IsRefusalOf}
use Rattle.simplex.specs.Exchange.{cause, line_multiple}
use Rattle.simplex.specs.Raise.{sign_of}
use Rattle.simplex.proofs.CalmHalves.{first_small, last_small, signed_small}
use Rattle.simplex.proofs.CalmSteps.{refusal_error, gives_memory}
use Rattle.simplex.specs.StrataSteps.{IsSearchStep}
use Rattle.simplex.proofs.Stops.{gives_stop}
use Rattle.simplex.proofs.StrataStops.{first_numbers_stop, last_numbers_stop, difference_stop}
use Rattle.simplex.proofs.differences.difference_in.Goals as goal

pub returns-in_err-own-clause-refusal : goal.returns-in_err-own-clause-refusal
returns-in_err-own-clause-refusal c =
    let given : Gives cause (λ (made : List ℤ). made) c.line_multiple.result (line_multiple (take c.args.strata.now.terms c.args.numbers.now) (sign_of c.args.up)) = search rules in
    let known : IfErr c.line_multiple.result (IsRefusalOf c.args.strata.now) =
    refusal_error c.args.strata.now c.line_multiple.result c.line_multiple.ensures.refusal
    (λ calm.
    let v = signed_small (take c.args.strata.now.terms c.args.numbers.now) c.args.up (first_small c.args.strata.now.terms c.args.numbers.now (c.requires.calm.small calm)) in
    gives_memory (λ (made : List ℤ). made) c.line_multiple.result (line_multiple (take c.args.strata.now.terms c.args.numbers.now) (sign_of c.args.up)) given (v.0, v.1.0))
    (gives_stop (IsSearchStep c.args.strata.now.columns.now c.args.strata.now.cases.now c.args.strata.now.lower.now) (λ (made : List ℤ). made) c.line_multiple.result (line_multiple (take c.args.strata.now.terms c.args.numbers.now) (sign_of c.args.up)) given
    (λ step e. difference_stop c.args.strata.now c.args.case.now c.args.numbers.now c.args.up step c.requires.asked c.requires.case c.requires.candidate (first_numbers_stop c.args.strata.now.terms c.args.numbers.now c.args.up c.args.case.now.terms c.args.strata.now.lower.now step e))) in search rules

pub returns-in_err-others-clause-refusal : goal.returns-in_err-others-clause-refusal
returns-in_err-others-clause-refusal c =
    let given : Gives cause (λ (made : List ℤ). made) c.line_multiple-2.result (line_multiple (drop c.args.strata.now.terms c.args.numbers.now) (sign_of (not c.args.up))) = search rules in
    let own : line_multiple (take c.args.strata.now.terms c.args.numbers.now) (sign_of c.args.up) ≡ Ok c.in_ok-own.own = search rules in
    let known : IfErr c.line_multiple-2.result (IsRefusalOf c.args.strata.now) =
    refusal_error c.args.strata.now c.line_multiple-2.result c.line_multiple-2.ensures.refusal
    (λ calm.
    let v = signed_small (drop c.args.strata.now.terms c.args.numbers.now) (not c.args.up) (last_small c.args.strata.now.terms c.args.numbers.now (c.requires.calm.small calm)) in
    gives_memory (λ (made : List ℤ). made) c.line_multiple-2.result (line_multiple (drop c.args.strata.now.terms c.args.numbers.now) (sign_of (not c.args.up))) given (v.0, v.1.0))
    (gives_stop (IsSearchStep c.args.strata.now.columns.now c.args.strata.now.cases.now c.args.strata.now.lower.now) (λ (made : List ℤ). made) c.line_multiple-2.result (line_multiple (drop c.args.strata.now.terms c.args.numbers.now) (sign_of (not c.args.up))) given
    (λ step e. difference_stop c.args.strata.now c.args.case.now c.args.numbers.now c.args.up step c.requires.asked c.requires.case c.requires.candidate (last_numbers_stop c.args.strata.now.terms c.args.numbers.now c.args.up c.args.case.now.terms c.args.strata.now.lower.now c.in_ok-own.own step own e))) in search rules
