use Rattle.std.proofs.Common.{rules, ◌≡◌, ◌<◌, [], ℤ, List, Ok, length, get_or, subst, sym}
use Rattle.std.specs.Prelude.{IfErr}
use Rattle.std.proofs.lemmas.List.{get_or_read}
use Rattle.items.specs.Gives.{Gives}
use Rattle.farkas_check.specs.Ratios.{Fraction}
use Rattle.farkas_check.specs.Relations.{entry}
use Rattle.simplex.specs.Calm.{IsSmallLine}
use Rattle.simplex.specs.CalmStrata.{IsRefusalUnder, IsUnitStep}
use Rattle.simplex.specs.SearchSteps.{StopsBy}
use Rattle.simplex.specs.Exchange.{cause, choices_of}
use Rattle.simplex.specs.Spots.{multiples_from}
use Rattle.simplex.proofs.CalmReads.{spots_small, multiples-fit}
use Rattle.simplex.proofs.CalmSteps.{error_under, gives_memory}
use Rattle.simplex.proofs.StrataStops.{units_stop_at}
use Rattle.simplex.proofs.Units.{unit_added, unit_skipped}
use Rattle.simplex.proofs.spots.with_unit.Goals as goal

pub returns-in_ok-push-in-Some-clause-lists : goal.returns-in_ok-push-in-Some-clause-lists
returns-in_ok-push-in-Some-clause-lists c =
    let here : c.in-Some.line < length c.args.known.now.tableau.lines = search rules in
    let chosen : choices_of c.args.known.now.tableau c.in-Some.line ≡ c.args.unknown = search rules in
    let own : c.as_slice-own.result.now ≡ get_or c.args.known.now.tableau.lines c.in-Some.line [] = get_or_read c.args.known.now.tableau.lines c.in-Some.line c.as_slice-own.result.now here (search rules) [] in
    let exact : multiples_from c.as_slice-own.result.now (entry c.as_slice-own.result.now c.args.unknown) c.args.count c.args.known.now.scales ≡ Ok c.in_ok-by-in-Some.by = search rules in
    unit_added c.args.count c.args.known.now c.args.unknown c.in-Some.line c.args.made c.push.new.self c.in_ok-by-in-Some.by here chosen
    (subst (λ (line : List ℤ). multiples_from line (entry line c.args.unknown) c.args.count c.args.known.now.scales ≡ Ok c.in_ok-by-in-Some.by) own exact) c.requires.before (search rules)

pub returns-in-None-clause-lists : goal.returns-in-None-clause-lists
returns-in-None-clause-lists c = unit_skipped c.args.count c.args.known.now c.args.unknown c.args.made (search rules) c.requires.before

pub returns-in_err-by-in-Some-clause-refusal : goal.returns-in_err-by-in-Some-clause-refusal
returns-in_err-by-in-Some-clause-refusal c =
    let here : c.in-Some.line < length c.args.known.now.tableau.lines = search rules in
    let own : c.as_slice-own.result.now ≡ get_or c.args.known.now.tableau.lines c.in-Some.line [] = get_or_read c.args.known.now.tableau.lines c.in-Some.line c.as_slice-own.result.now here (search rules) [] in
    let given : Gives cause (λ (made : List Fraction). made) c.unit_multiples.result (multiples_from c.as_slice-own.result.now (entry c.as_slice-own.result.now c.args.unknown) c.args.count c.args.known.now.scales) = search rules in
    let known : IfErr c.unit_multiples.result (IsRefusalUnder c.args.count c.args.known.now.lines) =
    error_under c.args.count c.args.known.now.lines c.unit_multiples.result c.unit_multiples.ensures.refusal
    (λ calm. gives_memory (λ (made : List Fraction). made) c.unit_multiples.result (multiples_from c.as_slice-own.result.now (entry c.as_slice-own.result.now c.args.unknown) c.args.count c.args.known.now.scales) given
    (multiples-fit c.as_slice-own.result.now (entry c.as_slice-own.result.now c.args.unknown) c.args.count c.args.known.now.scales (subst (λ (line : List ℤ). IsSmallLine 1048576 line) (sym own) (λ j. spots_small c.args.count c.args.known.now c.requires.known calm c.in-Some.line j)) (c.requires.scales.small calm))) in search rules

pub returns-in_err-by-in-Some-clause-step : goal.returns-in_err-by-in-Some-clause-step
returns-in_err-by-in-Some-clause-step c =
    let here : c.in-Some.line < length c.args.known.now.tableau.lines = search rules in
    let chosen : choices_of c.args.known.now.tableau c.in-Some.line ≡ c.args.unknown = search rules in
    let own : c.as_slice-own.result.now ≡ get_or c.args.known.now.tableau.lines c.in-Some.line [] = get_or_read c.args.known.now.tableau.lines c.in-Some.line c.as_slice-own.result.now here (search rules) [] in
    let given : Gives cause (λ (made : List Fraction). made) c.unit_multiples.result (multiples_from c.as_slice-own.result.now (entry c.as_slice-own.result.now c.args.unknown) c.args.count c.args.known.now.scales) = search rules in
    let known : IfErr c.unit_multiples.result (StopsBy (IsUnitStep c.args.count c.args.known.now)) =
    units_stop_at c.args.count c.args.known.now c.args.unknown c.in-Some.line c.as_slice-own.result.now c.unit_multiples.result own chosen given in search rules
