use Rattle.std.proofs.Common.{◌≡◌, ◌≢◌, ◌<◌, ◌∙◌, ap, List, ℤ, [], length, get_or, rules}
use Rattle.std.proofs.lemmas.List.{get_or_read}
use Rattle.simplex.specs.Exchange.{choices_of}
use Rattle.simplex.specs.Suprema.{chosen_slope}
use Rattle.simplex.proofs.Points.{slope-chosen-ok}
use Rattle.simplex.proofs.Stops.{slope_stops}
use Rattle.simplex.proofs.corner.slope_of.Goals as goal

pub returns-in-Some-clause-ray : goal.returns-in-Some-clause-ray
returns-in-Some-clause-ray g c =
    let here : c.in-Some.line < length c.args.t.now.lines = search rules in
    let chosen : choices_of c.args.t.now c.in-Some.line ≡ c.args.own = search rules in
    let apart : c.args.own ≢ c.args.column = search rules in
    let own : c.as_slice-in-Some.result.now ≡ get_or c.args.t.now.lines c.in-Some.line [] = get_or_read c.args.t.now.lines c.in-Some.line c.as_slice-in-Some.result.now here (search rules) [] in
    slope-chosen-ok g.over c.args.t.now c.args.column c.args.own c.in-Some.line c.args.up c.chosen_slope.result c.requires.0 apart here chosen
    (c.chosen_slope.ensures.exact ∙ ap (λ (line : List ℤ). chosen_slope line c.args.column c.args.up c.args.own) own)

pub returns-in-Some-clause-step : goal.returns-in-Some-clause-step
returns-in-Some-clause-step g c =
    let here : c.in-Some.line < length c.args.t.now.lines = search rules in
    let chosen : choices_of c.args.t.now c.in-Some.line ≡ c.args.own = search rules in
    let own : c.as_slice-in-Some.result.now ≡ get_or c.args.t.now.lines c.in-Some.line [] = get_or_read c.args.t.now.lines c.in-Some.line c.as_slice-in-Some.result.now here (search rules) [] in
    slope_stops c.args.t.now c.args.column c.args.up c.args.own c.in-Some.line c.as_slice-in-Some.result.now c.chosen_slope.result own chosen c.chosen_slope.ensures.exact
