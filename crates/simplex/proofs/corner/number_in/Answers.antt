use Rattle.std.proofs.Common.{◌≡◌, ◌∙◌, ap, List, ℤ, [], get_or, rules}
use Rattle.std.proofs.lemmas.List.{get_or_read}
use Rattle.simplex.specs.Search.{chosen_number}
use Rattle.simplex.proofs.Points.{corner-chosen-ok}
use Rattle.simplex.proofs.Stops.{number_stops}
use Rattle.simplex.proofs.corner.number_in.Goals as goal

pub returns-clause-corner : goal.returns-clause-corner
returns-clause-corner g c =
    let own : c.as_slice.result.now ≡ get_or c.args.t.now.lines c.args.line [] = get_or_read c.args.t.now.lines c.args.line c.as_slice.result.now c.requires.1.1.0 (search rules) [] in
    corner-chosen-ok g.over c.args.t.now c.args.constants c.args.column c.args.line c.chosen_number.result c.requires.0 c.requires.1.1.0 c.requires.1.1.1.0
    (c.chosen_number.ensures.exact ∙ ap (λ (line : List ℤ). chosen_number line c.args.constants c.args.column) own)

pub returns-clause-step : goal.returns-clause-step
returns-clause-step g c =
    let own : c.as_slice.result.now ≡ get_or c.args.t.now.lines c.args.line [] = get_or_read c.args.t.now.lines c.args.line c.as_slice.result.now c.requires.1.1.0 (search rules) [] in
    number_stops c.args.t.now c.args.constants c.args.column c.args.line c.as_slice.result.now c.chosen_number.result own c.requires.1.1.1.0 c.chosen_number.ensures.exact
