use Rattle.std.proofs.Common.{rules, ◌≡◌, ◌<◌, length, get_or, [], false, sym, ◌∙◌}
use Rattle.std.proofs.lemmas.List.{get_or_read}
use Rattle.simplex.specs.Raise.{sign_of}
use Rattle.simplex.proofs.Overruns.{came_moved}
use Rattle.simplex.proofs.raise.one_turn.Goals as goal

pub returns-clause-came : goal.returns-clause-came
returns-clause-came g c =
    let inside : c.args.raise.goal < length c.args.t.lines = search rules in
    let first : c.as_slice.result.now ≡ get_or c.args.t.lines c.args.raise.goal [] = get_or_read c.args.t.lines c.args.raise.goal c.as_slice.result.now inside (search rules) [] in
    let second : c.as_slice-line.result.now ≡ get_or c.args.t.lines c.args.raise.goal [] = get_or_read c.args.t.lines c.args.raise.goal c.as_slice-line.result.now inside (search rules) [] in
    let unmet : c.is_met.result ≡ false = search rules in
    came_moved c.args.raise.enters.now c.args.raise.constants c.args.raise.keys.now (sign_of c.args.raise.up) c.args.raise.until c.args.raise.goal c.in-Some.column c.args.t c.as_slice.result.now c.as_slice-line.result.now c.exchange_column.result first second
    (sym c.is_met.ensures ∙ unmet) c.in-Some.ensures (search rules) c.exchange_column.ensures.came
