use Rattle.std.proofs.Common.{◌≡◌, Ok, true, ◌∙◌, rules}
use Rattle.farkas_check.specs.Listing.{columns_in}
use Rattle.farkas_check.specs.Relations.{sides, numbers_of}
use Rattle.farkas_check.specs.Steps.{scaled_number, are_multiples}
use Rattle.farkas_check.proofs.OwnColumns.{with_half_constants-is}
use Rattle.farkas_check.proofs.ties.tested_multiple.Goals as goal

pub returns-in-Ok : goal.returns-in-Ok
returns-in-Ok c =
    let times = scaled_number c.args.multiples.now.half c.args.multiples.now.scale in
    let cs = columns_in c.args.columns.now in
    let rows = c.args.case.now.rows in
    let ns = numbers_of c.args.relation.now in
    let ss = sides c.args.case.now.terms c.args.lower.now in
    let by = c.args.multiples.now.by.now in
    let told : are_multiples times true rows by ns ss cs ≡ Ok c.in-Ok.same = search rules in
    c.with_half_constants.ensures ∙ with_half_constants-is times cs rows ns ss by c.in-Ok.same told
