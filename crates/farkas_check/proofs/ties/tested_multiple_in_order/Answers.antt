use Rattle.std.proofs.Common.{◌≡◌, ◌∙◌, rules}
use Rattle.farkas_check.specs.Listing.{columns_in}
use Rattle.farkas_check.specs.Relations.{sides, numbers_of}
use Rattle.farkas_check.specs.Steps.{scaled_number}
use Rattle.farkas_check.proofs.Halves.{summed_half, summed_half-is}
use Rattle.farkas_check.proofs.Sums.{ok_of}
use Rattle.farkas_check.proofs.ties.tested_multiple_in_order.Goals as goal

pub returns-in_err-same : goal.returns-in_err-same
returns-in_err-same c =
    let steps : c.from_residual-in_err-same.result ≡ summed_half (scaled_number c.args.multiples.now.half c.args.multiples.now.scale) (columns_in c.args.columns.now) c.args.case.now.rows (numbers_of c.args.relation.now) (sides c.args.case.now.terms c.args.lower.now) c.args.multiples.now.by.now = search rules in
    steps ∙ summed_half-is (scaled_number c.args.multiples.now.half c.args.multiples.now.scale) (columns_in c.args.columns.now) c.args.case.now.rows (numbers_of c.args.relation.now) (sides c.args.case.now.terms c.args.lower.now) c.args.multiples.now.by.now

pub returns-in_err-right : goal.returns-in_err-right
returns-in_err-right c =
    let steps : c.from_residual-in_err-right.result ≡ summed_half (scaled_number c.args.multiples.now.half c.args.multiples.now.scale) (columns_in c.args.columns.now) c.args.case.now.rows (numbers_of c.args.relation.now) (sides c.args.case.now.terms c.args.lower.now) c.args.multiples.now.by.now = search rules in
    steps ∙ summed_half-is (scaled_number c.args.multiples.now.half c.args.multiples.now.scale) (columns_in c.args.columns.now) c.args.case.now.rows (numbers_of c.args.relation.now) (sides c.args.case.now.terms c.args.lower.now) c.args.multiples.now.by.now

pub returns : goal.returns
returns c =
    let steps : ok_of c.is_same.result ≡ summed_half (scaled_number c.args.multiples.now.half c.args.multiples.now.scale) (columns_in c.args.columns.now) c.args.case.now.rows (numbers_of c.args.relation.now) (sides c.args.case.now.terms c.args.lower.now) c.args.multiples.now.by.now = search rules in
    steps ∙ summed_half-is (scaled_number c.args.multiples.now.half c.args.multiples.now.scale) (columns_in c.args.columns.now) c.args.case.now.rows (numbers_of c.args.relation.now) (sides c.args.case.now.terms c.args.lower.now) c.args.multiples.now.by.now
