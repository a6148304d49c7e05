use Rattle.std.proofs.Common.{◌≡◌, ◌∙◌, rules}
use Rattle.farkas_check.proofs.Sums.{ok_of, summed, summed-is}
use Rattle.farkas_check.proofs.multiples.has_sum_in_order.Goals as goal

pub returns-in_err-same : goal.returns-in_err-same
returns-in_err-same c =
    let steps : c.from_residual-in_err-same.result ≡ summed c.args.goal.now c.args.cert.now = search rules in
    steps ∙ summed-is c.args.goal.now c.args.cert.now

pub returns-in_err-right : goal.returns-in_err-right
returns-in_err-right c =
    let steps : c.from_residual-in_err-right.result ≡ summed c.args.goal.now c.args.cert.now = search rules in
    steps ∙ summed-is c.args.goal.now c.args.cert.now

pub returns : goal.returns
returns c =
    let steps : ok_of c.is_same.result ≡ summed c.args.goal.now c.args.cert.now = search rules in
    steps ∙ summed-is c.args.goal.now c.args.cert.now
