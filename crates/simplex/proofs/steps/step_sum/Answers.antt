use Rattle.std.proofs.Common.{◌≡◌, rules}
use Rattle.whole_numbers.specs.Fits.{sum_of}
use Rattle.simplex.proofs.BasisLeaves.{sum_of-width}
use Rattle.simplex.proofs.steps.step_sum.Goals as goal

pub returns-clause-width : goal.returns-clause-width
returns-clause-width c =
    let made : c.sum.result ≡ sum_of c.args.left.now c.args.right.now = search rules in
    sum_of-width c.args.left.now c.args.right.now c.sum.result made
