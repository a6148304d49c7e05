use Rattle.std.proofs.Common.{◌≡◌, rules}
use Rattle.whole_numbers.specs.Fits.{product_of}
use Rattle.simplex.proofs.BasisLeaves.{product_of-width}
use Rattle.simplex.proofs.steps.step_product.Goals as goal

pub returns-clause-width : goal.returns-clause-width
returns-clause-width c =
    let made : c.product.result ≡ product_of c.args.left.now c.args.right.now = search rules in
    product_of-width c.args.left.now c.args.right.now c.product.result made
