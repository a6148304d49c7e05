use Rattle.std.proofs.Common.{◌≤◌, arith, ◌*ℤ◌}
use Rattle.std.specs.Prelude.{◌^◌, unsigned_abs}
use Rattle.elimination.proofs.Magnitudes.{product_fits, read, fits}
use Rattle.elimination.proofs.vectors.product.Goals as goal

pub overflow_mul-result : goal.overflow_mul-result
overflow_mul-result c =
    let small : unsigned_abs (c.args.left.now *ℤ c.args.right.now) ≤ 2 ^ 55 = product_fits c.args.left.now c.args.right.now c.requires.left c.requires.right in
    rw (read c.args.left.now (omega (arith, c.requires.left)), read c.args.right.now (omega (arith, c.requires.right))) (fits (c.args.left.now *ℤ c.args.right.now) (omega (arith, small)))

pub returns-clause-value : goal.returns-clause-value
returns-clause-value c =
    let small : unsigned_abs (c.args.left.now *ℤ c.args.right.now) ≤ 2 ^ 55 = product_fits c.args.left.now c.args.right.now c.requires.left c.requires.right in
    rw (read c.args.left.now (omega (arith, c.requires.left)), read c.args.right.now (omega (arith, c.requires.right))) (read (c.args.left.now *ℤ c.args.right.now) (omega (arith, small)))

pub returns-clause-small : goal.returns-clause-small
returns-clause-small c =
    let small : unsigned_abs (c.args.left.now *ℤ c.args.right.now) ≤ 2 ^ 55 = product_fits c.args.left.now c.args.right.now c.requires.left c.requires.right in
    rw (read c.args.left.now (omega (arith, c.requires.left)), read c.args.right.now (omega (arith, c.requires.right)), read (c.args.left.now *ℤ c.args.right.now) (omega (arith, small))) small
