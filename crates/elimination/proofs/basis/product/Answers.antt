use Rattle.std.proofs.Common.{◌*◌, ◌≤◌, arith, ◌*ℤ◌}
use Rattle.std.specs.Prelude.{unsigned_abs}
use Rattle.simplex.proofs.Small.{product-small}
use Rattle.elimination.proofs.Magnitudes.{read, fits}
use Rattle.elimination.proofs.basis.product.Goals as goal

pub overflow_mul-result : goal.overflow_mul-result
overflow_mul-result c =
    let small : unsigned_abs (c.args.left.now *ℤ c.args.right.now) ≤ 481890304 * 67108864 = product-small 481890304 67108864 c.args.left.now c.args.right.now c.requires.left c.requires.right in
    rw (read c.args.left.now (omega (arith, c.requires.left)), read c.args.right.now (omega (arith, c.requires.right))) (fits (c.args.left.now *ℤ c.args.right.now) (omega (arith, small)))

pub returns : goal.returns
returns c =
    let small : unsigned_abs (c.args.left.now *ℤ c.args.right.now) ≤ 481890304 * 67108864 = product-small 481890304 67108864 c.args.left.now c.args.right.now c.requires.left c.requires.right in
    rw (read c.args.left.now (omega (arith, c.requires.left)), read c.args.right.now (omega (arith, c.requires.right))) (read (c.args.left.now *ℤ c.args.right.now) (omega (arith, small)))
