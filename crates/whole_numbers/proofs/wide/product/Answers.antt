use Rattle.std.proofs.Common.{◌≤◌, ◌^◌, ◌*ℤ◌, FitsSigned, refl, arith, sym}
use Rattle.std.specs.Prelude.{unsigned_abs}
use Rattle.std.specs.Int.{w128}
use Rattle.std.proofs.lemmas.Int.{to_z-of_z, fits_signed_mul}
use Rattle.whole_numbers.proofs.Short.{short-product_of}
use Rattle.whole_numbers.proofs.wide.product.Goals as goal
use Rattle.whole_numbers.proofs.wide.product.Goals.{Then-is_short-2}

module _ (c : Then-is_short-2) where
  left_size : unsigned_abs c.args.left ≤ 2 ^ 63
  left_size = rw (to_z-of_z w128 c.args.left c.ranges.left) at c.if-is_short.ensures refl

  right_size : unsigned_abs c.args.right ≤ 2 ^ 63
  right_size = rw (to_z-of_z w128 c.args.right c.ranges.right) at c.if-is_short-2.ensures refl

  fitting : FitsSigned w128 (c.args.left *ℤ c.args.right)
  fitting = fits_signed_mul w128 c.args.left c.args.right (2 ^ 63) (2 ^ 63) left_size right_size (omega arith)

pub overflow_mul-result : goal.overflow_mul-result
overflow_mul-result c = rw (to_z-of_z w128 c.args.left c.ranges.left, to_z-of_z w128 c.args.right c.ranges.right) (fitting c)

pub returns-then-is_short-2 : goal.returns-then-is_short-2
returns-then-is_short-2 c =
    rw (to_z-of_z w128 c.args.left c.ranges.left, to_z-of_z w128 c.args.right c.ranges.right, to_z-of_z w128 (c.args.left *ℤ c.args.right) (fitting c))
    (sym (short-product_of c.args.left c.args.right (left_size c) (right_size c)))
