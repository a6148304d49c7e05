use Rattle.std.proofs.Common.{◌≤◌, arith, ◌+ℤ◌, ◌*ℤ◌, ◌*◌}
use Rattle.std.specs.Prelude.{◌^◌, unsigned_abs}
use Rattle.std.proofs.lemmas.Int.{ints}
use Rattle.elimination.proofs.Magnitudes.{product_up_to, read}
use Rattle.elimination.proofs.kernel.with_part.Goals as goal

pub returns-clause-value : goal.returns-clause-value
returns-clause-value c =
    let part : unsigned_abs (c.args.number.now *ℤ c.args.value.now) ≤ 28 ^ 6 * 4 = product_up_to c.args.number.now c.args.value.now (28 ^ 6) 4 c.requires.number c.requires.value in
    let sum : unsigned_abs c.args.sum.now ≤ 2 ^ 40 = c.requires.sum in
    rw (read c.args.sum.now (omega (arith, sum)), read c.args.number.now (omega (arith, c.requires.number)), read c.args.value.now (omega (arith, c.requires.value)), read (c.args.number.now *ℤ c.args.value.now) (omega (arith, part)))
    (read (c.args.sum.now +ℤ c.args.number.now *ℤ c.args.value.now) (omega (arith, ints, sum, part)))

pub returns-clause-small : goal.returns-clause-small
returns-clause-small c =
    let part : unsigned_abs (c.args.number.now *ℤ c.args.value.now) ≤ 28 ^ 6 * 4 = product_up_to c.args.number.now c.args.value.now (28 ^ 6) 4 c.requires.number c.requires.value in
    let sum : unsigned_abs c.args.sum.now ≤ 2 ^ 40 = c.requires.sum in
    rw (read c.args.sum.now (omega (arith, sum)), read c.args.number.now (omega (arith, c.requires.number)), read c.args.value.now (omega (arith, c.requires.value)), read (c.args.number.now *ℤ c.args.value.now) (omega (arith, part)), read (c.args.sum.now +ℤ c.args.number.now *ℤ c.args.value.now) (omega (arith, ints, sum, part)))
    (omega (arith, ints, sum, part))
