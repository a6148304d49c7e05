use Rattle.std.proofs.Common.{arith}
use Rattle.std.specs.Prelude.{neg_ℤ}
use Rattle.std.proofs.lemmas.Int.{ints}
use Rattle.elimination.proofs.Bases.{ratio_of, ratio_of_turned}
use Rattle.elimination.proofs.Magnitudes.{read, read_turned}
use Rattle.elimination.proofs.reduction.ratio.Goals as goal

pub returns-then-den-gt0 : goal.returns-then-den-gt0
returns-then-den-gt0 c =
    ratio_of c.lowest.result c.args.num.now c.args.den.now (omega (arith, ints))
    (rw (read c.args.num.now (omega (arith, c.requires.num)), read c.args.den.now (omega (arith, c.requires.den))) at c.lowest.ensures)

pub returns : goal.returns
returns c =
    ratio_of_turned c.lowest-2.result c.args.num.now c.args.den.now
    (ratio_of c.lowest-2.result (neg_ℤ c.args.num.now) (neg_ℤ c.args.den.now) (omega (arith, ints, c.requires.some))
    (rw (read_turned c.args.num.now c.requires.num, read_turned c.args.den.now c.requires.den) at c.lowest-2.ensures))
