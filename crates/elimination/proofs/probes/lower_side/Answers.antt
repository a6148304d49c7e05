use Rattle.std.proofs.Common.{sym, ap, ◌∙◌, arith}
use Rattle.std.specs.Prelude.{neg_ℤ}
use Rattle.elimination.proofs.Magnitudes.{read_turned}
use Rattle.elimination.proofs.Sides.{side_at-lower, side_at-one, side_at-none}
use Rattle.elimination.proofs.probes.lower_side.Goals as goal

pub returns-then-behind-lower-clause-value : goal.returns-then-behind-lower-clause-value
returns-then-behind-lower-clause-value c =
    read_turned c.read.result (omega (arith, c.read.ensures.small)) ∙ ap neg_ℤ c.read.ensures.value
    ∙ sym (side_at-lower c.args.columns.now c.args.place c.args.lower.now c.args.behind c.index-lower-behind.result (omega arith) c.index-lower-behind.is)

pub returns-then-behind-lower-2-clause-value : goal.returns-then-behind-lower-2-clause-value
returns-then-behind-lower-2-clause-value c =
    read_turned c.one.result (omega (arith, c.one.ensures.small)) ∙ ap neg_ℤ c.one.ensures.value
    ∙ sym (side_at-one c.args.columns.now c.args.place c.args.lower.now c.args.behind (omega arith))

pub returns-clause-value : goal.returns-clause-value
returns-clause-value c = sym (side_at-none c.args.columns.now c.args.place c.args.lower.now c.args.behind (omega arith))
