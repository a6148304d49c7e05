use Rattle.std.proofs.Common.{◌-◌, length, sym, ◌∙◌, arith}
use Rattle.elimination.proofs.Magnitudes.{read}
use Rattle.elimination.proofs.Sides.{side_at-term, side_at-behind}
use Rattle.elimination.proofs.probes.side.Goals as goal

pub returns-then-unknown-terms-clause-value : goal.returns-then-unknown-terms-clause-value
returns-then-unknown-terms-clause-value c =
    read c.read.result (omega (arith, c.read.ensures.small)) ∙ c.read.ensures.value
    ∙ sym (side_at-term c.args.columns.now c.args.place c.args.terms.now c.args.lower.now c.args.unknown c.index-terms-unknown.result (omega arith) c.index-terms-unknown.is)

pub returns-clause-value : goal.returns-clause-value
returns-clause-value c =
    read c.lower_side.result (omega (arith, c.lower_side.ensures.small)) ∙ c.lower_side.ensures.value
    ∙ sym (side_at-behind c.args.columns.now c.args.place c.args.terms.now c.args.lower.now c.args.unknown (c.args.unknown - length c.args.terms.now) (omega arith))
