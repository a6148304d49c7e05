use Rattle.std.proofs.Common.{◌^◌, sym, subst, ◌∙◌}
use Rattle.elimination.specs.Descents.{AreRatiosBelow}
use Rattle.elimination.proofs.InnerRatios.{ratios_small}
use Rattle.elimination.proofs.descents.numbers_at.Goals as goal

pub over_common-requires : goal.over_common-requires
over_common-requires c = subst (AreRatiosBelow (20 ^ 5)) (sym (c.as_slice-3.ensures ∙ c.in_ok-values.ensures)) (ratios_small c.as_slice-2.result.now c.args.point.now c.args.count c.requires.small)
