use Rattle.std.proofs.Common.{subst}
use Rattle.items.specs.Gives.{FailsBy}
use Rattle.simplex.specs.Exchange.{cause}
use Rattle.simplex.specs.declared.stop.SearchStop.{SearchStop}
use Rattle.elimination.specs.Equations.{least_numerators}
use Rattle.elimination.proofs.InnerRatios.{never_wide}
use Rattle.elimination.proofs.descents.over_common.Goals as goal

pub unreachable-requires : goal.unreachable-requires
unreachable-requires c = never_wide c.args.ratios.now c.in-Err-Wide._step c.requires (subst (λ (e : SearchStop). FailsBy (cause e) (least_numerators c.args.ratios.now)) c.in-Err-Wide.field-0-is c.in-Err-Wide.ensures)
