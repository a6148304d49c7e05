use Rattle.std.proofs.Common.{sym, subst, arith}
use Rattle.std.proofs.lemmas.List.{take_all}
use Rattle.std.proofs.lemmas.List.Elements.{All-more, All-same}
use Rattle.farkas_check.specs.Ratios.{IsLowest}
use Rattle.elimination.proofs.null_vectors.lowest_ratios.Goals as goal

pub loop-value-preserved : goal.loop-value-preserved
loop-value-preserved c = All-more IsLowest c.args.values.now c.loop-value.value-index c.value-item.result (omega arith) c.loop-value.invariant (subst IsLowest c.value-item.is c.den-den.ensures.lowest)

pub returns : goal.returns
returns c = All-same IsLowest c.args.values.now _ (sym (take_all c.loop-value.value-index c.args.values.now (omega arith))) c.loop-value.invariant
