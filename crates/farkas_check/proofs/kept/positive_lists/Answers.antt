use Rattle.std.proofs.Common.{sym, subst, arith}
use Rattle.std.proofs.lemmas.List.{take_all}
use Rattle.std.proofs.lemmas.List.Elements.{All-more, All-same}
use Rattle.farkas_check.specs.Kept.{ArePositive}
use Rattle.farkas_check.proofs.kept.positive_lists.Goals as goal

pub loop-numbers-preserved : goal.loop-numbers-preserved
loop-numbers-preserved c =
    All-more ArePositive c.args.free.now c.loop-numbers.numbers-index c.numbers-item.result (omega arith) c.loop-numbers.invariant
    (subst ArePositive c.numbers-item.is c.positive_list.ensures)

pub returns : goal.returns
returns c = All-same ArePositive c.args.free.now _ (sym (take_all c.loop-numbers.numbers-index c.args.free.now (omega arith))) c.loop-numbers.invariant
