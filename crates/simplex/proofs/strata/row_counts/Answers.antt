use Rattle.std.proofs.Common.{sym, subst, arith}
use Rattle.std.proofs.lemmas.List.{take_all}
use Rattle.std.proofs.lemmas.List.Elements.{All-more, All-same}
use Rattle.simplex.specs.SmallBasis.{HasFewRows}
use Rattle.simplex.proofs.strata.row_counts.Goals as goal

pub loop-case-preserved : goal.loop-case-preserved
loop-case-preserved c =
    All-more HasFewRows c.args.cases.now c.loop-case.case-index c.case-item.result (omega arith) c.loop-case.invariant
    (subst HasFewRows c.case-item.is c.row_count.ensures)

pub returns : goal.returns
returns c = All-same HasFewRows c.args.cases.now _ (sym (take_all c.loop-case.case-index c.args.cases.now (omega arith))) c.loop-case.invariant
