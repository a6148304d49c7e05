use Rattle.std.proofs.Common.{sym, subst, arith}
use Rattle.std.proofs.lemmas.List.{take_all}
use Rattle.std.proofs.lemmas.List.Elements.{All-more, All-same}
use Rattle.farkas_check.specs.Kept.{IsCanonicalChange}
use Rattle.farkas_check.proofs.kept.canonical_cases.Goals as goal

pub loop-case-preserved : goal.loop-case-preserved
loop-case-preserved c =
    All-more IsCanonicalChange c.args.cases.now c.loop-case.case-index c.case-item.result (omega arith) c.loop-case.invariant
    (subst IsCanonicalChange c.case-item.is c.canonical_case.ensures)

pub returns : goal.returns
returns c = All-same IsCanonicalChange c.args.cases.now _ (sym (take_all c.loop-case.case-index c.args.cases.now (omega arith))) c.loop-case.invariant
