use Rattle.std.proofs.Common.{sym, subst, arith}
use Rattle.std.proofs.lemmas.List.{take_all}
use Rattle.std.proofs.lemmas.List.Elements.{All-more, All-same}
use Rattle.linear_terms.specs.Row.{AreCanonical}
use Rattle.linear_terms.specs.declared.row.Case.{Case}
use Rattle.point_verdicts.proofs.steps.see_cases.Goals as goal

pub loop-case-preserved : goal.loop-case-preserved
loop-case-preserved c =
    All-more (λ (case : Case). AreCanonical case.rows) c.args.cases.now c.loop-case.case-index c.case-item.result (omega arith) c.loop-case.invariant
    (subst (λ (case : Case). AreCanonical case.rows) c.case-item.is (subst AreCanonical c.as_slice.ensures c.see_rows.ensures))

pub returns : goal.returns
returns c = All-same (λ (case : Case). AreCanonical case.rows) c.args.cases.now _ (sym (take_all c.loop-case.case-index c.args.cases.now (omega arith))) c.loop-case.invariant
