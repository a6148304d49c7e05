use Rattle.std.proofs.Common.{rules, List, subst}
use Rattle.std.specs.Prelude.{◌↔◌, All, IsTrue, IfOk}
use Rattle.farkas_check.specs.declared.stratum.Change.{Change}
use Rattle.elimination.specs.Narrow.{IsNarrowChange}
use Rattle.elimination.proofs.NarrowStrata.{stratum_answer}
use Rattle.elimination.proofs.questions.is_narrow_stratum.Goals as goal

pub returns : goal.returns
returns c =
    let small : IsTrue c.in_ok-is_small_stratum.field-0 = search rules in
    stratum_answer c.args.stratum.now c.are_narrow_changes.result (c.in_ok-is_small_stratum.ensures.0 small)
    (subst (λ (cases : List Change). IfOk c.are_narrow_changes.result (λ b. IsTrue b ↔ All IsNarrowChange cases)) c.cases.ensures.cases c.are_narrow_changes.ensures)
