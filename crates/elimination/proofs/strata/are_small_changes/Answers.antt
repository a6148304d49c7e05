use Rattle.std.proofs.Common.{rules, refl, sym, subst, arith}
use Rattle.std.specs.Prelude.{IsTrue}
use Rattle.std.proofs.lemmas.List.{take_all}
use Rattle.std.proofs.lemmas.List.Elements.{All-more, All-same}
use Rattle.elimination.specs.Narrow.{IsSmallChange}
use Rattle.elimination.proofs.strata.are_small_changes.Goals as goal

pub loop-case-preserved : goal.loop-case-preserved
loop-case-preserved c =
    let narrow : IsTrue c.in_ok-is_small_change.field-0 = search rules in
    All-more IsSmallChange c.args.cases.now c.loop-case.case-index c.case-item.result (omega arith) c.loop-case.invariant
    (subst IsSmallChange c.case-item.is (c.in_ok-is_small_change.ensures.0 narrow))

pub returns : goal.returns
returns c = (λ e. All-same IsSmallChange c.args.cases.now _ (sym (take_all c.loop-case.case-index c.args.cases.now (omega arith))) c.loop-case.invariant, λ h. refl)
