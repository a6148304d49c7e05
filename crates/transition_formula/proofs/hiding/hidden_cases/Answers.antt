use Rattle.std.proofs.Common.{ℕ, ◌++◌, length, sym, ap, subst, ◌∙◌}
use Rattle.std.specs.Prelude.{IsTrue, ◌==◌}
use Rattle.transition_formula.specs.Composition.{losses_by}
use Rattle.transition_formula.specs.Hiding.{hiding, hidden_case}
use Rattle.transition_formula.specs.Transition.{fits, is_below, every_column_of}
use Rattle.transition_formula.proofs.ColumnTests.{both}
use Rattle.transition_formula.proofs.Loops.{test_at, one_mapped, one_gathered}
use Rattle.transition_formula.proofs.hiding.hidden_cases.Goals as goal

pub hidden_case-requires-clause-covered : goal.hidden_case-requires-clause-covered
hidden_case-requires-clause-covered c =
    let case = c.case-item.result in
    let fit : IsTrue (fits c.args.f.now.from c.args.f.now.to case) = test_at (fits c.args.f.now.from c.args.f.now.to) c.cases-case-items.result.now c.loop-case.case-index case case c.cases-case-items.ensures.fit c.loop-case-test.true c.case-item.is in
    subst (λ n. IsTrue (every_column_of (is_below n case.aux) case)) (sym c.from.ensures)
    (both (length case.post == c.args.f.now.to) (every_column_of (is_below c.args.f.now.from case.aux) case) fit).1

pub loop-case-preserved : goal.loop-case-preserved
loop-case-preserved c =
    record {
      made =
          one_mapped (hidden_case c.args.n c.args.f.now.from) c.cases-case-items.result.now c.loop-case.case-index c.case-item.result c.loop-case.cases c.push.new.self c.in_ok-made.made
          c.loop-case-test.true c.case-item.is (c.in_ok-made.ensures.exact ∙ ap (λ (n : ℕ). hidden_case c.args.n n c.case-item.result) c.from.ensures) c.in_ok-push.ensures.ok
          ∙ c.loop-case.invariant.made;
      noted =
          one_gathered (λ case. losses_by (hiding c.args.n c.args.f.now.from case) case) c.cases-case-items.result.now c.loop-case.case-index c.case-item.result c.loop-case.losses c.hidden_case.new.losses
          c.loop-case-test.true c.case-item.is (c.in_ok-made.ensures.noted ∙ ap (λ (n : ℕ). c.loop-case.losses ++ losses_by (hiding c.args.n n c.case-item.result) c.case-item.result) c.from.ensures)
          ∙ c.loop-case.invariant.noted;
    }
