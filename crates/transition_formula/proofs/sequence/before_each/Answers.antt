use Rattle.std.proofs.Common.{length, sym, subst, ◌∙◌}
use Rattle.std.specs.Prelude.{IsTrue, ◌==◌}
use Rattle.transition_formula.specs.Transition.{fits, is_below, every_column_of}
use Rattle.transition_formula.specs.Composition.{sequence_of_cases, losses_by, after_case}
use Rattle.transition_formula.proofs.ColumnTests.{both}
use Rattle.transition_formula.proofs.Loops.{test_at, one_mapped, one_gathered}
use Rattle.transition_formula.proofs.sequence.before_each.Goals as goal

pub sequence-requires-clause-covered : goal.sequence-requires-clause-covered
sequence-requires-clause-covered c =
    let second = c.second-item.result in
    let fit : IsTrue (fits c.args.b.now.from c.args.b.now.to second) = test_at (fits c.args.b.now.from c.args.b.now.to) c.cases-second-items.result.now c.loop-second.second-index second second c.cases-second-items.ensures.fit c.loop-second-test.true c.second-item.is in
    subst (λ n. IsTrue (every_column_of (is_below n second.aux) second)) (sym c.requires.between)
    (both (length second.post == c.args.b.now.to) (every_column_of (is_below c.args.b.now.from second.aux) second) fit).1

pub loop-second-preserved : goal.loop-second-preserved
loop-second-preserved c =
    record {
      made =
          one_mapped (sequence_of_cases c.args.first.now) c.cases-second-items.result.now c.loop-second.second-index c.second-item.result c.loop-second.cases c.push.new.self c.in_ok-sequence.field-0
          c.loop-second-test.true c.second-item.is c.in_ok-sequence.ensures.exact c.in_ok-push.ensures.ok
          ∙ c.loop-second.invariant.made;
      noted =
          one_gathered (λ second. losses_by (after_case c.args.first.now second) second) c.cases-second-items.result.now c.loop-second.second-index c.second-item.result c.loop-second.losses c.sequence.new.losses
          c.loop-second-test.true c.second-item.is c.in_ok-sequence.ensures.noted
          ∙ c.loop-second.invariant.noted;
    }
