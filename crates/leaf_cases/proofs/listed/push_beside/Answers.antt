use Rattle.std.proofs.Common.{◌^◌}
use Rattle.std.specs.Prelude.{nat_lt}
use Rattle.linear_terms.specs.Auxiliaries.{is_numbered}
use Rattle.transition_formula.specs.Transition.{every_column_of}
use Rattle.transition_formula.proofs.ColumnTests.{both}
use Rattle.transition_formula.proofs.Loops.{test_at}
use Rattle.leaf_cases.specs.Listed.{is_ready}
use Rattle.leaf_cases.proofs.listed.push_beside.Goals as goal

pub beside-requires-clause-numbered : goal.beside-requires-clause-numbered
beside-requires-clause-numbered c =
    let second = c.second-item.result in
    (both (nat_lt second.aux (2 ^ 30)) (every_column_of (is_numbered second.aux) second)
    (test_at (is_ready (2 ^ 30)) c.args.seconds.now c.loop-second.second-index second second c.requires.seconds c.loop-second-test.true c.second-item.is)).1
