use Rattle.std.proofs.Common.{◌+◌, ◌≤◌, vec_len, arith, rules}
use Rattle.commands.proofs.Inputs.{IsInput-past, IsInput-all}
use Rattle.commands.proofs.input.read_input.Goals as goal
use Rattle.commands.proofs.input.read_input.Goals.{else-loop-bytes-test, then-loop-bytes-test+in_ok-read_piece+then-not-branch}

-- the loop ends past the limit, or where nothing came
pub returns-clause-input : goal.returns-clause-input
returns-clause-input g c =
    elim c.loop-bytes-test.branch [
      | else-loop-bytes-test w ↦
          rw w.bytes-is (IsInput-past _ _ _ _ c.loop-bytes.invariant.told (omega (arith, c.loop-bytes.bytes.ok.0)))
      | then-loop-bytes-test+in_ok-read_piece+then-not-branch w ↦
          rw w.bytes-is (IsInput-all _ _ _ _ (w.in_ok-read_piece.ensures.told _ c.loop-bytes.invariant.told) (w.in_ok-read_piece.ensures.end w.if-not-branch.true)
          (let fits : vec_len w.read_piece.new.bytes ≤ c.args.limit + 1 = search rules in omega (arith, w.read_piece.new.bytes.ok.0)))
    ]
