use Rattle.std.proofs.Common.{◌≡◌, ◌+◌, ◌-◌, ◌≤◌, vec_len}
use Rattle.std.specs.Io.KnownBytes.{Consumes}
use Rattle.commands.proofs.input.read_input.Given as goal

-- what was read stands before what is left, one byte past the limit at most, and no read failed so
-- far
abbrev pub invariant-loop-bytes : goal.invariant-loop-bytes
invariant-loop-bytes g l =
    let S = g.S.Source in
    record {
      within : vec_len l.bytes ≤ l.limit + 1;
      room : vec_len l.piece ≡ l.len;
      told : Consumes (S.left l.fn.source) (S.left l.source) l.bytes.items;
      counted : S.faults l.source ≡ S.faults l.fn.source;
    }

abbrev pub decreases-loop-bytes : goal.decreases-loop-bytes
decreases-loop-bytes g l = l.limit + 1 - vec_len l.bytes
