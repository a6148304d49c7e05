use Rattle.std.proofs.Common.{◌≡◌, ◌-◌, ◌≤◌, length, take}
use Rattle.std.specs.Io.KnownBytes.{Appends}
use Rattle.commands.proofs.output.write_all.Given as goal

-- what is done of the text is what the sink took, and no write failed so far
abbrev pub invariant-loop-done : goal.invariant-loop-done
invariant-loop-done g l =
    let W = g.W.Sink in
    record {
      within : l.done ≤ length l.text;
      told : Appends (W.taken l.fn.sink) (W.taken l.sink) (take l.done l.text);
      counted : W.faults l.sink ≡ W.faults l.fn.sink;
    }

abbrev pub decreases-loop-done : goal.decreases-loop-done
decreases-loop-done g l = length l.text - l.done
