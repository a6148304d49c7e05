use Rattle.std.proofs.Common.{◌≡◌, [], replicate}
use Rattle.std.specs.Prelude.{None}
use Rattle.analysis.proofs.found.Found.nothing.Given as goal

abbrev pub invariant-loop-proc : goal.invariant-loop-proc
invariant-loop-proc l =
    record {
      known : l.known ≡ replicate l._proc None;
      flows : l.flows ≡ replicate l._proc None;
      notes : l.notes ≡ replicate l._proc [];
    }
