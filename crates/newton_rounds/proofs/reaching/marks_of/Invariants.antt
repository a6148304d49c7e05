use Rattle.std.proofs.Common.{◌≡◌, false, length, replicate, drop}
use Rattle.newton_rounds.specs.Reached.{with_marks}
use Rattle.newton_rounds.proofs.reaching.marks_of.Given as goal

abbrev pub invariant-loop-node : goal.invariant-loop-node
invariant-loop-node l = record { made : l.marks.items ≡ replicate l._node false }

abbrev pub invariant-loop-start : goal.invariant-loop-start
invariant-loop-start l =
    record {
      long : length l.marks.items ≡ l.fn.nodes;
      made : with_marks l.marks.items (drop l.start-index l.starts) ≡ with_marks (replicate l.fn.nodes false) l.fn.starts;
    }
