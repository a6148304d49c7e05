use Rattle.test_graphs.proofs.Knowing.{KnownBelow}
use Rattle.test_graphs.proofs.leaves.are_known.Given as goal

abbrev pub invariant-loop-n : goal.invariant-loop-n
invariant-loop-n l = KnownBelow l.program l.known l.n
