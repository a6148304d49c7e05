use Rattle.std.proofs.Common.{◌≡◌, ◌++◌, drop}
use Rattle.context.specs.Entries.{nodes_of, others_from}
use Rattle.context.proofs.nodes.nodes_of.Given as goal

-- the nodes so far, and then those of the procedures that are left
abbrev pub invariant-loop-number : goal.invariant-loop-number
invariant-loop-number l = l.nodes ++ others_from l.program l.number (drop l.number l.program.procs) ≡ nodes_of l.program
