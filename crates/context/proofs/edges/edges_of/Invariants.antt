use Rattle.std.proofs.Common.{◌≡◌, drop}
use Rattle.context.specs.Entries.{ways_from, ways_of}
use Rattle.context.specs.Made.{edges_by, with_ways}
use Rattle.context.proofs.edges.edges_of.Given as goal

-- the ways so far, and then those of the procedures that are left
abbrev pub invariant-loop-number : goal.invariant-loop-number
invariant-loop-number l = with_ways l.made (ways_from l.program l.number (drop l.number l.program.procs) (drop l.number l.flows)) ≡ edges_by (ways_of l.program l.flows)
