use Rattle.std.proofs.Common.{◌≡◌, ◌++◌, drop, map}
use Rattle.flow_graph.specs.Plain.{plain}
use Rattle.proc_summary.specs.Subject.{own_graph}
use Rattle.analysis.specs.Judging.{checks_of}
use Rattle.analysis.proofs.standing.standing_of.Given as goal

abbrev pub invariant-loop-proc : goal.invariant-loop-proc
invariant-loop-proc l =
    record {
      graphs : map plain l.graphs ++ map own_graph (drop l.proc l.program.procs) ≡ map own_graph l.program.procs;
      checks : l.checks ++ checks_of l.proc (drop l.proc l.program.procs) ≡ checks_of 0 l.program.procs;
    }
