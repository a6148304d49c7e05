use Rattle.elimination.specs.Stages.{AreLines, probe_line}
use Rattle.elimination.proofs.kernel.lines.Given as goal

abbrev pub invariant-loop-place : goal.invariant-loop-place
invariant-loop-place l = AreLines l.place (probe_line l.columns l.cases l.lower l.probes l.chosen) l.lines
