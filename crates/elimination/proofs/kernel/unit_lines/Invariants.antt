use Rattle.elimination.specs.Stages.{AreLines, unit_line}
use Rattle.elimination.proofs.kernel.unit_lines.Given as goal

abbrev pub invariant-loop-place : goal.invariant-loop-place
invariant-loop-place l = AreLines l.place (unit_line l.columns l.cases l.lower l.probes l.free l.own) l.lines
