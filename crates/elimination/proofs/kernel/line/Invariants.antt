use Rattle.std.proofs.Common.{◌≡◌, map, take}
use Rattle.elimination.specs.Probes.{probe_at}
use Rattle.elimination.proofs.kernel.line.Given as goal

abbrev pub invariant-loop-unknown : goal.invariant-loop-unknown
invariant-loop-unknown l = l.line ≡ map (probe_at l.columns l.cases l.lower l.probe) (take l.unknown-index l.chosen)
