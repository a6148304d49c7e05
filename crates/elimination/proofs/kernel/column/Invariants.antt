use Rattle.std.proofs.Common.{◌≡◌, map, take}
use Rattle.elimination.specs.declared.probes.Probe.{Probe}
use Rattle.elimination.specs.Probes.{probe_at}
use Rattle.elimination.proofs.kernel.column.Given as goal

abbrev pub invariant-loop-probe : goal.invariant-loop-probe
invariant-loop-probe l = l.column ≡ map (λ (probe : Probe). probe_at l.columns l.cases l.lower probe l.unknown) (take l.probe-index l.probes)
