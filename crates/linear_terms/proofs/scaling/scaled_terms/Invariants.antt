use Rattle.std.proofs.Common.{◌≡◌, drop}
use Rattle.linear_terms.specs.Operations.{times_each}
use Rattle.linear_terms.proofs.Steps.{with_front}
use Rattle.linear_terms.proofs.scaling.scaled_terms.Given as goal

abbrev pub invariant-loop-mono : goal.invariant-loop-mono
invariant-loop-mono l = with_front l.made (times_each (drop l.mono-index l.terms) l.by) ≡ times_each l.terms l.by
