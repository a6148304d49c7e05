use Rattle.std.proofs.Common.{◌≡◌, take}
use Rattle.std.specs.Prelude.{map}
use Rattle.execution.proofs.interpreter.Machine.start.Given as goal

abbrev pub invariant-loop-global : goal.invariant-loop-global
invariant-loop-global l = l.globals ≡ map (λ g. g.init) (take l.global-index l.global-items)
