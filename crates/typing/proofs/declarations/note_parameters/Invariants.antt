use Rattle.std.proofs.Common.{◌≡◌, drop}
use Rattle.typing.specs.Faults.{least_of, parameter_faults}
use Rattle.typing.proofs.declarations.note_parameters.Given as goal

abbrev pub invariant-loop-above : goal.invariant-loop-above
invariant-loop-above l = least_of l.least (parameter_faults l.above (drop l.above l.params)) ≡ least_of l.fn.least (parameter_faults 0 l.params)
