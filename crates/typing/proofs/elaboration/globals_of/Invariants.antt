use Rattle.std.proofs.Common.{◌≡◌, ◌++◌, drop}
use Rattle.typing.specs.Elaborated.{globals_of}
use Rattle.typing.proofs.elaboration.globals_of.Given as goal

abbrev pub invariant-loop-item : goal.invariant-loop-item
invariant-loop-item l = l.globals ++ globals_of (drop l.item-index l.items) ≡ globals_of l.items
