use Rattle.std.proofs.Common.{◌≡◌, ◌≤◌, drop}
use Rattle.typing.specs.Elaborated.{main_from}
use Rattle.typing.proofs.elaboration.main_of.Given as goal

abbrev pub invariant-loop-item : goal.invariant-loop-item
invariant-loop-item l = (main_from l.procs (drop l.item-index l.items) ≡ main_from 0 l.items) × (l.procs ≤ l.item-index)
