use Rattle.std.proofs.Common.{◌≡◌, drop}
use Rattle.typing.specs.Faults.{least_of, prototype_faults}
use Rattle.typing.specs.Texts.{top}
use Rattle.typing.proofs.declarations.note_prototypes.Given as goal

abbrev pub invariant-loop-item : goal.invariant-loop-item
invariant-loop-item l = least_of l.least (prototype_faults (top l.bodies) (drop l.item-index l.items)) ≡ least_of l.fn.least (prototype_faults (top l.bodies) l.items)
