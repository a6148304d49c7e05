use Rattle.std.proofs.Common.{List, length, map, ◌∷◌}
use Rattle.typing.specs.InForce.{entry_of, IsInForce, Restores}
use Rattle.typing.specs.Scopes.{Scope}
use Rattle.typing.proofs.InForce.{TakesBack}
use Rattle.typing.proofs.scopes.restore.Given as goal

abbrev pub invariant-loop-declaration : goal.invariant-loop-declaration
invariant-loop-declaration l =
    (outer : List Scope) → Restores l.fn.scope outer → IsInForce l.initial.index.entries (map entry_of l.fn.scope ∷ outer)
    → TakesBack outer l.scope l.index.entries

abbrev pub decreases-loop-declaration : goal.decreases-loop-declaration
decreases-loop-declaration l = length l.scope
