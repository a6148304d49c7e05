use Rattle.std.proofs.Common.{◌+◌, ◌*◌, ◌≤◌}
use Rattle.simplex.specs.Strata.{AreKnown, turns_left}
use Rattle.simplex.proofs.strata.basis_of.Given as goal

abbrev pub invariant-loop-turn : goal.invariant-loop-turn
invariant-loop-turn l = AreKnown l.strata l.known × (turns_left l.strata.count l.known + l._turn ≤ (l.strata.count + 2) * (l.strata.count + 2))
