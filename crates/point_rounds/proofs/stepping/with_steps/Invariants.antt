use Rattle.std.proofs.Common.{◌≡◌, ◌++◌}
use Rattle.std.specs.Vec.Iter.{into_iter_items}
use Rattle.point_rounds.specs.Rounds.{from_point}
use Rattle.point_rounds.proofs.stepping.with_steps.Given as goal

abbrev pub invariant-loop-step : goal.invariant-loop-step
invariant-loop-step l = l.all ++ from_point l.state (into_iter_items l.step-iterator) ≡ l.fn.made ++ from_point l.state l.fn.steps
