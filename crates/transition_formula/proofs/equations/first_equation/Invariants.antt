use Rattle.std.proofs.Common.{◌≡◌, ◌+◌, drop}
use Rattle.std.specs.Option.{option_map}
use Rattle.transition_formula.specs.Order.{first_equation}
use Rattle.transition_formula.proofs.equations.first_equation.Given as goal

abbrev pub invariant-loop-place : goal.invariant-loop-place
invariant-loop-place l = option_map (λ found. (found.0 + l.place, found.1)) (first_equation (drop l.place l.rows)) ≡ first_equation l.rows
