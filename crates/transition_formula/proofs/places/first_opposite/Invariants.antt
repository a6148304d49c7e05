use Rattle.std.proofs.Common.{◌≡◌, ◌+◌, drop}
use Rattle.std.specs.Option.{option_map}
use Rattle.transition_formula.specs.Places.{first_place}
use Rattle.transition_formula.specs.Rows.{are_opposite}
use Rattle.transition_formula.proofs.places.first_opposite.Given as goal

abbrev pub invariant-loop-place : goal.invariant-loop-place
invariant-loop-place l = option_map (λ n. n + l.place) (first_place (are_opposite l.row) (drop l.place l.rows)) ≡ first_place (are_opposite l.row) l.rows
