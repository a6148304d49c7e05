use Rattle.std.proofs.Common.{◌≡◌}
use Rattle.transition_formula.specs.Places.{TellsPlaces}
use Rattle.transition_formula.specs.Rows.{each_once}
use Rattle.transition_formula.proofs.places.each_once.Given as goal

abbrev pub invariant-loop-row : goal.invariant-loop-row
invariant-loop-row l =
    record {
      made : l.made.items ≡ each_once l.yielded;
      places : TellsPlaces l.places l.made.items;
    }
