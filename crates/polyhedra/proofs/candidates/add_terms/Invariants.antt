use Rattle.std.proofs.Common.{◌≡◌, drop, Ok}
use Rattle.std.specs.List.{flat_map}
use Rattle.polyhedra.specs.Directions.{both_signs}
use Rattle.polyhedra.specs.Keys.{TellsMade, with_each}
use Rattle.polyhedra.proofs.candidates.add_terms.Given as goal

abbrev pub invariant-loop-term : goal.invariant-loop-term
invariant-loop-term l =
    record {
      known : TellsMade l.known l.made.items;
      made : with_each l.made.items (flat_map (λ h. both_signs (Ok h)) (drop l.term-index l.harvested)) ≡ with_each l.initial.made.items (flat_map (λ h. both_signs (Ok h)) l.harvested);
    }
