use Rattle.std.proofs.Common.{◌≡◌, drop}
use Rattle.std.specs.List.{flat_map}
use Rattle.polyhedra.specs.Directions.{less_others}
use Rattle.polyhedra.specs.Keys.{TellsMade, with_each}
use Rattle.polyhedra.proofs.candidates.add_differences.Given as goal

abbrev pub invariant-loop-u : goal.invariant-loop-u
invariant-loop-u l =
    record {
      known : TellsMade l.known l.made.items;
      made : with_each l.made.items (flat_map (less_others l.named) (drop l.u-index l.named)) ≡ with_each l.initial.made.items (flat_map (less_others l.named) l.named);
    }
