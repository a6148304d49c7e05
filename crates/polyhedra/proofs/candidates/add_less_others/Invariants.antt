use Rattle.std.proofs.Common.{◌≡◌, drop}
use Rattle.polyhedra.specs.Directions.{less_others}
use Rattle.polyhedra.specs.Keys.{TellsMade, with_each}
use Rattle.polyhedra.proofs.candidates.add_less_others.Given as goal

abbrev pub invariant-loop-v : goal.invariant-loop-v
invariant-loop-v l =
    record {
      known : TellsMade l.known l.made.items;
      made : with_each l.made.items (less_others (drop l.v-index l.named) l.u) ≡ with_each l.initial.made.items (less_others l.named l.u);
    }
