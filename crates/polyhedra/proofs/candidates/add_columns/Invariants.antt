use Rattle.std.proofs.Common.{◌≡◌, drop}
use Rattle.std.specs.List.{flat_map}
use Rattle.linear_terms.specs.Expressions.{column}
use Rattle.linear_terms.specs.declared.col.Col.TheVariants.{At}
use Rattle.polyhedra.specs.Directions.{both_signs}
use Rattle.polyhedra.specs.Keys.{TellsMade, with_each}
use Rattle.polyhedra.proofs.candidates.add_columns.Given as goal

abbrev pub invariant-loop-v : goal.invariant-loop-v
invariant-loop-v l =
    record {
      known : TellsMade l.known l.made.items;
      made : with_each l.made.items (flat_map (λ v. both_signs (column (At v))) (drop l.v-index l.named)) ≡ with_each l.initial.made.items (flat_map (λ v. both_signs (column (At v))) l.named);
    }
