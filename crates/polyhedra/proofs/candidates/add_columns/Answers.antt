use Rattle.std.proofs.Common.{ℕ, ◌+◌, List, drop, Ok, sym, ap, ◌∙◌}
use Rattle.std.specs.List.{flat_map}
use Rattle.linear_terms.specs.declared.col.Col.TheVariants.{At}
use Rattle.linear_terms.specs.Expressions.{Made, column}
use Rattle.linear_terms.specs.Polynomial.{Polynomial}
use Rattle.polyhedra.specs.Directions.{both_signs}
use Rattle.polyhedra.specs.Keys.{with_each}
use Rattle.polyhedra.proofs.DirectionSets.{with_each-next}
use Rattle.polyhedra.proofs.candidates.add_columns.Goals as goal

unfoldable of_column : ℕ → List Made
of_column v = both_signs (column (At v))

pub loop-v-preserved : goal.loop-v-preserved
unfolding of_column
loop-v-preserved c =
    let named = c.args.named.now in
    record {
      known = c.in_ok-add_both_signs.ensures.known;
      made =
          ap (λ (ds : List Polynomial). with_each ds (flat_map of_column (drop (c.loop-v.v-index + 1) named)))
          (c.in_ok-add_both_signs.ensures.made ∙ ap (λ (p : Polynomial). with_each c.loop-v.made.items (both_signs (Ok p))) c.in_ok-poly.ensures)
          ∙ sym (with_each-next of_column c.loop-v.made.items named c.loop-v.v-index 0 c.loop-v-test.true)
          ∙ c.loop-v.invariant.made;
    }
