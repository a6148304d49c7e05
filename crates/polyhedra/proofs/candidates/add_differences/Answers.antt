use Rattle.std.proofs.Common.{◌+◌, List, drop, sym, ap, ◌∙◌}
use Rattle.std.specs.List.{flat_map}
use Rattle.linear_terms.specs.Polynomial.{Polynomial}
use Rattle.polyhedra.specs.Directions.{less_others}
use Rattle.polyhedra.specs.Keys.{with_each}
use Rattle.polyhedra.proofs.DirectionSets.{with_each-next}
use Rattle.polyhedra.proofs.candidates.add_differences.Goals as goal

pub loop-u-preserved : goal.loop-u-preserved
loop-u-preserved c =
    let named = c.args.named.now in
    record {
      known = c.in_ok-add_less_others.ensures.known;
      made =
          ap (λ (ds : List Polynomial). with_each ds (flat_map (less_others named) (drop (c.loop-u.u-index + 1) named))) c.in_ok-add_less_others.ensures.made
          ∙ sym (with_each-next (less_others named) c.loop-u.made.items named c.loop-u.u-index 0 c.loop-u-test.true)
          ∙ c.loop-u.invariant.made;
    }
