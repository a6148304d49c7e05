use Rattle.std.proofs.Common.{◌+◌, List, drop, Ok, sym, ap, ◌∙◌}
use Rattle.std.specs.List.{flat_map}
use Rattle.linear_terms.specs.Expressions.{Made}
use Rattle.linear_terms.specs.Polynomial.{Polynomial}
use Rattle.polyhedra.specs.Directions.{both_signs}
use Rattle.polyhedra.specs.Keys.{with_each}
use Rattle.polyhedra.proofs.DirectionSets.{with_each-next}
use Rattle.polyhedra.proofs.candidates.add_terms.Goals as goal

unfoldable of_term : Polynomial → List Made
of_term p = both_signs (Ok p)

pub loop-term-preserved : goal.loop-term-preserved
unfolding of_term
loop-term-preserved c =
    let harvested = c.args.harvested.now in
    record {
      known = c.in_ok-add_both_signs.ensures.known;
      made =
          ap (λ (ds : List Polynomial). with_each ds (flat_map of_term (drop (c.loop-term.term-index + 1) harvested)))
          (c.in_ok-add_both_signs.ensures.made ∙ ap (λ (p : Polynomial). with_each c.loop-term.made.items (of_term p)) (c.in_ok-poly.ensures.cases ∙ c.term-item.is))
          ∙ sym (with_each-next of_term c.loop-term.made.items harvested c.loop-term.term-index c.term-item.result c.loop-term-test.true)
          ∙ c.loop-term.invariant.made;
    }
