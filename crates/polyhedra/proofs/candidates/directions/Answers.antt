use Rattle.std.proofs.Common.{◌≡◌, List, [], ◌++◌, Ok, sym, ap, ◌∙◌}
use Rattle.std.specs.List.{flat_map}
use Rattle.linear_terms.specs.declared.col.Col.TheVariants.{At}
use Rattle.linear_terms.specs.Expressions.{Made, column}
use Rattle.polyhedra.specs.Directions.{both_signs, less_others, directions}
use Rattle.polyhedra.specs.Keys.{with_each}
use Rattle.polyhedra.proofs.DirectionSets.{with_each-append}
use Rattle.polyhedra.proofs.candidates.directions.Goals as goal

joined : (xs ys zs : List Made) → with_each [] (xs ++ ys ++ zs) ≡ with_each (with_each (with_each [] xs) ys) zs
joined xs ys zs = with_each-append [] (xs ++ ys) zs ∙ ap (λ ds. with_each ds zs) (with_each-append [] xs ys)

pub returns : goal.returns
unfolding directions
returns c =
    let voc = c.args.voc.now in
    c.from_vec.ensures ∙ c.in_ok-add_terms.ensures.made
    ∙ (λ i. with_each (c.in_ok-add_differences.ensures.made i) (flat_map (λ h. both_signs (Ok h)) (c.harvested_terms.ensures i)))
    ∙ (λ i. with_each (with_each (c.in_ok-add_columns.ensures.made i) (flat_map (less_others (c.named_columns-2.ensures i)) (c.named_columns-2.ensures i))) (flat_map (λ h. both_signs (Ok h)) voc.harvested))
    ∙ (λ i. with_each (with_each (with_each (c.new-made.ensures.items i) (flat_map (λ v. both_signs (column (At v))) (c.named_columns.ensures i))) (flat_map (less_others voc.named) voc.named)) (flat_map (λ h. both_signs (Ok h)) voc.harvested))
    ∙ sym (joined (flat_map (λ v. both_signs (column (At v))) voc.named) (flat_map (less_others voc.named) voc.named) (flat_map (λ h. both_signs (Ok h)) voc.harvested))
