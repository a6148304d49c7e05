use Rattle.std.proofs.Common.{◌≡◌, ℕ, ◌+◌, ◌<◌, List, ◌∷◌, ◌++◌, Option, None, Some, length, drop, get_or, refl, sym, ap, ◌∙◌, append_assoc}
use Rattle.std.specs.List.{cons_option}
use Rattle.std.specs.Prelude.{option_to_list}
use Rattle.std.proofs.lemmas.List.{drop_more}
use Rattle.farkas_check.specs.declared.stratum.Relation.{Relation}
use Rattle.linear_terms.specs.Polynomial.{Polynomial}
use Rattle.linear_terms.specs.declared.row.Row.{Row}
use Rattle.transition_formula.specs.Loss.{answer_of, losses_of}
use Rattle.transition_formula.specs.declared.loss.Loss.{Loss}
use Rattle.polyhedra.specs.Squash.{relation_row, relation_rows, relation_losses}
use Rattle.polyhedra.proofs.relations.relation_rows.Goals as goal

module _ (terms lower : List Polynomial) (relations : List Relation) (i : ℕ) (r : Relation) (within : i < length relations) (is : r ≡ get_or relations i r) where
  here : drop i relations ≡ r ∷ drop (i + 1) relations
  here = drop_more relations i r within ∙ ap (λ q. q ∷ drop (i + 1) relations) (sym is)

  onto : (o : Option Row) (rest : List Row) → cons_option o rest ≡ option_to_list o ++ rest
  onto None rest = refl
  onto (Some row) rest = refl

  rows-more : (rows : List Row) → rows ++ relation_rows terms lower (drop i relations) ≡ (rows ++ option_to_list (answer_of (relation_row terms lower r))) ++ relation_rows terms lower (drop (i + 1) relations)
  rows-more rows =
      ap (λ rs. rows ++ relation_rows terms lower rs) here
      ∙ ap (λ x. rows ++ x) (onto (answer_of (relation_row terms lower r)) (relation_rows terms lower (drop (i + 1) relations)))
      ∙ sym (append_assoc rows (option_to_list (answer_of (relation_row terms lower r))) (relation_rows terms lower (drop (i + 1) relations)))

  losses-more : (losses : List Loss) → losses ++ relation_losses terms lower (drop i relations) ≡ (losses ++ losses_of (relation_row terms lower r)) ++ relation_losses terms lower (drop (i + 1) relations)
  losses-more losses =
      ap (λ rs. losses ++ relation_losses terms lower rs) here
      ∙ sym (append_assoc losses (losses_of (relation_row terms lower r)) (relation_losses terms lower (drop (i + 1) relations)))

pub loop-relation-preserved : goal.loop-relation-preserved
loop-relation-preserved c =
    let stated = relation_row c.args.terms.now c.args.lower.now c.relation-item.result in
    let rows = c.in_ok-add_row.ensures.rows stated c.relation_row-row.ensures in
    let losses = c.in_ok-add_row.ensures.losses stated c.relation_row-row.ensures in
    record {
      rows =
          ap (λ (rs : List Row). rs ++ relation_rows c.args.terms.now c.args.lower.now (drop (c.loop-relation.relation-index + 1) c.args.relations.now)) rows
          ∙ sym (rows-more c.args.terms.now c.args.lower.now c.args.relations.now c.loop-relation.relation-index c.relation-item.result c.loop-relation-test.true c.relation-item.is c.loop-relation.rows)
          ∙ c.loop-relation.invariant.rows;
      losses =
          ap (λ (ls : List Loss). ls ++ relation_losses c.args.terms.now c.args.lower.now (drop (c.loop-relation.relation-index + 1) c.args.relations.now)) losses
          ∙ sym (losses-more c.args.terms.now c.args.lower.now c.args.relations.now c.loop-relation.relation-index c.relation-item.result c.loop-relation-test.true c.relation-item.is c.loop-relation.losses)
          ∙ c.loop-relation.invariant.losses;
    }
