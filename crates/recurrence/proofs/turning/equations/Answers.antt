use Rattle.std.proofs.Common.{◌≡◌, ℕ, ◌+◌, ◌<◌, List, ◌∷◌, ◌++◌, Option, None, Some, length, drop, get_or, refl, sym, ap, ◌∙◌, append_assoc}
use Rattle.std.specs.List.{cons_option, filter_map, flat_map}
use Rattle.std.specs.Prelude.{option_to_list}
use Rattle.std.proofs.lemmas.List.{drop_more}
use Rattle.linear_terms.specs.declared.col.Col.{Col}
use Rattle.linear_terms.specs.declared.row.Row.{Row}
use Rattle.transition_formula.specs.Loss.{answer_of, losses_of}
use Rattle.transition_formula.specs.declared.loss.Loss.{Loss}
use Rattle.recurrence.specs.declared.terms.StratumTerm.{StratumTerm}
use Rattle.recurrence.specs.Words.{row_of_term}
use Rattle.recurrence.proofs.turning.equations.Goals as goal

module _ (ms : List (List Col)) (us vs : List ℕ) (terms : List StratumTerm) (i : ℕ) (t : StratumTerm) (within : i < length terms) (is : t ≡ get_or terms i t) where
  here : drop i terms ≡ t ∷ drop (i + 1) terms
  here = drop_more terms i t within ∙ ap (λ q. q ∷ drop (i + 1) terms) (sym is)

  onto : (o : Option Row) (rest : List Row) → cons_option o rest ≡ option_to_list o ++ rest
  onto None rest = refl
  onto (Some row) rest = refl

  rows-more : (rows : List Row) → rows ++ filter_map (λ u. answer_of (row_of_term ms us vs u)) (drop i terms) ≡ (rows ++ option_to_list (answer_of (row_of_term ms us vs t))) ++ filter_map (λ u. answer_of (row_of_term ms us vs u)) (drop (i + 1) terms)
  rows-more rows =
      ap (λ rs. rows ++ filter_map (λ u. answer_of (row_of_term ms us vs u)) rs) here
      ∙ ap (λ x. rows ++ x) (onto (answer_of (row_of_term ms us vs t)) (filter_map (λ u. answer_of (row_of_term ms us vs u)) (drop (i + 1) terms)))
      ∙ sym (append_assoc rows (option_to_list (answer_of (row_of_term ms us vs t))) (filter_map (λ u. answer_of (row_of_term ms us vs u)) (drop (i + 1) terms)))

  losses-more : (losses : List Loss) → losses ++ flat_map (λ u. losses_of (row_of_term ms us vs u)) (drop i terms) ≡ (losses ++ losses_of (row_of_term ms us vs t)) ++ flat_map (λ u. losses_of (row_of_term ms us vs u)) (drop (i + 1) terms)
  losses-more losses =
      ap (λ rs. losses ++ flat_map (λ u. losses_of (row_of_term ms us vs u)) rs) here
      ∙ sym (append_assoc losses (losses_of (row_of_term ms us vs t)) (flat_map (λ u. losses_of (row_of_term ms us vs u)) (drop (i + 1) terms)))

pub loop-term-preserved : goal.loop-term-preserved
loop-term-preserved c =
    let ms = c.args.monos.now in
    let us = c.args.modified.now in
    let vs = c.args.moving.now in
    let stated = row_of_term ms us vs c.term-item.result in
    let gives = c.term_row-row.ensures vs c.requires.ascending (c.as_slice.ensures ∙ c.in_ok-columns.ensures) in
    let rows = c.in_ok-add_row.ensures.rows stated gives in
    let losses = c.in_ok-add_row.ensures.losses stated gives in
    record {
      rows =
          ap (λ (rs : List Row). rs ++ filter_map (λ u. answer_of (row_of_term ms us vs u)) (drop (c.loop-term.term-index + 1) c.args.terms.now)) rows
          ∙ sym (rows-more ms us vs c.args.terms.now c.loop-term.term-index c.term-item.result c.loop-term-test.true c.term-item.is c.loop-term.rows)
          ∙ c.loop-term.invariant.rows;
      losses =
          ap (λ (ls : List Loss). ls ++ flat_map (λ u. losses_of (row_of_term ms us vs u)) (drop (c.loop-term.term-index + 1) c.args.terms.now)) losses
          ∙ sym (losses-more ms us vs c.args.terms.now c.loop-term.term-index c.term-item.result c.loop-term-test.true c.term-item.is c.loop-term.losses)
          ∙ c.loop-term.invariant.losses;
    }
