use Rattle.std.proofs.Common.{map, ap, ◌++◌, ◌∙◌}
use Rattle.std.specs.Prelude.{not}
use Rattle.std.specs.List.{filter}
use Rattle.recurrence.specs.Strata.{steady}
use Rattle.recurrence.specs.Words.{is_among}
use Rattle.recurrence.proofs.RisingNumbers.{steady-same}
use Rattle.recurrence.proofs.stratifying.over.Goals as goal

pub returns : goal.returns
returns c =
    let modified = c.as_slice.ensures ∙ c.requires.movement.modified in
    let occurring = c.as_slice-2.ensures ∙ c.requires.movement.occurring in
    let columns = c.as_slice-3.ensures ∙ c.in_ok-columns.ensures ∙ (λ i. filter (λ v. not (is_among (modified i) v)) (occurring i)) ∙ steady-same c.args.body.formula.now c.requires.ends in
    c.in_ok-append-2.ensures.ok ∙ (λ i. (c.in_ok-append.ensures.ok ∙ (λ j. (c.in_ok-lower.ensures ∙ ap (map steady) columns) j ++ c.in_ok-recurrences_in.ensures j)) i ++ c.in_ok-sequences.ensures i)
