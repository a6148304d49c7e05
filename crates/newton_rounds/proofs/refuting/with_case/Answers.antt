use Rattle.std.proofs.Common.{◌++◌, ◌∙◌, sym, ap, subst}
use Rattle.transition_formula.specs.Loss.{losses_of}
use Rattle.transition_formula.specs.Rounds.{in_order}
use Rattle.transition_formula.specs.Transition.{IsSolvable}
use Rattle.posing.specs.Logs.{loss_notes}
use Rattle.posing.proofs.Steps.{in_other_words, notes_first}
use Rattle.newton_rounds.specs.Candidates.{contrary, found_left, with_case}
use Rattle.newton_rounds.specs.Shapes.{case_left_of}
use Rattle.newton_rounds.proofs.Opposite.{against-solvable}
use Rattle.newton_rounds.proofs.RowRefutations.{kept-solved}
use Rattle.newton_rounds.proofs.refuting.with_case.Goals as goal

pub solve-requires-clause-numbered : goal.solve-requires-clause-numbered
solve-requires-clause-numbered g c =
    let solvable = subst IsSolvable (sym c.in_ok-whole.ensures.made) (against-solvable c.args.from c.args.case.now c.args.row.now c.requires) in solvable.numbered

pub returns : goal.returns
unfolding with_case
returns g c =
    let whole = c.in_ok-whole.ensures.made in
    let first = losses_of (contrary c.args.from c.args.case.now c.args.row.now) in
    notes_first c.in_ok-add_losses.ensures
    (ap loss_notes
    (c.as_slice.ensures
    ∙ c.in_ok-left.ensures.noted
    ∙ (λ i. (c.in_ok-whole.ensures.noted ∙ ap (λ l. l ++ first) c.new-lost.ensures) i ++ (in_order (whole i)).losses)))
    (in_other_words
    (ap (found_left c.args.found) (ap case_left_of c.in_ok-left.ensures.exact ∙ kept-solved (in_order c.in_ok-whole.whole).left ∙ (λ i. (in_order (whole i)).left)))
    c.found_left.ensures)
