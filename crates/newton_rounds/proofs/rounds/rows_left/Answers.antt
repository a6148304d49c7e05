use Rattle.std.proofs.Common.{ap, subst, ◌∙◌}
use Rattle.posing.specs.Logs.{HasNoted}
use Rattle.newton_rounds.specs.Candidates.{some_note}
use Rattle.newton_rounds.proofs.RoundRows.{none-noted}
use Rattle.newton_rounds.proofs.rounds.rows_left.Goals as goal

pub returns-clause-noted : goal.returns-clause-noted
returns-clause-noted c = subst (HasNoted c.args.log.now c.add_notes.new.self) c.in_ok-notes.ensures c.in_ok-add_notes.ensures

pub returns-clause-exact : goal.returns-clause-exact
returns-clause-exact c =
    let dropped = none-noted c.is_empty-dropped.result c.in_ok-notes.notes c.is_empty-dropped.ensures ∙ ap some_note c.in_ok-notes.ensures in
    λ i. (c.in_ok-kept.ensures i, dropped i)
