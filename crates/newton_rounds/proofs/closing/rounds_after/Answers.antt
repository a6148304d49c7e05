use Rattle.std.proofs.Common.{sym, ap, subst, refl}
use Rattle.posing.proofs.Steps.{in_other_words, value_first}
use Rattle.newton_rounds.specs.Between.{AreSummaries}
use Rattle.newton_rounds.specs.Close.{rounds_after, rounds_over}
use Rattle.newton_rounds.proofs.closing.rounds_after.Goals as goal

pub rounds_over-requires-clause-table : goal.rounds_over-requires-clause-table
rounds_over-requires-clause-table g c = subst (AreSummaries c.args.group.members.now) (sym c.as_slice.ensures) c.in_ok-second.ensures.fits

pub returns-clause-follows : goal.returns-clause-follows
unfolding rounds_after
returns-clause-follows g c =
    let over = rounds_over c.args.group.program.now c.args.group.procs.now c.args.group.known.now in
    value_first over c.in_ok-second.ensures.follows refl (in_other_words (ap over c.as_slice.ensures) c.rounds_over.ensures.follows)
