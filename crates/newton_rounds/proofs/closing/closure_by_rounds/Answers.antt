use Rattle.std.proofs.Common.{sym, ap, subst, refl}
use Rattle.posing.proofs.Steps.{in_other_words, value_first}
use Rattle.newton_rounds.specs.Between.{FitTable}
use Rattle.newton_rounds.specs.Close.{closure_by_rounds, rounds_after, rounds_over}
use Rattle.newton_rounds.proofs.ReadyGroups.{table-fits}
use Rattle.newton_rounds.proofs.closing.closure_by_rounds.Goals as goal

pub rounds_after-requires-clause-table : goal.rounds_after-requires-clause-table
rounds_after-requires-clause-table g c =
    let group = c.args.group in
    subst (FitTable group.program.now group.procs.now) (sym c.as_slice.ensures) (table-fits group c.requires.group c.in_ok-first.first c.in_ok-first.ensures.fits)

pub returns-clause-follows : goal.returns-clause-follows
unfolding closure_by_rounds rounds_after rounds_over
returns-clause-follows g c =
    let group = c.args.group in
    let after = rounds_after group.program.now group.procs.now group.known.now c.args.bases.now in
    value_first after c.in_ok-first.ensures.follows refl (in_other_words (ap after c.as_slice.ensures) c.rounds_after.ensures.follows)
