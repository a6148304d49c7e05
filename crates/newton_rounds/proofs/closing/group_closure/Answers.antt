use Rattle.std.proofs.Common.{sym, subst}
use Rattle.newton_rounds.specs.Between.{AreBases, AreSummaries}
use Rattle.newton_rounds.specs.Claims.{AreKnownMembers}
use Rattle.newton_rounds.proofs.MatchLoops.{if_ok-more}
use Rattle.newton_rounds.proofs.ReadyGroups.{table-known}
use Rattle.newton_rounds.proofs.closing.group_closure.Goals as goal

pub closure_of-requires-clause-bases : goal.closure_of-requires-clause-bases
closure_of-requires-clause-bases g c = subst (AreBases c.args.group.members.now) (sym c.as_slice-bases.ensures) c.in_ok-bases.ensures.fits

pub returns-then-linear-clause-known : goal.returns-then-linear-clause-known
returns-then-linear-clause-known g c =
    let group = c.args.group in
    if_ok-more (AreSummaries group.members.now) (AreKnownMembers group.program.now group.procs.now) c.closure_of.result (table-known group c.requires) c.closure_of.ensures.fits

pub closure_by_rounds-requires-clause-bases : goal.closure_by_rounds-requires-clause-bases
closure_by_rounds-requires-clause-bases g c = subst (AreBases c.args.group.members.now) (sym c.as_slice-bases.ensures) c.in_ok-bases.ensures.fits

pub returns-clause-known : goal.returns-clause-known
returns-clause-known g c =
    let group = c.args.group in
    if_ok-more (AreSummaries group.members.now) (AreKnownMembers group.program.now group.procs.now) c.closure_by_rounds.result (table-known group c.requires) c.closure_by_rounds.ensures.fits
