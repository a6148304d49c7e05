use Rattle.std.proofs.Common.{drop}
use Rattle.posing.specs.Follows.{Leads}
use Rattle.posing.specs.Posing.{each}
use Rattle.newton_rounds.specs.Candidates.{members_with, no_judgements, with_round}
use Rattle.newton_rounds.specs.Members.{members_of}
use Rattle.newton_rounds.proofs.rounds.judgements_in.Given as goal

abbrev pub invariant-loop-place : goal.invariant-loop-place
invariant-loop-place g l =
    Leads g.O.Oracle.asking l.initial.oracle l.oracle l.initial.log l.log (each (with_round l.group.program.now l.group.known.now) no_judgements (members_with (members_of l.group.program.now l.group.procs.now) l.candidates))
    (each (with_round l.group.program.now l.group.known.now) l.made (members_with (members_of l.group.program.now (drop l.place l.group.procs.now)) (drop l.place l.candidates)))
