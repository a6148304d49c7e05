use Rattle.std.proofs.Common.{◌+◌}
use Rattle.std.specs.Prelude.{if◌then◌else◌}
use Rattle.posing.specs.Posing.{until}
use Rattle.newton_rounds.specs.declared.findings.RoundEnd.{RoundEnd}
use Rattle.newton_rounds.specs.Between.{AreCandidates, row_count}
use Rattle.newton_rounds.specs.Candidates.{before_rounds, most_rounds, round}
use Rattle.newton_rounds.proofs.RoundRows.{AreRounds}
use Rattle.newton_rounds.proofs.rounds.last_round.Given as goal

abbrev pub invariant-loop-dropped : goal.invariant-loop-dropped
invariant-loop-dropped g l =
    record {
      turns :
          AreRounds g.O.Oracle.asking l.initial.oracle l.oracle l.initial.log l.log
          (until (λ (end : RoundEnd). round l.group.program.now l.group.procs.now l.group.known.now end.candidates) (most_rounds l.fn.candidates) (before_rounds l.fn.candidates))
          (λ (end : RoundEnd). round l.group.program.now l.group.procs.now l.group.known.now end.candidates) l.left l.dropped;
      over : AreCandidates l.group.members.now l.left.candidates;
    }

abbrev pub decreases-loop-dropped : goal.decreases-loop-dropped
decreases-loop-dropped g l = row_count l.left.candidates + (if l.dropped then 1 else 0)
