use Rattle.std.proofs.Common.{◌≡◌, ◌+◌}
use Rattle.std.specs.Prelude.{false, if◌then◌else◌}
use Rattle.posing.specs.Posing.{until}
use Rattle.point_rounds.specs.declared.round.PointRound.{PointRound}
use Rattle.point_rounds.specs.Closed.{AreStepsFrom, CoverTable}
use Rattle.point_rounds.specs.Rounds.{before_rounds, most_rounds, round, row_count}
use Rattle.point_rounds.specs.Table.{IsTable}
use Rattle.point_rounds.proofs.RoundLoops.{AreRounds}
use Rattle.point_rounds.proofs.rounds.last_round.Given as goal

abbrev pub invariant-loop-fell : goal.invariant-loop-fell
invariant-loop-fell g l =
    record {
      turns :
          AreRounds g.O.Oracle.asking l.initial.oracle l.oracle l.initial.log l.log
          (until (λ (left : PointRound). round l.source.program.now l.source.known.now l.source.states.now left.table) (most_rounds l.fn.table) (before_rounds l.fn.table))
          (λ (left : PointRound). round l.source.program.now l.source.known.now l.source.states.now left.table) l.left l.fell;
      shape : IsTable l.source.program.now l.left.table;
      steps : AreStepsFrom l.source.program.now l.left.steps;
      covers : l.fell ≡ false → CoverTable l.source.program.now l.source.known.now l.source.states.now l.left.steps l.left.table;
    }

abbrev pub decreases-loop-fell : goal.decreases-loop-fell
decreases-loop-fell g l = row_count l.left.table + (if l.fell then 1 else 0)
