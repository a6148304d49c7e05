use Rattle.std.proofs.Common.{[], drop, take}
use Rattle.std.specs.List.{AllByRecursion}
use Rattle.posing.specs.Follows.{Leads}
use Rattle.posing.specs.Posing.{each}
use Rattle.point_rounds.specs.Closed.{AreStepsFrom, CoversState}
use Rattle.point_rounds.specs.Rounds.{with_state}
use Rattle.point_rounds.proofs.stepping.steps_by_known.Given as goal

abbrev pub invariant-loop-state : goal.invariant-loop-state
invariant-loop-state g l =
    record {
      leads : Leads g.O.Oracle.asking l.initial.oracle l.oracle l.initial.log l.log (each (with_state l.source.program.now l.source.known.now) [] l.states)
          (each (with_state l.source.program.now l.source.known.now) l.made (drop l.state-index l.states));
      fits : AreStepsFrom l.source.program.now l.made;
      covers : AllByRecursion (CoversState l.source.program.now l.source.known.now l.made) (take l.state-index l.states);
    }
