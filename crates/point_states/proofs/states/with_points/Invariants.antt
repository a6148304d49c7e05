use Rattle.std.proofs.Common.{drop, take}
use Rattle.posing.specs.Follows.{Leads}
use Rattle.posing.specs.Posing.{each}
use Rattle.point_states.specs.Additions.{AddsStates, TellsStop}
use Rattle.point_states.specs.AllStates.{with_point, with_points}
use Rattle.point_states.proofs.states.with_points.Given as goal

abbrev pub invariant-loop-stop : goal.invariant-loop-stop
invariant-loop-stop g l =
    record {
      leads : Leads g.O.Oracle.asking l.initial.oracle l.oracle l.initial.log l.log (with_points l.owner.program.now l.owner.proc l.owner.begun.now l.fn.made l.points)
          (each (with_point l.owner.program.now l.owner.proc l.owner.begun.now) l.all (drop l.stop-index l.points));
      added : AddsStates l.owner.program.now (TellsStop l.owner.program.now l.owner.proc l.owner.begun.now) (take l.stop-index l.points) l.fn.made l.all;
    }
