use Rattle.std.proofs.Common.{[], drop, length}
use Rattle.std.specs.List.{range_with_len}
use Rattle.posing.specs.Follows.{Leads}
use Rattle.posing.specs.Posing.{each}
use Rattle.point_states.specs.Additions.{AddsStates, TellsProcedure}
use Rattle.point_states.specs.AllStates.{states_of_points, with_procedure}
use Rattle.point_states.proofs.states.point_states.Given as goal

abbrev pub invariant-loop-number : goal.invariant-loop-number
invariant-loop-number g l =
    record {
      leads : Leads g.O.Oracle.asking l.initial.oracle l.oracle l.initial.log l.log (states_of_points l.program l.entries l.flows)
          (each (with_procedure l.program l.entries l.flows) l.made (drop l.number (range_with_len 0 (length l.program.procs))));
      added : AddsStates l.program (TellsProcedure l.program l.entries l.flows) (range_with_len 0 l.number) [] l.made;
    }
