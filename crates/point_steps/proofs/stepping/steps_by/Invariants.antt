use Rattle.std.proofs.Common.{drop, take}
use Rattle.posing.specs.Follows.{Leads}
use Rattle.posing.specs.Posing.{each}
use Rattle.point_steps.specs.Parts.{CoverOuts}
use Rattle.point_steps.specs.Steps.{steps_by, with_step}
use Rattle.point_steps.proofs.stepping.steps_by.Given as goal

abbrev pub invariant-loop-out : goal.invariant-loop-out
invariant-loop-out g l =
    record {
      leads : Leads g.O.Oracle.asking l.initial.oracle l.oracle l.initial.log l.log (steps_by l.point.columns l.point.places.now l.point.state.now l.outs)
          (each (with_step l.point.columns l.point.places.now l.point.state.now) l.made (drop l.out-index l.outs));
      covers : CoverOuts l.point.columns l.point.places.now l.point.state.now (take l.out-index l.outs) l.made;
    }
