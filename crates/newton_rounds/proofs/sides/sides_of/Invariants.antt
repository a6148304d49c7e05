use Rattle.std.proofs.Common.{[], ◌++◌, List, drop}
use Rattle.posing.specs.Follows.{Leads}
use Rattle.posing.specs.Posing.{each}
use Rattle.newton_rounds.specs.declared.calls.Sides.{Sides}
use Rattle.newton_rounds.specs.Closure.{with_places_from, with_member}
use Rattle.newton_rounds.specs.Members.{calls_from, members_of}
use Rattle.newton_rounds.specs.Shapes.{FitCalls}
use Rattle.newton_rounds.proofs.sides.sides_of.Given as goal

abbrev pub invariant-loop-place : goal.invariant-loop-place
invariant-loop-place g l =
    record {
      leads :
          Leads g.O.Oracle.asking l.initial.oracle l.oracle l.initial.log l.log
          (each (with_member l.group.program.now l.group.procs.now l.group.known.now) [] (with_places_from 0 (members_of l.group.program.now l.group.procs.now)))
          (each (with_member l.group.program.now l.group.procs.now l.group.known.now) l.made (with_places_from l.place (members_of l.group.program.now (drop l.place l.group.procs.now))));
      -- what fits the calls that are left, fits all behind what is made
      fits :
          (rest : List Sides) → FitCalls l.group.members.now (calls_from l.group.procs.now l.place (members_of l.group.program.now (drop l.place l.group.procs.now))) rest
          → FitCalls l.group.members.now (calls_from l.group.procs.now 0 (members_of l.group.program.now l.group.procs.now)) (l.made ++ rest);
    }
