use Rattle.std.proofs.Common.{[], ◌++◌, List, drop}
use Rattle.transition_formula.specs.Transition.{Transition}
use Rattle.posing.specs.Follows.{Leads}
use Rattle.posing.specs.Posing.{each}
use Rattle.newton_rounds.specs.Between.{AreBases}
use Rattle.newton_rounds.specs.Closure.{ends_of_members, with_base}
use Rattle.newton_rounds.specs.Members.{members_of}
use Rattle.newton_rounds.proofs.bases.bases_by.Given as goal

abbrev pub invariant-loop-proc : goal.invariant-loop-proc
invariant-loop-proc g l =
    record {
      leads :
          Leads g.O.Oracle.asking l.initial.oracle l.oracle l.initial.log l.log (each (with_base l.group.program.now l.group.known.now) [] (members_of l.group.program.now l.group.procs.now))
          (each (with_base l.group.program.now l.group.known.now) l.made (members_of l.group.program.now (drop l.proc-index l.group.procs.now)));
      -- bases of those that are left are bases of all, behind what is made
      fits :
          (rest : List Transition) → AreBases (ends_of_members l.group.program.now (drop l.proc-index l.group.procs.now)) rest → AreBases l.group.members.now (l.made ++ rest);
    }
