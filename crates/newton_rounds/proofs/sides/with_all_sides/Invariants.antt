use Rattle.std.proofs.Common.{drop, map}
use Rattle.syntax_tree.specs.declared.program.Proc.{Proc}
use Rattle.syntax_tree.specs.WellFormed.{width_of}
use Rattle.posing.specs.Follows.{Leads}
use Rattle.posing.specs.Posing.{each}
use Rattle.vocabularies.specs.Procs.{IsProcOf}
use Rattle.newton_rounds.specs.Closure.{with_sides}
use Rattle.newton_rounds.specs.Groups.{subject_in}
use Rattle.newton_rounds.specs.Shapes.{AddSides, plain_call}
use Rattle.newton_rounds.proofs.sides.with_all_sides.Given as goal

abbrev pub invariant-loop-call : goal.invariant-loop-call
invariant-loop-call g l =
    record {
      leads :
          (p : Proc) → IsProcOf l.group.program.now l.caller.proc p →
          Leads g.O.Oracle.asking l.initial.oracle l.oracle l.initial.log l.log (each (with_sides (subject_in l.group p) l.caller.starts.now) l.fn.made (map plain_call l.calls))
          (each (with_sides (subject_in l.group p) l.caller.starts.now) l.all (drop l.call-index (map plain_call l.calls)));
      fits : (p : Proc) → IsProcOf l.group.program.now l.caller.proc p → AddSides (width_of l.group.program.now p) l.call-index l.fn.made l.all;
    }
