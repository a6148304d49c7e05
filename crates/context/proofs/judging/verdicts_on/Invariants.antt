use Rattle.std.proofs.Common.{[], drop, take}
use Rattle.posing.specs.Follows.{Leads}
use Rattle.posing.specs.Posing.{each}
use Rattle.context.specs.Judging.{AreVerdictsOn}
use Rattle.context.specs.Verdicts.{with_verdict}
use Rattle.context.proofs.judging.verdicts_on.Given as goal

abbrev pub invariant-loop-case : goal.invariant-loop-case
invariant-loop-case g l =
    record {
      leads : Leads g.O.Oracle.asking l.initial.oracle l.oracle l.initial.log l.log (each (with_verdict l.rule) [] l.cases) (each (with_verdict l.rule) l.made (drop l.case-index l.cases));
      known : AreVerdictsOn (take l.case-index l.cases) l.made;
    }
