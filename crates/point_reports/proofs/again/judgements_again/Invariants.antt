use Rattle.std.proofs.Common.{[], drop}
use Rattle.posing.specs.Follows.{Leads}
use Rattle.posing.specs.Posing.{each}
use Rattle.point_reports.specs.Again.{judgements_from, with_judgement}
use Rattle.point_reports.proofs.JudgedAgain.{AreAgainSoFar}
use Rattle.point_reports.proofs.again.judgements_again.Given as goal

abbrev pub invariant-loop-one : goal.invariant-loop-one
invariant-loop-one g l =
    record {
      leads : Leads g.O.Oracle.asking l.initial.oracle l.oracle l.initial.log l.log
          (each (with_judgement l.left.program.now l.left.round.now) [] (judgements_from 1 l.judged))
          (each (with_judgement l.left.program.now l.left.round.now) l.made (judgements_from l.number (drop l.one-index l.judged)));
      again : AreAgainSoFar l.left.program.now l.left.round.now l.judged l.number l.one-index l.made;
    }
