use Rattle.std.proofs.Common.{refl}
use Rattle.posing.proofs.Steps.{at_end, value_first}
use Rattle.point_reports.specs.Again.{with_judgement}
use Rattle.point_reports.proofs.again.with_judgement.Goals as goal

pub returns-clause-follows : goal.returns-clause-follows
unfolding with_judgement
returns-clause-follows g c = value_first _ c.in_ok-judged.ensures.follows refl (at_end c.in_ok-push.ensures.ok)

pub returns-clause-adds : goal.returns-clause-adds
returns-clause-adds g c = record { judged = c.in_ok-judged.judged; is = c.in_ok-push.ensures.ok; again = c.in_ok-judged.ensures.again }
