use Rattle.std.proofs.Common.{drop}
use Rattle.posing.specs.Follows.{Leads}
use Rattle.question_examples.specs.Calls.{first_excluded}
use Rattle.question_examples.proofs.calls.first_excluded.Given as goal

abbrev pub invariant-loop-place : goal.invariant-loop-place
invariant-loop-place g l = Leads g.O.Oracle.asking l.initial.oracle l.oracle l.initial.log l.log (first_excluded 0 l.lists) (first_excluded l.place (drop l.place l.lists))
