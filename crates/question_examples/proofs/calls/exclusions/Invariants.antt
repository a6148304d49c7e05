use Rattle.std.proofs.Common.{drop}
use Rattle.posing.specs.Follows.{Leads}
use Rattle.posing.specs.Posing.{each}
use Rattle.question_examples.specs.Calls.{exclusions, with_exclusion}
use Rattle.question_examples.proofs.calls.exclusions.Given as goal

abbrev pub invariant-loop-rows : goal.invariant-loop-rows
invariant-loop-rows g l = Leads g.O.Oracle.asking l.initial.oracle l.oracle l.initial.log l.log (exclusions l.lists) (each with_exclusion l.made (drop l.rows-index l.lists))
