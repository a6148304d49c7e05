use Rattle.std.proofs.Common.{[], drop}
use Rattle.posing.specs.Follows.{Leads}
use Rattle.posing.specs.Posing.{each}
use Rattle.newton_rounds.specs.Candidates.{with_judged}
use Rattle.newton_rounds.proofs.rounds.judgements_by.Given as goal

abbrev pub invariant-loop-row : goal.invariant-loop-row
invariant-loop-row g l =
    Leads g.O.Oracle.asking l.initial.oracle l.oracle l.initial.log l.log (each (with_judged l.f) [] l.rows) (each (with_judged l.f) l.judged (drop l.row-index l.rows))
