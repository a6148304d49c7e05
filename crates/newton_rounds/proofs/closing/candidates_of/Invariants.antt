use Rattle.std.proofs.Common.{[], drop}
use Rattle.posing.specs.Follows.{Leads}
use Rattle.posing.specs.Posing.{each}
use Rattle.newton_rounds.specs.Close.{pairs_of, with_candidate}
use Rattle.newton_rounds.proofs.closing.candidates_of.Given as goal

abbrev pub invariant-loop-place : goal.invariant-loop-place
invariant-loop-place g l =
    Leads g.O.Oracle.asking l.initial.oracle l.oracle l.initial.log l.log (each with_candidate [] (pairs_of l.members l.table))
    (each with_candidate l.made (pairs_of (drop l.place l.members) (drop l.place l.table)))
