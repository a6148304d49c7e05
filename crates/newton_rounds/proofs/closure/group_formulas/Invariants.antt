use Rattle.std.proofs.Common.{[], ◌-◌, length}
use Rattle.std.specs.List.{range_with_len}
use Rattle.posing.specs.Follows.{Leads}
use Rattle.posing.specs.Posing.{each}
use Rattle.newton_rounds.specs.Closure.{with_closed}
use Rattle.newton_rounds.specs.Groups.{stretches_in}
use Rattle.newton_rounds.proofs.closure.group_formulas.Given as goal

abbrev pub invariant-loop-place : goal.invariant-loop-place
invariant-loop-place g l =
    Leads g.O.Oracle.asking l.initial.oracle l.oracle l.initial.log l.log
    (each (with_closed l.graph.members.now (stretches_in l.graph) l.bases) [] (range_with_len 0 (length l.graph.members.now)))
    (each (with_closed l.graph.members.now (stretches_in l.graph) l.bases) l.made (range_with_len l.place (length l.graph.members.now - l.place)))
