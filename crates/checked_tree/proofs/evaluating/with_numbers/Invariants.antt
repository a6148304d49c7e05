use Rattle.std.proofs.Common.{drop}
use Rattle.posing.specs.Follows.{Leads}
use Rattle.posing.specs.Posing.{each}
use Rattle.checked_tree.specs.ByNumber.{with_number}
use Rattle.checked_tree.specs.Growing.{graph_in, entries_in, KeepsGrowing}
use Rattle.checked_tree.proofs.evaluating.with_numbers.Given as goal

abbrev pub invariant-loop-number : goal.invariant-loop-number
invariant-loop-number g l =
    Leads g.O.Oracle.asking l.initial.oracle l.oracle l.initial.log l.log
    (each (with_number (graph_in l.graph) l.keys) (entries_in l.fn.growths) l.order)
    (each (with_number (graph_in l.graph) l.keys) (entries_in l.made) (drop l.number-index l.order))
    × KeepsGrowing (graph_in l.graph) l.keys l.initial.log l.fn.growths l.order l.log l.made (drop l.number-index l.order)
