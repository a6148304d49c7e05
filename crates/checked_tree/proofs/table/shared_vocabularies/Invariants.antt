use Rattle.std.proofs.Common.{◌≡◌, ◌++◌, map, drop}
use Rattle.std.specs.Rc.{rc_value}
use Rattle.checked_tree.proofs.table.shared_vocabularies.Given as goal

abbrev pub invariant-loop-voc : goal.invariant-loop-voc
invariant-loop-voc l = map rc_value l.all ++ drop l.voc-index l.nodes ≡ l.nodes
