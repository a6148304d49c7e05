use Rattle.std.proofs.Common.{◌≡◌, ◌++◌, drop}
use Rattle.recurrence.specs.Products.{columns_after_turn}
use Rattle.recurrence.proofs.solving.columns_after_turn.Given as goal

abbrev pub invariant-loop-next : goal.invariant-loop-next
invariant-loop-next l = l.all ++ columns_after_turn (drop l.next-index l.known) ≡ columns_after_turn l.known
