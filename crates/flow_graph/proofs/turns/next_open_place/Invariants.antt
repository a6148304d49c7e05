use Rattle.std.proofs.Common.{◌≡◌, ℕ, ◌<◌, ◌≤◌, true, get_or}
use Rattle.flow_graph.specs.Turns.{is_past}
use Rattle.flow_graph.proofs.turns.next_open_place.Given as goal

abbrev pub invariant-loop-at : goal.invariant-loop-at
invariant-loop-at l = (i : ℕ) → l.from ≤ i → i < l.at → is_past l.groups l.come l.group (get_or l.row i 0) ≡ true
