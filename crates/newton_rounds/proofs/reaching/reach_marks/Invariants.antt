use Rattle.newton_rounds.specs.Reached.{IsMarked, count_unmarked}
use Rattle.newton_rounds.proofs.reaching.reach_marks.Given as goal

abbrev pub invariant-loop : goal.invariant-loop
invariant-loop l = record { marked : IsMarked l.nodes l.links l.starts l.marks.items }

abbrev pub decreases-loop : goal.decreases-loop
decreases-loop l = count_unmarked l.marks.items
