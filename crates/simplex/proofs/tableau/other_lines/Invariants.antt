use Rattle.std.proofs.Common.{◌≡◌, length}
use Rattle.std.specs.Vec.Iter.{into_iter_items}
use Rattle.simplex.specs.Exchange.{behind, lines_without}
use Rattle.simplex.proofs.tableau.other_lines.Given as goal

abbrev pub invariant-loop-own : goal.invariant-loop-own
invariant-loop-own l =
    behind l.made (lines_without l.column l.pivot l.line (length l.made) (into_iter_items l.own-iterator)) ≡ lines_without l.column l.pivot l.line 0 l.fn.lines
