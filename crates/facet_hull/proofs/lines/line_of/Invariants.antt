use Rattle.std.proofs.Common.{◌≡◌, ◌++◌, drop}
use Rattle.farkas_check.specs.Frames.{line_of}
use Rattle.facet_hull.proofs.lines.line_of.Given as goal

abbrev pub invariant-loop-column : goal.invariant-loop-column
invariant-loop-column l = l.made ++ line_of (drop l.column-index l.columns) l.poly ≡ line_of l.columns l.poly
