use Rattle.std.proofs.Common.{◌≡◌, drop}
use Rattle.cones.specs.InBits.{behind, all_of}
use Rattle.facet_hull.specs.InBits as in_bits
use Rattle.facet_hull.proofs.lines.cone_lines.Given as goal

abbrev pub invariant-loop-row : goal.invariant-loop-row
invariant-loop-row l = behind l.lines (all_of (in_bits.row_lines l.columns) (drop l.row-index l.rows)) ≡ in_bits.cone_lines l.columns l.rows
