use Rattle.std.proofs.Common.{◌≡◌, ◌≤◌, length, map}
use Rattle.syntax_tree.specs.SourceLine.{source_line_of}
use Rattle.c_parser.specs.Spots.{spots_of}
use Rattle.c_parser.specs.Statements.{variables}
use Rattle.c_parser.specs.Limits.{most_binary_operators}
use Rattle.c_parser.proofs.simple.variables.Given as goal

-- what is still to be read comes to what the function is to give
abbrev pub invariant-more : goal.invariant-more
invariant-more l = record {
  stated : variables most_binary_operators l.levels (map source_line_of l.lines, spots_of l.after)
      ≡ variables most_binary_operators l.levels (map source_line_of l.fn.first, spots_of l.fn.tokens);
  within : length l.after ≤ length l.fn.tokens;
}

abbrev pub decreases-more : goal.decreases-more
decreases-more l = length l.after
