use Rattle.std.proofs.Common.{◌≡◌, ◌≤◌, ◌+◌, ◌*◌, [], length, map}
use Rattle.syntax_tree.specs.SourceLine.{source_line_of}
use Rattle.c_parser.specs.Spots.{spots_of}
use Rattle.c_parser.specs.Statements.{entries, line_read}
use Rattle.c_parser.specs.Limits.{most_binary_operators}
use Rattle.c_parser.proofs.line.+line.Given as goal

abbrev pub decreases-line : goal.decreases-line
decreases-line l = 20 * l.levels + 10

abbrev pub decreases-keyword_line : goal.decreases-keyword_line
decreases-keyword_line l = 20 * l.levels + 9

abbrev pub decreases-block_line : goal.decreases-block_line
decreases-block_line l = 20 * l.levels + 8

abbrev pub decreases-if_line : goal.decreases-if_line
decreases-if_line l = 20 * l.levels + 8

abbrev pub decreases-while_line : goal.decreases-while_line
decreases-while_line l = 20 * l.levels + 8

abbrev pub decreases-do_line : goal.decreases-do_line
decreases-do_line l = 20 * l.levels + 8

abbrev pub decreases-for_line : goal.decreases-for_line
decreases-for_line l = 20 * l.levels + 8

abbrev pub decreases-otherwise : goal.decreases-otherwise
decreases-otherwise l = 20 * l.level + 11

abbrev pub decreases-entry : goal.decreases-entry
decreases-entry l = 20 * l.level + 11

abbrev pub decreases-entries : goal.decreases-entries
decreases-entries l = 20 * l.level + 12

abbrev pub decreases-block : goal.decreases-block
decreases-block l = 20 * l.level + 13

-- what is still to be read comes to what the function is to give
abbrev pub invariant-entries-entries : goal.invariant-entries-entries
invariant-entries-entries l = record {
  stated : entries most_binary_operators (line_read most_binary_operators l.level) l.level (map source_line_of l.lines, spots_of l.after)
      ≡ entries most_binary_operators (line_read most_binary_operators l.level) l.level ([], spots_of l.fn.tokens);
  within : length l.after ≤ length l.fn.tokens;
}

abbrev pub decreases-entries-entries : goal.decreases-entries-entries
decreases-entries-entries l = length l.after
