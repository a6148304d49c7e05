use Rattle.std.proofs.Common.{◌≡◌, ◌+◌, ◌≤◌, drop}
use Rattle.std.specs.List.{count_by}
use Rattle.summary_cache.specs.Place.{column_at, column_behind, is_newline, line_at}
use Rattle.summary_cache.proofs.place.place_from.Given as goal

abbrev pub invariant-loop-byte : goal.invariant-loop-byte
invariant-loop-byte l = record {
  few_lines : l.line ≤ l.byte-index + l.fn.last.line;
  few_columns : l.column ≤ l.byte-index + l.fn.last.column;
  lines : l.line + count_by is_newline (drop l.byte-index l.byte-items) ≡ line_at l.text l.fn.at;
  columns : column_behind l.column (drop l.byte-index l.byte-items) ≡ column_at l.text l.fn.at;
}
