use Rattle.std.proofs.Common.{◌≡◌, ◌+◌, ◌≤◌, drop}
use Rattle.std.specs.List.{count_by}
use Rattle.summary_cache.specs.Place.{is_newline}
use Rattle.summary_cache.proofs.place.line_at.Given as goal

abbrev pub invariant-loop-byte : goal.invariant-loop-byte
invariant-loop-byte l = record {
  few : l.line ≤ l.byte-index + 1;
  count : l.line + count_by is_newline (drop l.byte-index l.byte-items) ≡ count_by is_newline l.byte-items + 1;
}
