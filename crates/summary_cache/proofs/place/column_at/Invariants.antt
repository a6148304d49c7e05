use Rattle.std.proofs.Common.{◌≡◌, ◌+◌, ◌≤◌, drop}
use Rattle.summary_cache.specs.Place.{column_behind}
use Rattle.summary_cache.proofs.place.column_at.Given as goal

abbrev pub invariant-loop-byte : goal.invariant-loop-byte
invariant-loop-byte l = record {
  few : l.column ≤ l.byte-index + 1;
  behind : column_behind l.column (drop l.byte-index l.byte-items) ≡ column_behind 1 l.byte-items;
}
