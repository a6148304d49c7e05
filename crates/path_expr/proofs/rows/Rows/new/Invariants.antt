use Rattle.std.proofs.Common.{◌≡◌, ℕ, None, length}
use Rattle.std.specs.List.{slice_get}
use Rattle.path_expr.specs.Table.{row_entry}
use Rattle.path_expr.proofs.rows.Rows.new.Given as goal

abbrev pub invariant-loop : goal.invariant-loop
invariant-loop g l = record {
  counted : length l.maps.items ≡ l.counter;
  empty : (i j : ℕ) → row_entry (slice_get l.maps.items i) j ≡ None;
}
