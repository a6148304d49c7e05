-- What contracts see of a sparse table.
use Rattle.std.specs.Prelude.{◌≡◌, ℕ, ◌≤◌, ◌<◌, Option, None, Some, IsSome, length, slice_get, min, nat_le, if◌then◌else◌}
use Rattle.std.specs.Ordering.{nat_cmp}
use Rattle.std.specs.BTreeMap.{get, BTreeMap}
use Rattle.path_expr.specs.declared.rows.Rows.{Rows}
use Rattle.path_expr.specs.declared.table.Table.{Table}

-- what a row holds at column j
abbrev pub row_entry : {T : Type 0} → Option (BTreeMap ℕ T) → ℕ → Option T
row_entry None j = None
row_entry (Some row) j = get nat_cmp row j

-- what rows hold at row i and column j
abbrev pub entry : {T : Type 0} → Rows T → ℕ → ℕ → Option T
entry rows i j = row_entry (slice_get rows.maps.items i) j

-- how many rows there are
abbrev pub row_count : {T : Type 0} → Rows T → ℕ
row_count rows = length rows.maps.items

-- the first place at or after `from` and below `end` that holds something, if there is one
abbrev pub IsNext : {T : Type 0} → (ℕ → Option T) → ℕ → ℕ → Option ℕ → Type 0
IsNext at from end None = (k : ℕ) → from ≤ k → k < end → at k ≡ None
IsNext at from end (Some next) = (from ≤ next) × (next < end) × IsSome (at next)
    × ((k : ℕ) → from ≤ k → k < next → at k ≡ None)

-- the cell for places i and j
unfoldable pub cell : {T : Type 0} → Table T → ℕ → ℕ → Option T
cell table i j = if nat_le i j then entry table.into j i else entry table.out i j

-- for how many places the table has cells
abbrev pub place_count : {T : Type 0} → Table T → ℕ
place_count table = min (row_count table.into) (row_count table.out)
