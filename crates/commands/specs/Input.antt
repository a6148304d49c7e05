-- The bytes that a run reads.
use Rattle.std.specs.Prelude.{◌≡◌, ℕ, ◌+◌, ◌≤◌, List, length, take, Option, None, Some}

-- The input is all that the source has, or one byte more than the limit where the source has so
-- many. Of a source that tells nothing, only the number of the bytes is known.
unfoldable pub IsInput : ℕ → Option (List ℕ) → List ℕ → Type 0
IsInput limit None bytes = length bytes ≤ limit + 1
IsInput limit (Some all) bytes = bytes ≡ take (limit + 1) all
