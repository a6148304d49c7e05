-- A part of a list.
use Rattle.std.specs.Prelude.{ℕ, List, [], ◌&&◌, length, nat_le, slice_range, if◌then◌else◌}

-- the elements from a place to another; none where that is no part of the list
abbrev pub part_of : {A : Type 0} → List A → ℕ → ℕ → List A
part_of list from to =
    if nat_le from to && nat_le to (length list) then slice_range list from to else []
