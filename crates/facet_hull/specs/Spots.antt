-- The direction from one spot to another is the line of a tableau of their frame.
use Rattle.std.specs.Prelude.{ℕ, ◌+◌, ◌==◌, ℤ, pos, negsuc, ◌+ℤ◌, ◌*ℤ◌, ◌<ℤ◌, neg_ℤ, List, [], ◌∷◌, nat_lt, if◌then◌else◌}
use Rattle.farkas_check.specs.Frames.{Frame, IsTableau}
use Rattle.farkas_check.specs.Relations.{entry}

-- the frame of two lines, whose last number is at a place
abbrev pub frame_of_two : ℕ → List ℤ → List ℤ → Frame
frame_of_two place s t = record { lines = s ∷ t ∷ []; units = place + 1 }

-- at each unknown: minus the first line's number, and what the second one's is off
abbrev pub multiple_of_two : ℕ → List ℤ → List ℤ → ℕ → ℕ → ℤ
multiple_of_two place s t k column =
    if nat_lt column (place + 1)
    then (if k == 0 then neg_ℤ (entry s column)
    else neg_ℤ (entry s place) *ℤ entry t column +ℤ entry s column *ℤ entry t place)
    else (if column == place + 1
    then (if k == 0 then negsuc 0 else entry t place)
    else (if k == 0 then pos 0 else neg_ℤ (entry s place)))

-- it chooses the place and the second line's unit column
abbrev pub TwoSpotsAreATableau : Type 0
TwoSpotsAreATableau = (place : ℕ) (s t : List ℤ) → entry s place <ℤ pos 0
    → IsTableau (frame_of_two place s t) (place ∷ (place + 2) ∷ []) (neg_ℤ (entry s place))
    (multiple_of_two place s t)
