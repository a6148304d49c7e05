-- The cone that lines bound: the vectors on which each of them is at most 0. It is found by a
-- search over the lines that are 0 on its extreme vectors.
--
-- Source: Schrijver, Theory of Linear and Integer Programming, chapter 8.
use Rattle.std.specs.List.{AllByRecursion}
use Rattle.std.specs.Prelude.{◌≡◌, ℕ, length, ℤ, pos, negsuc, neg_ℤ, unsigned_abs, List, [], ◌∷◌, ◌++◌, Bool, true, ◌&&◌, int_le, if◌then◌else◌}
use Rattle.std.specs.Ordering.{int_eq}
use Rattle.cones.specs.Vectors.{combination, lowest, opposite}
use Rattle.whole_numbers.specs.Dot.{dot}
pub use Rattle.cones.specs.declared.projecting.Cleared.{Cleared}
pub use Rattle.cones.specs.declared.projecting.Cleared.TheVariants.{Kept, Given}

-- ---- one line made 0

-- a number with the sign turned where another is negative
abbrev pub along_sign : ℤ → ℤ → ℤ
along_sign (pos n) z = z
along_sign (negsuc n) z = neg_ℤ z

-- a vector moved along the pivot to where the line is 0, times a positive number, without common
-- divisor
abbrev pub projection : List ℤ → List ℤ → List ℤ → List ℤ
projection line pivot v =
    lowest (combination (pos (unsigned_abs (dot line pivot))) v
    (along_sign (dot line pivot) (neg_ℤ (dot line v))) pivot)

-- what clearing makes of a vector and those behind it, by what it makes of these: where it keeps
-- them, the vector is given up unless the line is 0 on it; else the vector is moved along the pivot
abbrev pub clearing_with : List ℤ → List ℤ → List (List ℤ) → Cleared → Cleared
clearing_with line v vs Kept = if int_eq (dot line v) (pos 0) then Kept else Given v vs
clearing_with line v vs (Given pivot rest) = Given pivot (projection line pivot v ∷ rest)

-- the last vector on which the line is not 0 is given up, and those before it are moved along it
abbrev pub clearing : List ℤ → List (List ℤ) → Cleared
clearing line [] = Kept
clearing line (v ∷ vs) = clearing_with line v vs (clearing line vs)

-- ---- the search

-- each line is at most 0 on a vector
abbrev pub are_at_most : List (List ℤ) → List ℤ → Bool
are_at_most [] w = true
are_at_most (line ∷ lines) w = int_le (dot line w) (pos 0) && are_at_most lines w

-- the vector or its opposite, where it lies in the cone
abbrev pub ends : List (List ℤ) → List ℤ → List (List ℤ)
ends lines w =
    if are_at_most lines w then w ∷ []
    else (if are_at_most lines (opposite w) then opposite w ∷ [] else [])

-- what the search finds where no lines are left, of a basis of one vector; nothing of another basis
abbrev pub at_end : List (List ℤ) → List (List ℤ) → List (List ℤ)
at_end lines [] = []
at_end lines (w ∷ []) = ends lines w
at_end lines (v ∷ (u ∷ vs)) = []

-- what the search finds where the line is made 0; nothing where it is 0 already
abbrev pub extremes_at_zero : (List (List ℤ) → List (List ℤ)) → Cleared → List (List ℤ)
extremes_at_zero search Kept = []
extremes_at_zero search (Given pivot rest) = search rest

-- The vectors of the cone that are found from a basis: of the lines that are left each is made 0,
-- or is passed over, until one vector is left.
abbrev pub extremes : List (List ℤ) → List (List ℤ) → List (List ℤ) → List (List ℤ)
extremes lines [] basis = at_end lines basis
extremes lines (line ∷ rest) [] = []
extremes lines (line ∷ rest) (w ∷ []) = ends lines w
extremes lines (line ∷ rest) (v ∷ (u ∷ vs)) =
    extremes_at_zero (extremes lines rest) (clearing line (v ∷ u ∷ vs))
    ++ extremes lines rest (v ∷ u ∷ vs)

-- ---- lengths

-- vectors of so many numbers each
abbrev pub AreWide : ℕ → List (List ℤ) → Type 0
AreWide count vectors = AllByRecursion (λ v. length v ≡ count) vectors

-- the vectors that clearing gives have so many numbers each; of what is kept nothing is asked
abbrev pub IsWide : ℕ → Cleared → Type 0
IsWide count Kept = Unit {0}
IsWide count (Given pivot rest) = (length pivot ≡ count) × AreWide count rest
