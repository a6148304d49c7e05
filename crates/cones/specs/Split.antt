-- The vectors on which all lines are 0, and a basis of the rest.
use Rattle.std.specs.Prelude.{◌≡◌, ◌≢◌, ◌⊎◌, ◌&&◌, ℕ, zero, suc, ℤ, pos, Bool, not, List, [], ◌∷◌, ◌++◌, map}
use Rattle.std.specs.List.{AllByRecursion, cons_option, find, list_all}
use Rattle.std.specs.Ordering.{int_eq}
use Rattle.whole_numbers.specs.Dot.{dot}
use Rattle.cones.specs.Cones.{Cleared, Kept, Given, clearing}

-- so many zeros
abbrev pub zeros : ℕ → List ℤ
zeros zero = []
zeros (suc n) = pos 0 ∷ zeros n

-- one vector for each of so many places: 1 there, and 0 elsewhere
abbrev pub units : ℕ → List (List ℤ)
units zero = []
units (suc n) = (pos 1 ∷ zeros n) ∷ map (λ v. pos 0 ∷ v) (units n)

-- the vectors of a basis that are left by clearing, all of them where it keeps the basis
abbrev pub remainder : List (List ℤ) → Cleared → List (List ℤ)
remainder basis Kept = basis
remainder basis (Given pivot rest) = rest

-- what is left of a basis where each line is made 0, one after another
abbrev pub clearing_by_all : List (List ℤ) → List (List ℤ) → List (List ℤ)
clearing_by_all [] basis = basis
clearing_by_all (line ∷ lines) basis = clearing_by_all lines (remainder basis (clearing line basis))

-- the vectors on which all lines are 0
abbrev pub flat : List (List ℤ) → ℕ → List (List ℤ)
flat lines count = clearing_by_all lines (units count)

-- ---- pivots

-- a line is 0 on each of the vectors
abbrev pub is_zero_on : List ℤ → List (List ℤ) → Bool
is_zero_on line vs = list_all (λ v. int_eq (dot line v) (pos 0)) vs

-- a line that is not 0 on a vector, and is 0 on those before it and behind it
abbrev pub is_pivot : (v : List ℤ) (before behind : List (List ℤ)) → List ℤ → Bool
is_pivot v before behind line =
    not (int_eq (dot line v) (pos 0)) && is_zero_on line before && is_zero_on line behind

-- for each vector the first such line, if there is one
abbrev pub pivots_behind : (lines before vs : List (List ℤ)) → List (List ℤ)
pivots_behind lines before [] = []
pivots_behind lines before (v ∷ vs) =
    cons_option (find (is_pivot v before vs) lines) (pivots_behind lines (before ++ v ∷ []) vs)

-- for each vector, in order, the first line that is 0 on all others but not on it, if there is one
abbrev pub pivots : (lines vs : List (List ℤ)) → List (List ℤ)
pivots lines vs = pivots_behind lines [] vs

-- a basis of the rest: the vectors on which the pivots of flat ones are 0
abbrev pub rest_basis : List (List ℤ) → ℕ → List (List ℤ)
rest_basis vs count = clearing_by_all (pivots (units count) vs) (units count)

-- each of the vectors has a line on which it is not 0, and all others are: as in reduced echelon
-- form, where the lines stand for the pivots
abbrev pub ArePrivate : List (List ℤ) → List (List ℤ) → Type 0
ArePrivate [] [] = Unit {0}
ArePrivate [] (v ∷ vs) = ⊥
ArePrivate (q ∷ qs) [] = ⊥
ArePrivate (q ∷ qs) (v ∷ vs) = (dot q v ≢ pos 0) × AllByRecursion (λ u. dot q u ≡ pos 0) vs
    × AllByRecursion (λ p. dot p v ≡ pos 0) qs × ArePrivate qs vs

-- the vector is one of the listed ones
abbrev pub IsAmong : List (List ℤ) → List ℤ → Type 0
IsAmong [] q = ⊥
IsAmong (p ∷ ps) q = (q ≡ p) ⊎ IsAmong ps q
