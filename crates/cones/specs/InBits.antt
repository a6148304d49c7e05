-- The definitions in 128 bits: what each comes to, or the first step that leaves 128 bits. A step
-- is a sum or a product of two numbers. What stands on the left is made first; the numbers of a
-- vector, the lines and the points are taken in their order, the vectors of a basis from the last.
use Rattle.std.specs.Prelude.{◌≡◌, ℕ, ℤ, pos, negsuc, List, [], ◌∷◌, ◌++◌, Bool, true, false, not, fold, int_le, int_lt, Option, None, Some, Result, Ok, Err, if◌then◌else◌}
use Rattle.std.specs.BTreeSet.{insert_key}
use Rattle.std.specs.Cmp.Lexicographic.{slice_cmp}
use Rattle.std.specs.List.{cons_option}
use Rattle.std.specs.Ordering.{int_cmp, int_eq}
use Rattle.items.specs.Gives.{◌>>=◌}
use Rattle.whole_numbers.specs.Fits.{sum_of, product_of}
use Rattle.whole_numbers.specs.declared.wide.Wide as Step
use Rattle.cones.specs.Cones.{Cleared, Kept, Given}
use Rattle.cones.specs.Refusal.{LeavesBits}
use Rattle.cones.specs.Split.{units, remainder}
use Rattle.cones.specs.Tangents.{Point}
use Rattle.cones.specs.Vectors.{lowest}

-- ---- one step after another

-- what is made, or the first step that leaves 128 bits
abbrev pub Made : Type 0 → Type 0
Made X = Result X Step.Wide

infixl 6 ◌⊞◌
-- the sum of two numbers that are made
abbrev pub ◌⊞◌ : Made ℤ → Made ℤ → Made ℤ
a ⊞ b = a >>= λ x. b >>= λ y. sum_of x y

-- both hold; the second is not made where the first does not hold
abbrev pub both : Made Bool → Made Bool → Made Bool
both a b = a >>= λ x. if x then b else Ok false

-- it does not hold
abbrev pub negation : Made Bool → Made Bool
negation a = a >>= λ x. Ok (not x)

-- elements that are there, and behind them those that are made
abbrev pub behind : {X : Type 0} → List X → Made (List X) → Made (List X)
behind front rest = rest >>= λ made. Ok (front ++ made)

-- what is made of each element
abbrev pub each : {X Y : Type 0} → (X → Made Y) → List X → Made (List Y)
each f [] = Ok []
each f (x ∷ xs) = f x >>= λ y. behind (y ∷ []) (each f xs)

-- the lists that are made of each element, as one list
abbrev pub all_of : {X Y : Type 0} → (X → Made (List Y)) → List X → Made (List Y)
all_of f [] = Ok []
all_of f (x ∷ xs) = f x >>= λ ys. behind ys (all_of f xs)

-- each element passes; none behind the first that does not pass is tested
abbrev pub are_all : {X : Type 0} → (X → Made Bool) → List X → Made Bool
are_all test [] = Ok true
are_all test (x ∷ xs) = both (test x) (are_all test xs)

-- the first element that passes, if there is one
abbrev pub first_of : {X : Type 0} → (X → Made Bool) → List X → Made (Option X)
first_of test [] = Ok None
first_of test (x ∷ xs) = test x >>= λ passes. if passes then Ok (Some x) else first_of test xs

-- ---- vectors

-- the sum of the products of what stands at the same place in two lists
abbrev pub dot : List ℤ → List ℤ → Made ℤ
dot [] ys = Ok (pos 0)
dot (x ∷ xs) [] = Ok (pos 0)
dot (x ∷ xs) (y ∷ ys) = product_of x y ⊞ dot xs ys

-- a times one number and b times another
abbrev pub sum_of_products : ℤ → ℤ → ℤ → ℤ → Made ℤ
sum_of_products a x b y = product_of a x ⊞ product_of b y

-- so many times one vector and so many times another
abbrev pub combination : ℤ → List ℤ → ℤ → List ℤ → Made (List ℤ)
combination a [] b ys = each (product_of b) ys
combination a (x ∷ xs) b [] = each (product_of a) (x ∷ xs)
combination a (x ∷ xs) b (y ∷ ys) =
    sum_of_products a x b y >>= λ z. behind (z ∷ []) (combination a xs b ys)

-- a number with its sign turned
abbrev pub opposite_number : ℤ → Made ℤ
opposite_number z = product_of z (negsuc 0)

-- each number with its sign turned
abbrev pub opposite : List ℤ → Made (List ℤ)
opposite numbers = each opposite_number numbers

-- ---- one line made 0

-- a number without its sign
abbrev pub magnitude : ℤ → Made ℤ
magnitude z = if int_lt z (pos 0) then opposite_number z else Ok z

-- the opposite of a number, where the sign is not negative; else the number
abbrev pub opposite_along : ℤ → ℤ → Made ℤ
opposite_along sign z = if int_lt sign (pos 0) then Ok z else opposite_number z

-- a vector moved along the pivot to where the line is 0
abbrev pub projection : List ℤ → List ℤ → List ℤ → Made (List ℤ)
projection line pivot v = dot line pivot >>= λ own. dot line v >>= λ value. magnitude own
    >>= λ times. opposite_along own value >>= λ by. combination times v by pivot
    >>= λ made. Ok (lowest made)

-- what clearing makes of a vector and those behind it, by what it makes of these
abbrev pub clearing_with : List ℤ → List ℤ → List (List ℤ) → Cleared → Made Cleared
clearing_with line v vs Kept =
    dot line v >>= λ value. Ok (if int_eq value (pos 0) then Kept else Given v vs)
clearing_with line v vs (Given pivot rest) =
    projection line pivot v >>= λ made. Ok (Given pivot (made ∷ rest))

-- the last vector on which the line is not 0 is given up, and those before it are moved along it
abbrev pub clearing : List ℤ → List (List ℤ) → Made Cleared
clearing line [] = Ok Kept
clearing line (v ∷ vs) = clearing line vs >>= λ behind. clearing_with line v vs behind

-- ---- the search

-- the line is at most 0 on a vector
abbrev pub is_at_most : List ℤ → List ℤ → Made Bool
is_at_most w line = dot line w >>= λ value. Ok (int_le value (pos 0))

-- each line is at most 0 on a vector
abbrev pub are_at_most : List (List ℤ) → List ℤ → Made Bool
are_at_most lines w = are_all (is_at_most w) lines

-- the vector or its opposite, where it lies in the cone
abbrev pub ends : List (List ℤ) → List ℤ → Made (List (List ℤ))
ends lines w = are_at_most lines w >>= λ along. if along then Ok (w ∷ [])
    else (opposite w >>= λ u. are_at_most lines u
    >>= λ against. Ok (if against then u ∷ [] else []))

-- what the search finds where no lines are left, of a basis of one vector; nothing of another basis
abbrev pub at_end : List (List ℤ) → List (List ℤ) → Made (List (List ℤ))
at_end lines [] = Ok []
at_end lines (w ∷ []) = ends lines w
at_end lines (v ∷ (u ∷ vs)) = Ok []

-- what the search finds where the line is made 0; nothing where it is 0 already
abbrev pub extremes_at_zero : (List (List ℤ) → Made (List (List ℤ))) → Cleared
    → Made (List (List ℤ))
extremes_at_zero search Kept = Ok []
extremes_at_zero search (Given pivot rest) = search rest

-- The vectors of the cone that are found from a basis: of the lines that are left each is made 0,
-- and then is passed over, until one vector is left.
abbrev pub extremes : List (List ℤ) → List (List ℤ) → List (List ℤ) → Made (List (List ℤ))
extremes lines [] basis = at_end lines basis
extremes lines (line ∷ rest) [] = Ok []
extremes lines (line ∷ rest) (w ∷ []) = ends lines w
extremes lines (line ∷ rest) (v ∷ (u ∷ vs)) = clearing line (v ∷ u ∷ vs)
    >>= λ left. extremes_at_zero (extremes lines rest) left
    >>= λ taken. behind taken (extremes lines rest (v ∷ u ∷ vs))

-- ---- the vectors on which all lines are 0, and a basis of the rest

-- what is left of a basis where each line is made 0, one after another
abbrev pub clearing_by_all : List (List ℤ) → List (List ℤ) → Made (List (List ℤ))
clearing_by_all [] basis = Ok basis
clearing_by_all (line ∷ lines) basis =
    clearing line basis >>= λ made. clearing_by_all lines (remainder basis made)

-- the vectors on which all lines are 0
abbrev pub flat : List (List ℤ) → ℕ → Made (List (List ℤ))
flat lines count = clearing_by_all lines (units count)

-- a line is 0 on a vector
abbrev pub is_zero_at : List ℤ → List ℤ → Made Bool
is_zero_at line v = dot line v >>= λ value. Ok (int_eq value (pos 0))

-- and on each of the vectors
abbrev pub is_zero_on : List ℤ → List (List ℤ) → Made Bool
is_zero_on line vs = are_all (is_zero_at line) vs

-- a line that is not 0 on a vector, and is 0 on those before it and behind it
abbrev pub is_pivot : (v : List ℤ) (before behind : List (List ℤ)) → List ℤ → Made Bool
is_pivot v before behind line = both (negation (is_zero_at line v))
    (both (is_zero_on line before) (is_zero_on line behind))

-- for each vector the first such line, if there is one
abbrev pub pivots_behind : (lines before vs : List (List ℤ)) → Made (List (List ℤ))
pivots_behind lines before [] = Ok []
pivots_behind lines before (v ∷ vs) = first_of (is_pivot v before vs) lines
    >>= λ found. behind (cons_option found []) (pivots_behind lines (before ++ v ∷ []) vs)

-- for each vector, in order, the first line that is 0 on all others but not on it, if there is one
abbrev pub pivots : (lines vs : List (List ℤ)) → Made (List (List ℤ))
pivots lines vs = pivots_behind lines [] vs

-- a basis of the rest: the vectors on which the pivots of flat ones are 0
abbrev pub rest_basis : List (List ℤ) → ℕ → Made (List (List ℤ))
rest_basis vs count = pivots (units count) vs >>= λ ps. clearing_by_all ps (units count)

-- ---- the forms that bound points and rays

-- from one point to another, times both denominators
abbrev pub difference : Point → Point → Made (List ℤ)
difference p q = opposite_number q.over >>= λ by. combination p.over q.numbers by p.numbers

-- the same without common divisor
abbrev pub direction : Point → Point → Made (List ℤ)
direction p q = difference p q >>= λ made. Ok (lowest made)

-- the directions from a point: to each of the points, and the rays
abbrev pub directions : List Point → List (List ℤ) → Point → Made (List (List ℤ))
directions points rays p = each (direction p) points >>= λ made. Ok (made ++ rays)

-- the facets through a point
abbrev pub facets_at : List (List ℤ) → List Point → List (List ℤ) → Point → Made (List (List ℤ))
facets_at basis points rays p = directions points rays p >>= λ lines. extremes lines lines basis

-- the facets through each of the points
abbrev pub facets_of : List (List ℤ) → List Point → List (List ℤ) → Made (List (List ℤ))
facets_of basis points rays = all_of (facets_at basis points rays) points

-- the same in ascending order, each once
abbrev pub facets : List (List ℤ) → List Point → List (List ℤ) → Made (List (List ℤ))
facets basis points rays = facets_of basis points rays
    >>= λ found. Ok (fold (insert_key (slice_cmp int_cmp)) [] found)

-- ---- what these are

-- what is made is what is defined, and where nothing is made a step leaves 128 bits
abbrev pub IsOrLeaves : {X : Type 0} → X → Made X → Type 0
IsOrLeaves defined (Ok made) = made ≡ defined
IsOrLeaves defined (Err step) = LeavesBits step
