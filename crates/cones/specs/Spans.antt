-- Words of the laws: what vectors span, as values on lines, and when nothing but 0 is left.
use Rattle.std.specs.Prelude.{◌≡◌, ◌≢◌, ◌⊎◌, ℤ, pos, ◌-ℤ◌, ◌*ℤ◌, ◌<ℤ◌, ◌≤ℤ◌, List, [], ◌∷◌}
use Rattle.std.specs.List.{AllByRecursion}
use Rattle.whole_numbers.specs.Dot.{dot}

-- what a vector has on each line
abbrev pub Values : Type 0
Values = List ℤ → ℤ

-- values are proportional to a sum of multiples of the vectors
abbrev pub IsSpanned : List (List ℤ) → Values → Type 0
IsSpanned [] f = (line : List ℤ) → f line ≡ pos 0
IsSpanned (v ∷ vs) f = (m c : ℤ) × (m ≢ pos 0)
    × IsSpanned vs (λ line. m *ℤ f line -ℤ c *ℤ dot line v)

-- a line on which a vector is not 0, and each of those behind it is
pub record SeesFirst (v : List ℤ) (vs : List (List ℤ)) : Type 0 where
  pub line : List ℤ
  pub seen : dot line v ≢ pos 0
  pub others : AllByRecursion (λ u. dot line u ≡ pos 0) vs

-- each vector is seen by a line on which those behind it are 0
abbrev pub IsIndependent : List (List ℤ) → Type 0
IsIndependent [] = Unit {0}
IsIndependent (v ∷ vs) = SeesFirst v vs × IsIndependent vs

-- the lines tell all that the basis spans from 0
abbrev pub IsPointed : List (List ℤ) → List (List ℤ) → Type 0
IsPointed lines basis = (f : Values) → IsSpanned basis f
    → AllByRecursion (λ line. f line ≡ pos 0) lines
    → (line : List ℤ) → f line ≡ pos 0

-- each line is at most 0
abbrev pub AreAtMost : List (List ℤ) → Values → Type 0
AreAtMost lines f = AllByRecursion (λ line. f line ≤ℤ pos 0) lines

-- a form is above 0 on one of the vectors
abbrev pub IsAboveAt : List ℤ → List (List ℤ) → Type 0
IsAboveAt z [] = ⊥
IsAboveAt z (v ∷ vs) = (pos 0 <ℤ dot z v) ⊎ IsAboveAt z vs
