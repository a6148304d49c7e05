-- Points of a case that a search for relations meets: a corner of its rows, or a corner and a ray
-- from it.
use Rattle.std.specs.Prelude.{◌≡◌, ◌⊎◌, ℕ, List, length, slice_get, Some, Ok, Bool}
use Rattle.linear_terms.specs.declared.col.Col.{Col}
use Rattle.linear_terms.specs.declared.row.Row.{Row}
use Rattle.linear_terms.specs.Polynomial.{Polynomial}
use Rattle.farkas_check.specs.Ratios.{Fraction}
use Rattle.farkas_check.specs.declared.stratum.Change.{Change}
use Rattle.farkas_check.specs.declared.stratum.Spot.{Spot}
use Rattle.simplex.specs.Rows.{kinds_of}
use Rattle.simplex.specs.Search.{IsMet, IsCornerOf}
use Rattle.simplex.specs.Spots.{sums_of}
use Rattle.simplex.specs.Suprema.{with_goal, frame_over, IsOpened, IsRayOf}
use Rattle.simplex.specs.declared.tableau.Tableau.{Tableau}

-- the corner of a tableau of the rows and a polynomial, at which the rows are true
pub record IsCornerPoint (cs : List (List Col)) (rows : List Row)
    (at : List Fraction) : Type 0 where
  pub objective : Polynomial
  pub tableau : Tableau
  pub enters : List Bool
  pub met : IsMet (frame_over cs rows objective) (length cs) (kinds_of (with_goal rows objective))
      enters tableau
  pub corner : IsCornerOf tableau (length cs) (length cs) at

-- such a corner and a ray from it along which the polynomial grows without end
pub record IsRayPoint (cs : List (List Col)) (rows : List Row) (at : List Fraction) : Type 0 where
  pub objective : Polynomial
  pub tableau : Tableau
  pub enters : List Bool
  pub column : ℕ
  pub up : Bool
  pub opened : IsOpened (frame_over cs rows objective) (length cs)
      (kinds_of (with_goal rows objective)) enters column up tableau
  pub point : List Fraction
  pub ray : List Fraction
  pub corner : IsCornerOf tableau (length cs) (length cs) point
  pub along : IsRayOf tableau column up (length cs) ray
  pub sum : sums_of point ray ≡ Ok at

-- a corner of the rows, or a corner and a ray from it
abbrev pub IsPointOf : List (List Col) → List Row → List Fraction → Type 0
IsPointOf cs rows at = IsCornerPoint cs rows at ⊎ IsRayPoint cs rows at

-- a spot that is such a point of its case
pub record IsSpotAt (cs : List (List Col)) (cases : List Change) (spot : Spot) : Type 0 where
  pub case : Change
  pub is : slice_get cases spot.case ≡ Some case
  pub point : IsPointOf cs case.rows spot.at

-- a point of the case at a place
pub record IsPointAt (cs : List (List Col)) (cases : List Change) (place : ℕ)
    (at : List Fraction) : Type 0 where
  pub case : Change
  pub is : slice_get cases place ≡ Some case
  pub point : IsPointOf cs case.rows at
