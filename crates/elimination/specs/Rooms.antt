-- Words of the room that a case leaves.
use Rattle.std.specs.Prelude.{◌≡◌, ◌⊎◌, pos, ◌<ℤ◌, List, []}
use Rattle.linear_terms.specs.declared.row.Kind.TheVariants.{AtMost}
use Rattle.linear_terms.specs.declared.row.Row.{Row}
use Rattle.farkas_check.specs.Rational.{RationalPoint, sum_at, Meets}
use Rattle.farkas_check.specs.Sizes.{HasRationalPoint, HasNoEquation}

-- ---- rows that are met with more than equality

-- a row without monomials, or one that is not met with equality at the point
abbrev pub IsClear : RationalPoint → Row → Type 0
IsClear x row = (row.poly.terms ≡ []) ⊎ (sum_at x row.poly <ℤ pos 0)

-- the row has no monomials, or is an inequality that some point of all rows does not meet with
-- equality
pub record HasClear (rows : List Row) (row : Row) : Type 0 where
  pub kind : (row.poly.terms ≡ []) ⊎ (row.kind ≡ AtMost)
  pub point : RationalPoint
  pub met : Meets point rows
  pub clear : IsClear point row

-- ---- cases

-- small rows with room in each direction
pub record HasSmallRoom (rows : List Row) : Type 0 where
  pub point : HasRationalPoint rows
  pub free : HasNoEquation rows
