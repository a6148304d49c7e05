-- The columns and the basis that the code goes by.
use Rattle.std.specs.Prelude.{ℕ, ℤ, List, map, Result}
use Rattle.whole_numbers.specs.declared.wide.Wide.{Wide}
use Rattle.linear_terms.specs.declared.col.Col.{Col}
use Rattle.farkas_check.specs.declared.free.Basis.{Basis}
use Rattle.farkas_check.specs.declared.source.Columns.{Columns}
use Rattle.farkas_check.specs.declared.stratum.Spot.{Spot}
use Rattle.farkas_check.specs.Ratios.{Fraction}
use Rattle.farkas_check.specs.Relations.{source_columns, numbers_of}
use Rattle.farkas_check.specs.Stratum.{spot_side}

-- all of them, listed or not
abbrev pub columns_in : Columns → List (List Col)
columns_in columns = source_columns columns.source

-- what the difference at a spot has at an unknown
abbrev pub side_in : Basis → Columns → Spot → ℕ → Result Fraction Wide
side_in basis columns = spot_side (columns_in columns) basis.cases.now basis.lower.now

-- the numbers of the relations
abbrev pub lines_in : Basis → List (List ℤ)
lines_in basis = map numbers_of basis.relations.now
