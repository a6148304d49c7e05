-- How a `Mono` keeps its columns.
use Rattle.std.specs.Prelude.{◌≡◌, ◌-◌, ◌≤◌, List, ◌++◌, take, length, replicate, IsTrue}
use Rattle.linear_terms.specs.declared.col.Col.{Col}
use Rattle.linear_terms.specs.declared.col.Col.TheVariants.{At}
use Rattle.linear_terms.specs.declared.mono.Mono.TheInside.{Inside}
use Rattle.linear_terms.specs.Mono.{is_in_order}

-- the columns of a monomial, which are the first `len` of its cells
abbrev pub columns_of : Inside → List Col
columns_of m = take m.len m.cells

-- one to four columns in order; the cells that are not used hold entry column 0
pub record IsMono (m : Inside) : Type 0 where
  pub some : 1 ≤ m.len
  pub most : m.len ≤ 4
  pub kept : length (columns_of m) ≡ m.len
  pub unused : m.cells ≡ columns_of m ++ replicate (4 - m.len) (At 0)
  pub ordered : IsTrue (is_in_order (columns_of m))
