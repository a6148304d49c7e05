-- Small bodies: few modified variables, few monomials, small numbers.
use Rattle.std.specs.Prelude.{◌≤◌, length, true}
use Rattle.std.specs.List.{AllByRecursion}
use Rattle.linear_terms.specs.declared.row.Case.{Case}
use Rattle.linear_terms.specs.declared.row.Row.{Row}
use Rattle.farkas_check.specs.Sizes.{HasNumbersUpTo}
use Rattle.farkas_check.specs.declared.stratum.Change.{Change}
use Rattle.transition_formula.specs.Transition.{Transition}
use Rattle.polyhedra.specs.Changes.{modified_variables}
use Rattle.facet_hull.specs.Facets.{hull_cases}
use Rattle.facet_hull.specs.Images.{columns_of}

-- No number of a row is greater than 4 in magnitude, its constant neither, and none of a post than
-- 5: where no number of a change is greater than 4, none of its post is greater than 5, since a
-- change is a post less one column.
pub record HasSmallNumbers (case : Case) : Type 0 where
  pub rows : AllByRecursion (λ (row : Row). HasNumbersUpTo 4 row.poly) case.rows
  pub posts : AllByRecursion (HasNumbersUpTo 5) case.post

-- at most three monomials stand in the rows and changes of the case
abbrev pub HasFewColumns : Change → Type 0
HasFewColumns case = length (columns_of case) ≤ 3

-- A body that changes at most two variables, with at most three monomials in the rows and changes
-- of each case, and with small numbers. How many cases and rows there are does not matter.
pub record IsSmallBody (body : Transition) : Type 0 where
  pub few : length (modified_variables true body) ≤ 2
  pub columns : AllByRecursion HasFewColumns (hull_cases body)
  pub numbers : AllByRecursion HasSmallNumbers body.cases
