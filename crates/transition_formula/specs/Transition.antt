-- Formulas between the numbers of a state and those of a later one, as plain data.
use Rattle.std.specs.Prelude.{ℕ, ◌+◌, ◌<◌, ◌^◌, List, All, Bool, ◌&&◌, ◌==◌, nat_lt, nat_le, length, IsTrue}
use Rattle.std.specs.List.{list_all}
use Rattle.linear_terms.specs.declared.col.Col.{Col}
use Rattle.linear_terms.specs.declared.col.Col.TheVariants.{At, Aux}
use Rattle.linear_terms.specs.declared.row.Case.{Case}
use Rattle.linear_terms.specs.Auxiliaries.{is_numbered}
use Rattle.linear_terms.specs.Polynomial.{Polynomial}

-- from so many columns to so many, by one case or another
pub record Transition : Type 0 where
  pub from : ℕ
  pub to : ℕ
  pub cases : List Case

-- each column passes
abbrev pub every_column : (Col → Bool) → Polynomial → Bool
every_column test p = list_all (λ t. list_all test t.0) p.terms

-- an entry column below `at`, or an auxiliary below `aux`
abbrev pub is_below : ℕ → ℕ → Col → Bool
is_below at aux (At number) = nat_lt number at
is_below at aux (Aux number) = nat_lt number aux

-- each column of the case passes
abbrev pub every_column_of : (Col → Bool) → Case → Bool
every_column_of test case = list_all (λ row. every_column test row.poly) case.rows
    && list_all (every_column test) case.post

-- the case has a post for each of `to` columns, and no columns but its auxiliaries and `from` entry
-- columns
abbrev pub fits : ℕ → ℕ → Case → Bool
fits from to case = length case.post == to && every_column_of (is_below from case.aux) case

-- each case fits
abbrev pub IsTransition : ℕ → ℕ → List Case → Type 0
IsTransition from to cases = IsTrue (list_all (fits from to) cases)

-- how many cases a formula may have where the analysis goes on with it as it is
abbrev pub most_cases : ℕ
most_cases = 16

-- how many rows a case may have where the analysis goes on with it as it is
abbrev pub most_rows : ℕ
most_rows = 64

-- how many auxiliaries a case may have where the analysis goes on with it as it is
abbrev pub most_auxiliaries : ℕ
most_auxiliaries = 64

-- no more than these
abbrev pub is_fitted : List Case → Bool
is_fitted cases =
    nat_le (length cases) most_cases
    && list_all (λ case. nat_le (length case.rows) most_rows
    && nat_le case.aux most_auxiliaries) cases

-- there are at most 16 cases, of at most 64 rows and 64 auxiliaries each
abbrev pub IsFitted : List Case → Type 0
IsFitted cases = IsTrue (is_fitted cases)

-- The case can be put in order: its auxiliaries are numbered below their count, and numbers of 32
-- bits suffice for one more by post.
pub record IsSolvable (case : Case) : Type 0 where
  pub numbered : IsTrue (every_column_of (is_numbered case.aux) case)
  pub few : case.aux + length case.post < 2 ^ 32

-- each case can
abbrev pub AreSolvable : List Case → Type 0
AreSolvable cases = All IsSolvable cases

-- the auxiliaries of any case of the one, those of any case of the other and the other's columns
-- are few enough to be numbered
abbrev pub AreFew : Transition → Transition → Type 0
AreFew a b = All (λ first. All (λ second. first.aux + second.aux + b.to < 2 ^ 32) b.cases) a.cases
