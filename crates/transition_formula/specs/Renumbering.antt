-- Auxiliaries that occur nowhere are left out, and the others numbered anew, in order.
use Rattle.std.specs.Prelude.{ℕ, zero, suc, ◌+◌, map, Bool, ◌||◌, if◌then◌else◌}
use Rattle.std.specs.List.{list_any}
use Rattle.linear_terms.specs.declared.row.Row.{Row}
use Rattle.linear_terms.specs.declared.row.Case.{Case}
use Rattle.linear_terms.specs.Auxiliaries as auxiliaries

-- the auxiliary n occurs in a row or a post
abbrev pub occurs_in : Case → ℕ → Bool
occurs_in case n = list_any (λ row. auxiliaries.occurs n row.poly) case.rows
    || list_any (auxiliaries.occurs n) case.post

-- how many numbers below n pass
abbrev pub count_below : (ℕ → Bool) → ℕ → ℕ
count_below test zero = 0
count_below test (suc n) = if test n then count_below test n + 1 else count_below test n

-- the new number of an auxiliary: how many before it occur
abbrev pub new_number : Case → ℕ → ℕ
new_number case n = count_below (occurs_in case) n

-- the row with new numbers for its auxiliaries
abbrev pub renumbered_row : (ℕ → ℕ) → Row → Row
renumbered_row number row = record {
  poly = auxiliaries.renumbered_polynomial number row.poly;
  kind = row.kind;
}

-- the case with new numbers for its auxiliaries, and the new number of their count as the count
abbrev pub case_renumbered_by : (ℕ → ℕ) → Case → Case
case_renumbered_by number case =
    record {
      aux = number case.aux;
      rows = map (renumbered_row number) case.rows;
      post = map (auxiliaries.renumbered_polynomial number) case.post;
    }

-- the case without the auxiliaries that occur nowhere, the others numbered from 0 in their order
abbrev pub renumbered_case : Case → Case
renumbered_case case = case_renumbered_by (new_number case) case
