-- The text of the bounds on a global's change.
use Rattle.std.specs.Prelude.{ℕ, ℤ, pos, ◌+◌, decimal, List, [], ◌∷◌, ◌++◌, codes, if◌then◌else◌}
use Rattle.std.specs.List.{flat_map}
use Rattle.std.specs.Ordering.{int_eq}
use Rattle.std.specs.Fmt.{signed_decimal}
use Rattle.linear_terms.specs.Polynomial.{Polynomial}
use Rattle.linear_terms.specs.Texts.{poly_text}
use Rattle.cost_bounds.specs.declared.cost.Cost.{Cost}
use Rattle.cost_bounds.specs.declared.cost.Cost.TheVariants as cost
use Rattle.report.specs.declared.blocks.ProcBlock.{ProcBlock}
use Rattle.report.specs.Text.{Names, column_text, limit_text, column_names}

-- a factor before a name; 1 is left out
abbrev pub factor_text : ℤ → List ℕ
factor_text scale = if int_eq scale (pos 1) then [] else signed_decimal scale ++ codes "*"

-- numbers with commas between them
abbrev pub numbers_text : List ℤ → List ℕ
numbers_text [] = []
numbers_text (m ∷ by) = signed_decimal m ++ flat_map (λ n. codes ", " ++ signed_decimal n) by

-- that the change is at most a polynomial
unfoldable pub at_most_text : Names → Polynomial → List ℕ
at_most_text names p = codes "change <= " ++ poly_text (column_text names) p ++ codes "\n"

-- that a multiple of the change is
unfoldable pub bound_line : Names → ℤ → Polynomial → List ℕ
bound_line names scale p = codes "  " ++ factor_text scale ++ at_most_text names p

-- the multipliers that show it
unfoldable pub multipliers_line : List ℤ → List ℕ
multipliers_line by = codes "  by " ++ numbers_text by ++ codes "\n"

-- by how much a case changes the global
abbrev pub cost_lines : Names → Cost → List ℕ
cost_lines names (cost.Exact p) = codes "  change = " ++ poly_text (column_text names) p
    ++ codes "\n"
cost_lines names (cost.Bound scale p kept by) = bound_line names scale p ++ multipliers_line by
cost_lines names (cost.Unbounded point) = codes "  no bound\n"
cost_lines names (cost.Limit l) = codes "  " ++ limit_text l ++ codes "\n"

-- a case with its number
abbrev pub cost_text : Names → ℕ → Cost → List ℕ
cost_text names number made = codes "case " ++ decimal number ++ codes "\n" ++ cost_lines names made

-- the cases, of which the first has a number
abbrev pub costs_from : Names → ℕ → List Cost → List ℕ
costs_from names number [] = []
costs_from names number (made ∷ costs) = cost_text names number made
    ++ costs_from names (number + 1) costs

-- all cases, numbered from 1; `none` where there is no case
abbrev pub costs_text : Names → List Cost → List ℕ
costs_text names [] = codes "none\n"
costs_text names (made ∷ costs) = costs_from names 1 (made ∷ costs)

-- a procedure, and by how much each case of its summary changes the global
abbrev pub proc_costs_text : ProcBlock → List Cost → List ℕ
proc_costs_text block costs =
    codes "procedure " ++ block.name ++ codes "\n" ++ costs_text (column_names block) costs
