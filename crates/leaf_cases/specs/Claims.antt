-- Rows and values that are added to a case, where they have an answer.
use Rattle.std.specs.Prelude.{ℕ, ◌+◌, List, [], ◌∷◌, ◌++◌, Result, Ok, Err}
use Rattle.std.specs.List.{filter_map, flat_map}
use Rattle.linear_terms.specs.declared.col.Col.TheVariants.{Aux}
use Rattle.linear_terms.specs.declared.error.TermError.{TermError}
use Rattle.linear_terms.specs.declared.row.Kind.{Kind}
use Rattle.linear_terms.specs.declared.row.Row.{Row}
use Rattle.linear_terms.specs.declared.row.Case.{Case}
use Rattle.linear_terms.specs.Polynomial.{Polynomial, column_of}
use Rattle.transition_formula.specs.declared.loss.Loss.{Loss}
use Rattle.transition_formula.specs.Loss.{losses_of}
use Rattle.transition_formula.specs.Composition.{row_of}

-- a polynomial, or the step of its making that leaves 128 bits or passes degree 4
abbrev pub Answer : Type 0
Answer = Result Polynomial TermError

-- a row that is to be added
pub record Claim : Type 0 where
  pub kind : Kind
  pub poly : Answer

-- a row without an answer is left out, and noted
abbrev pub rows_of : List Claim → List Row
rows_of claims = filter_map (λ claim. row_of claim.kind claim.poly) claims

-- what is noted of rows that have no answer, in their order
abbrev pub claim_losses : List Claim → List Loss
claim_losses claims = flat_map (λ claim. losses_of claim.poly) claims

-- the case with more rows, and other posts over more auxiliaries
abbrev pub case_with_claims : Case → ℕ → List Claim → List Polynomial → Case
case_with_claims case more claims post = record {
  aux = case.aux + more;
  rows = case.rows ++ rows_of claims;
  post = post;
}

-- the case with this value alone; one that is lost may be any number: it becomes a new auxiliary
abbrev pub case_with_value : Case → Answer → Case
case_with_value case (Ok p) = case_with_claims case 0 [] (p ∷ [])
case_with_value case (Err e) = case_with_claims case 1 [] (column_of (Aux case.aux) ∷ [])
