-- Tables of the changes of a case.
use Rattle.std.specs.Prelude.{◌≡◌, ℕ, List, [], ◌∷◌, ◌++◌, map, true, Bool, not, ◌||◌, pos, Option, None, Some, Ok, Err, slice_get, unwrap_or}
use Rattle.std.specs.List.{list_any, list_all, range_with_len}
use Rattle.std.specs.Option.{is_some, is_none}
use Rattle.linear_terms.specs.declared.col.Col.{Col}
use Rattle.linear_terms.specs.declared.col.Col.TheVariants.{At, Aux}
use Rattle.linear_terms.specs.declared.error.TermError.{TermError}
use Rattle.linear_terms.specs.declared.row.Case.{Case}
use Rattle.linear_terms.specs.Expressions.{Made, or_zero}
use Rattle.linear_terms.specs.Equality.{poly_eq}
use Rattle.linear_terms.specs.Polynomial.{Terms, Polynomial, constant_of}
use Rattle.transition_formula.specs.declared.loss.Loss.{Loss}
use Rattle.transition_formula.specs.Loss.{error_losses}
use Rattle.farkas_check.specs.declared.stratum.Change.{Change}
use Rattle.polyhedra.specs.declared.changes.Moves.{Moves}
use Rattle.polyhedra.specs.Bounds.{IsCovered}
use Rattle.polyhedra.specs.Changes.{poly_at, change}

-- why a polynomial cannot be made
abbrev pub fault_of : Made → Option TermError
fault_of (Ok p) = None
fault_of (Err e) = Some e

-- the changes of the first so many variables of a case, 0 where they cannot be made, and why they
-- cannot
abbrev pub table_of : Bool → ℕ → Case → Moves
table_of one n case = record {
  polys = map (λ v. or_zero (change one case v)) (range_with_len 0 n);
  faults = map (λ v. fault_of (change one case v)) (range_with_len 0 n);
}

-- with one more change
abbrev pub with_made : Moves → Made → Moves
with_made moves made = record {
  polys = moves.polys ++ or_zero made ∷ [];
  faults = moves.faults ++ fault_of made ∷ [];
}

-- the tables of cases, and a direction over no other columns
pub record AreTables (cases : List Case) (tables : List Moves) (d : Polynomial) : Type 0 where
  pub count : ℕ
  pub same : tables ≡ map (table_of true count) cases
  pub covered : IsCovered count d

-- ---- the first fault in print order

-- why what stands for a column cannot be made; None where it can, past the last, and for an
-- auxiliary
abbrev pub fault_at : List (Option TermError) → Col → Option TermError
fault_at faults (At v) = unwrap_or (slice_get faults v) None
fault_at faults (Aux n) = None

-- a fault; the rest where there is none
abbrev pub or_else : Option TermError → Option TermError → Option TermError
or_else None rest = rest
or_else (Some e) rest = Some e

-- the first fault of the columns of a monomial, in order
abbrev pub first_in : List (Option TermError) → List Col → Option TermError
first_in faults [] = None
first_in faults (c ∷ m) = or_else (fault_at faults c) (first_in faults m)

-- the first fault of the columns of terms, in order
abbrev pub first_fault : List (Option TermError) → Terms → Option TermError
first_fault faults [] = None
first_fault faults (t ∷ ts) = or_else (first_in faults t.0) (first_fault faults ts)

-- ---- variables

-- the change of a variable is not zero, or cannot be made
abbrev pub is_moved : ℕ → Moves → Bool
is_moved v moves = is_some (fault_at moves.faults (At v))
    || not (poly_eq (poly_at moves.polys v) (constant_of (pos 0)))

-- the change of a variable is not zero, or cannot be made, in some case
abbrev pub is_moved_in : List Moves → ℕ → Bool
is_moved_in tables v = list_any (is_moved v) tables

-- the change of a variable can be made
abbrev pub is_made : ℕ → Moves → Bool
is_made v moves = is_none (fault_at moves.faults (At v))

-- the change of a variable can be made in each case
abbrev pub is_made_in : List Moves → ℕ → Bool
is_made_in tables v = list_all (is_made v) tables

-- why the change of a variable cannot be made in the first case where it cannot
abbrev pub first_of : List Moves → ℕ → Option TermError
first_of [] v = None
first_of (moves ∷ tables) v = or_else (fault_at moves.faults (At v)) (first_of tables v)

-- the losses of a fault; [] where there is none
abbrev pub losses_at : Option TermError → List Loss
losses_at None = []
losses_at (Some e) = error_losses e

-- the changes of some variables, over the rows of a case
abbrev pub change_of : List ℕ → Case → Moves → Change
change_of variables case moves = record {
  rows = case.rows;
  terms = map (poly_at moves.polys) variables;
}

-- the same of each case
abbrev pub changes_from : List ℕ → List Case → List Moves → List Change
changes_from variables [] tables = []
changes_from variables (case ∷ cases) [] = []
changes_from variables (case ∷ cases) (moves ∷ tables) = change_of variables case moves
    ∷ changes_from variables cases tables
