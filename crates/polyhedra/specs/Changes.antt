-- By how much a formula changes each variable.
use Rattle.std.specs.Prelude.{ℕ, pos, List, map, take, Bool, true, false, not, ◌||◌, Ok, Err, slice_get, unwrap_or}
use Rattle.std.specs.List.{list_any, list_all, filter, flat_map, range_with_len}
use Rattle.std.specs.Result.{is_ok}
use Rattle.linear_terms.specs.declared.col.Col.TheVariants.{At}
use Rattle.linear_terms.specs.declared.row.Case.{Case}
use Rattle.linear_terms.specs.Auxiliaries.{has_entry}
use Rattle.linear_terms.specs.Equality.{poly_eq}
use Rattle.linear_terms.specs.Expressions.{Made, ◌⊟◌, column, or_zero}
use Rattle.linear_terms.specs.Polynomial.{Polynomial, constant_of}
use Rattle.transition_formula.specs.Loss.{losses_of}
use Rattle.transition_formula.specs.Transition.{Transition}
use Rattle.farkas_check.specs.declared.stratum.Change.{Change}
use Rattle.posing.specs.declared.note.Note.{Note}
use Rattle.posing.specs.Logs.{loss_notes}

-- the polynomial at a place, 0 past the last
abbrev pub poly_at : List Polynomial → ℕ → Polynomial
poly_at polys v = unwrap_or (slice_get polys v) (constant_of (pos 0))

-- the change of a variable: where both ends have one vocabulary its post less its entry column,
-- else its post
abbrev pub change : Bool → Case → ℕ → Made
change true case v = Ok (poly_at case.post v) ⊟ column (At v)
change false case v = Ok (poly_at case.post v)

-- the polynomial can be made and is zero
abbrev pub is_zero : Made → Bool
is_zero (Ok p) = poly_eq p (constant_of (pos 0))
is_zero (Err e) = false

-- the change is not zero in some case
abbrev pub is_modified : Bool → List Case → ℕ → Bool
is_modified one cases v = list_any (λ case. not (is_zero (change one case v))) cases

-- the change can be made in each case
abbrev pub is_exact : Bool → List Case → ℕ → Bool
is_exact one cases v = list_all (λ case. is_ok (change one case v)) cases

-- the variables whose change is not zero in some case, by number
abbrev pub modified_variables : Bool → Transition → List ℕ
modified_variables one f = filter (is_modified one f.cases) (range_with_len 0 f.to)

-- the modified variables whose change can be made in each case
abbrev pub moving : Bool → Transition → List ℕ
moving one f = filter (is_exact one f.cases) (modified_variables one f)

-- of each other modified variable the loss in the first case that has one
abbrev pub lost_changes : Bool → Transition → List Note
lost_changes one f =
    loss_notes (flat_map (λ v. take 1 (flat_map (λ case. losses_of (change one case v)) f.cases))
    (modified_variables one f))

-- ---- the terms of a stratum question

-- the rows of a case, and the changes of variables in it
abbrev pub changes_in : Bool → List ℕ → Case → Change
changes_in one variables case = record {
  rows = case.rows;
  terms = map (λ v. or_zero (change one case v)) variables;
}

-- for each case its rows, and the changes of the variables that move, in order
abbrev pub changes_of : Bool → Transition → List Change
changes_of one f = map (changes_in one (moving one f)) f.cases

-- the entry column occurs in a row or in a term
abbrev pub occurs_in : List Change → ℕ → Bool
occurs_in cases v =
    list_any (λ case. list_any (λ row. has_entry v row.poly) case.rows || list_any (has_entry v)
    case.terms) cases

-- the entry columns that occur in a row, or in the change of a variable that moves
abbrev pub occurring : Bool → Transition → List ℕ
occurring one f = filter (occurs_in (changes_of one f)) (range_with_len 0 f.from)
