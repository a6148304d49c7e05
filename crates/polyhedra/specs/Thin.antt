-- Thinning: from the last inequality to the first, one that the other rows entail is left out.
use Rattle.std.specs.Prelude.{ℕ, List, [], ◌∷◌, ◌++◌, length, slice_get, Option, None, Some, Bool, Result, Ok, Err, if◌then◌else◌}
use Rattle.std.specs.List.{remove}
use Rattle.linear_terms.specs.declared.error.TermError.{TermError}
use Rattle.linear_terms.specs.declared.row.Row.{Row}
use Rattle.linear_terms.specs.declared.row.Case.{Case}
use Rattle.linear_terms.specs.declared.row.Kind.{Kind}
use Rattle.linear_terms.specs.declared.row.Kind.TheVariants.{AtMost, Equal}
use Rattle.linear_terms.specs.Expressions.{negation}
use Rattle.linear_terms.specs.Polynomial.{Polynomial}
use Rattle.transition_formula.specs.Loss.{error_losses}
use Rattle.posing.specs.Logs.{loss_notes}
use Rattle.posing.specs.Posing.{Posing, Done, Noted, ◌>>=◌, down}
use Rattle.polyhedra.specs.Infeasibility.{infeasible}

-- the rows, without that at a place where it is dropped
abbrev pub without_if : Bool → ℕ → List Row → List Row
without_if drops place rows = if drops then remove rows place else rows

-- the row is left out where the others exclude its negation
unfoldable pub thinning_with : Row → ℕ → List Row → Posing (List Row)
thinning_with negation place rows = infeasible (remove rows place ++ negation ∷ [])
    >>= λ drops. Done (without_if drops place rows)

-- where the negation is lost, that is noted and the row stays
unfoldable pub thinning_by : Result Row TermError → ℕ → List Row → Posing (List Row)
thinning_by (Ok negation) place rows = thinning_with negation place rows
thinning_by (Err e) place rows = Noted (loss_notes (error_losses e)) (Done rows)

-- an equation stays
abbrev pub thinning_of : Kind → Polynomial → ℕ → List Row → Posing (List Row)
thinning_of AtMost poly place rows = thinning_by (negation poly) place rows
thinning_of Equal poly place rows = Done rows

-- the rows thinned at a place by the row there; as they are where there is none
abbrev pub thinned_found : Option Row → ℕ → List Row → Posing (List Row)
thinned_found None place rows = Done rows
thinned_found (Some row) place rows = thinning_of row.kind row.poly place rows

-- the rows, without that at a place where it is an inequality that the others entail
unfoldable pub thinning_at : List Row → ℕ → Posing (List Row)
thinning_at rows place = thinned_found (slice_get rows place) place rows

-- the rows thinned at each place, from the last to the first
abbrev pub thinned_rows : List Row → Posing (List Row)
thinned_rows rows = down thinning_at rows (length rows)

-- the case with its rows thinned
unfoldable pub thinned_case : Case → Posing Case
thinned_case case = thinned_rows case.rows >>= λ rows. Done record {
  aux = case.aux;
  rows = rows;
  post = case.post;
}
