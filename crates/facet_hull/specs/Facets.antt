-- The outcome of the hull of a body: the normals as polynomials over the modified variables, or why
-- there are none. Each outcome is a function of the body.
use Rattle.std.specs.Prelude.{◌≡◌, ℕ, ◌<◌, ℤ, List, [], ◌∷◌, length, map, Bool, true, ◌||◌, nat_lt, Option, None, Some, Result, Ok, Err, if◌then◌else◌}
use Rattle.std.specs.List.{AllByRecursion, list_any}
use Rattle.items.specs.Gives.{◌>>=◌}
use Rattle.linear_terms.specs.Expressions.{linear}
use Rattle.linear_terms.specs.Operations.{multiple_of, sum_of_polys}
use Rattle.linear_terms.specs.Polynomial.{Polynomial, column_of}
use Rattle.linear_terms.specs.declared.col.Col.{Col}
use Rattle.linear_terms.specs.declared.col.Col.TheVariants.{At}
use Rattle.linear_terms.specs.declared.error.TermError.{TermError}
use Rattle.farkas_check.specs.Relations.{term_count}
use Rattle.farkas_check.specs.Sizes.{row_count}
use Rattle.farkas_check.specs.declared.answer.Limit.{Limit as AnswerLimit}
use Rattle.farkas_check.specs.declared.answer.Limit.TheVariants.{Wide}
use Rattle.farkas_check.specs.declared.stratum.Change.{Change}
use Rattle.transition_formula.specs.Transition.{Transition}
use Rattle.transition_formula.specs.declared.loss.Loss.TheVariants as loss
use Rattle.posing.specs.declared.note.Note.{Note}
use Rattle.posing.specs.declared.note.Note.TheVariants as note
use Rattle.polyhedra.specs.Changes.{changes_in, lost_changes, modified_variables}
use Rattle.cones.specs.InBits.{Made}
use Rattle.facet_hull.specs.Changes.{HasChange}
use Rattle.facet_hull.specs.Hull.{IsHull}
use Rattle.facet_hull.specs.Images.{columns_of}
use Rattle.facet_hull.specs.InBits as in_bits
use Rattle.facet_hull.specs.declared.outcome.Facets.{Facets}
use Rattle.facet_hull.specs.declared.outcome.Facets.TheVariants.{Normals, Beyond, Limit}

-- the cases of the hull: for each case of the body its rows, and the changes of the modified
-- variables in order; 0 for one that cannot be made
abbrev pub hull_cases : Transition → List Change
hull_cases body = map (changes_in true (modified_variables true body)) body.cases

-- ---- the counts

-- modified variables of a body whose hull is looked for
abbrev pub most_modified : ℕ
most_modified = 4

-- cases of it
abbrev pub most_hull_cases : ℕ
most_hull_cases = 4

-- rows of a case, an equation counting two
abbrev pub most_hull_rows : ℕ
most_hull_rows = 6

-- monomials in the rows and changes of a case
abbrev pub most_hull_columns : ℕ
most_hull_columns = 6

-- a case has too many rows, or too many monomials in its rows and changes
abbrev pub is_case_beyond : Change → Bool
is_case_beyond case = nat_lt most_hull_rows (row_count case.rows)
    || nat_lt most_hull_columns (length (columns_of case))

-- too many variables are modified, there are too many cases, or one of them has too much
abbrev pub is_beyond : List ℕ → List Change → Bool
is_beyond modified cases = nat_lt most_modified (length modified)
    || nat_lt most_hull_cases (length cases) || list_any is_case_beyond cases

-- ---- the outcome

-- the first of the noted losses that is a step out of 128 bits
abbrev pub first_limit : List Note → Option AnswerLimit
first_limit [] = None
first_limit (note.Loss (loss.Wide left right times) ∷ notes) = Some (Wide left right times)
first_limit (note.Loss loss.Degree ∷ notes) = first_limit notes
first_limit (note.Squash count ∷ notes) = first_limit notes
first_limit (note.Cut count ∷ notes) = first_limit notes
first_limit (note.Limit limit ∷ notes) = first_limit notes
first_limit (note.Dropped proc row by ∷ notes) = first_limit notes
first_limit (note.Facets ∷ notes) = first_limit notes

-- forms of changes as polynomials over these variables
abbrev pub polynomials : List ℕ → List (List ℤ) → List Polynomial
polynomials variables forms = map (λ form. linear form (map (λ v. At v) variables)) forms

-- the normals, or the step that leaves 128 bits
abbrev pub facets_by : List ℕ → Made (List (List ℤ)) → Facets
facets_by variables (Ok forms) = Normals (polynomials variables forms)
facets_by variables (Err step) = Limit (Wide step.left step.right step.times)

-- a limit that there is, else what is made
abbrev pub limit_or : Option AnswerLimit → Facets → Facets
limit_or None made = made
limit_or (Some limit) made = Limit limit

-- Beyond by the counts alone; else the first limit that is noted; else the limit of the search, or
-- the normals
abbrev pub outcome : List ℕ → List Note → List Change → Facets
outcome modified lost cases = if is_beyond modified cases then Beyond
    else limit_or (first_limit lost) (facets_by modified (in_bits.normals cases))

-- the outcome of a body, of whose changes those that cannot be made are noted
abbrev pub facets_of : Transition → Facets
facets_of body =
    outcome (modified_variables true body) (lost_changes true body) (hull_cases body)

-- ---- what the outcome says of the changes

-- the polynomials are the normals of the hull of the changes, where some case has a point
pub record AreHullNormals (modified : List ℕ) (cases : List Change)
    (polys : List Polynomial) : Type 0 where
  pub forms : List (List ℤ)
  pub are : polys ≡ polynomials modified forms
  pub hull : HasChange cases → IsHull (term_count cases) cases forms

-- normals are those of the hull; of another outcome nothing is said
abbrev pub IsOfHull : List ℕ → List Change → Facets → Type 0
IsOfHull modified cases (Normals polys) = AreHullNormals modified cases polys
IsOfHull modified cases Beyond = Unit {0}
IsOfHull modified cases (Limit limit) = Unit {0}

-- ---- words of private calls

-- each variable stands before those behind it
abbrev pub Rise : List ℕ → Type 0
Rise [] = Unit {0}
Rise (v ∷ vs) = AllByRecursion (λ w. v < w) vs × Rise vs

-- a polynomial with a multiple of a column
abbrev pub with_column : ℤ → Col → Polynomial → Result Polynomial TermError
with_column n c p = multiple_of (column_of c) n >>= λ own. sum_of_polys p own
