-- Words of the proofs of the calls.
use Rattle.std.specs.Prelude.{◌≡◌, ℕ, ◌<◌, ◌^◌, pos, negsuc, Result, Ok, Err, Option, None, Some, ◌++◌, List, [], ◌∷◌, length, map, All, Bool, true, ◌==◌, if◌then◌else◌}
use Rattle.std.specs.List.{AllByRecursion, list_any, range_with_len}
use Rattle.std.specs.declared.cmp.Ordering.TheVariants.{Greater}
use Rattle.linear_terms.specs.declared.col.Col.{Col}
use Rattle.linear_terms.specs.Mono.{mono_cmp}
use Rattle.linear_terms.specs.Polynomial.{Polynomial, column_of}
use Rattle.transition_formula.specs.Transition.{Transition}
use Rattle.polyhedra.specs.declared.variables.Movement.{Movement}
use Rattle.polyhedra.specs.Changes.{modified_variables, moving, changes_of, occurring}
use Rattle.linear_terms.specs.declared.row.Row.{Row}
use Rattle.linear_terms.specs.declared.row.Case.{Case}
use Rattle.posing.specs.Posing.{Posing, ◌>>=◌, each}
use Rattle.recurrence.specs.declared.stratifying.Below.{Below}
use Rattle.recurrence.specs.declared.terms.Recurrence.{Recurrence}
use Rattle.recurrence.specs.declared.terms.StratumTerm.{StratumTerm}
use Rattle.recurrence.specs.declared.progressions.Turns.{Turns}
use Rattle.recurrence.specs.declared.progressions.SignedChange.{SignedChange}
use Rattle.recurrence.specs.declared.progressions.Progression as asked
use Rattle.recurrence.specs.Progressions.{Progression, signs, progressions_of, bounded_progression}
use Rattle.recurrence.specs.Products.{products, knowledge_of, is_known}
use Rattle.recurrence.specs.Star.{after_from, count, past_third, posts, moves, rows_of}
use Rattle.recurrence.specs.Strata.{over, strata}
use Rattle.linear_terms.specs.declared.col.Col.TheVariants.{At, Aux}
use Rattle.linear_terms.specs.declared.error.TermError.{TermError}
use Rattle.linear_terms.specs.declared.row.Kind.TheVariants.{AtMost}
use Rattle.linear_terms.specs.Expressions.{Made, ◌⊟◌, column, linear}
use Rattle.items.specs.Gives as gives
use Rattle.closed_form.specs.ClosedRow.{closed_row}
use Rattle.polyhedra.specs.Vocabulary.{Vocabulary}
use Rattle.polyhedra.specs.Directions.{directions}
use Rattle.polyhedra.specs.Bounds.{IsCovered, rows_with_entry_bound, rows_with_exit_bound, bounded_change}

-- each number is less than those behind it
abbrev pub Rise : List ℕ → Type 0
Rise [] = Unit {0}
Rise (v ∷ vs) = AllByRecursion (λ w. v < w) vs × Rise vs

-- each column stands in print order before those behind it
abbrev pub Ascend : List Col → Type 0
Ascend [] = Unit {0}
Ascend (c ∷ cs) = AllByRecursion (λ d. mono_cmp (d ∷ []) (c ∷ []) ≡ Greater) cs × Ascend cs

-- the number is one of the listed ones
abbrev pub is_among : List ℕ → ℕ → Bool
is_among numbers v = list_any (λ u. u == v) numbers

-- what a body changes, where both ends have one vocabulary
pub record IsMovement (body : Transition) (m : Movement) : Type 0 where
  pub modified : m.modified ≡ modified_variables true body
  pub moving : m.moving ≡ moving true body
  pub cases : m.cases ≡ changes_of true body
  pub occurring : m.occurring ≡ occurring true body

-- the modified variables, few enough to be numbered
pub record AreModified (body : Transition) (variables : List ℕ) : Type 0 where
  pub are : variables ≡ modified_variables true body
  pub few : length variables < 2 ^ 32

-- the lower terms that a stratum stands on
abbrev pub lower_terms : Transition → Below → List Recurrence
lower_terms body below = over body below.products.now below.known.now below.terms.now

-- ---- progressions, one part after another

-- a post of each case for each variable, and modified variables few enough to be numbered
pub record AreTurns (turns : Turns) : Type 0 where
  pub posts : All (λ (case : Case). length case.post ≡ turns.to) turns.cases.now
  pub few : length turns.modified.now < 2 ^ 32

-- a progression by what stands behind its references
abbrev pub plain_progression : asked.Progression → Progression
plain_progression p =
    record { variable = p.change.variable; up = p.change.up; term = p.term.now; by = p.by }

-- a variable's change over the turns, by the modified variables
abbrev pub change_over_turns_by : List ℕ → ℕ → Made
change_over_turns_by modified v = column (after_from 0 modified v) ⊟ column (At v)

-- the rows, with that of a progression behind them where its bound is known
abbrev pub rows_with_progression_bound : Turns → List Row → Progression → Posing (List Row)
rows_with_progression_bound turns = bounded_progression turns.cases.now
    (change_over_turns_by turns.modified.now) (Aux (length turns.modified.now))

-- of one signed change, over both signs of a term
abbrev pub by_term : Turns → SignedChange → List Row → StratumTerm → Posing (List Row)
by_term turns change rows t = each (rows_with_progression_bound turns) rows (map (λ by. record {
  variable = change.variable;
  up = change.up;
  term = t;
  by = by;
}) signs)

-- of one variable
abbrev pub by_variable : Turns → List Row → ℕ → Posing (List Row)
by_variable turns rows v =
    each (rows_with_progression_bound turns) rows (progressions_of turns.terms.now v)

-- ---- rows

-- the row of a term, by the modified variables and those whose change can be made
abbrev pub row_of_term : List (List Col) → List ℕ → List ℕ → StratumTerm → Result Row TermError
row_of_term ms modified moving t =
    gives.◌>>=◌ (past_third ms t) (λ d4. gives.◌>>=◌ t.recurrence.first
    (λ d1. gives.◌>>=◌ t.recurrence.second (λ d2. gives.◌>>=◌ t.recurrence.third (λ d3.
    closed_row (linear t.relation.a (map (after_from 0 modified) moving)) t.recurrence.start d1 d2
    d3 (Aux (length modified))))))

-- a column is at least 1
abbrev pub turn_row : Col → Row
turn_row c = record {
  poly = record { terms = (c ∷ [], negsuc 0) ∷ []; rest = pos 1 };
  kind = AtMost;
}

-- bounds before, after and on changes, behind other rows
unfoldable pub bound_rows : Transition → Vocabulary → List Row → Posing (List Row)
bound_rows body voc rows =
    each (rows_with_entry_bound body.cases) rows (directions voc) >>= λ before.
    each (rows_with_exit_bound body.cases (posts body)) before (directions voc) >>= λ both.
    each (bounded_change body.cases (moves body) (Some (count body))) both
    (directions voc ++ voc.extra)

-- the rows by the strata of the body
unfoldable pub rows_by_strata : Transition → Vocabulary → Posing (List Row)
rows_by_strata body voc = strata body (products body voc) >>= rows_of body voc

-- bounds before and after, behind other rows
unfoldable pub bounds_at_ends : List Case → List Polynomial → List Polynomial → List Row
    → Posing (List Row)
bounds_at_ends cases after along rows = each (rows_with_entry_bound cases) rows along
    >>= λ before. each (rows_with_exit_bound cases after) before along

-- ---- products

-- an unmodified column stays as it is, by the modified variables; nothing is looked at where there
-- are no products
abbrev pub unmodified_columns_by : List ℕ → ℕ → List (List Col) → List (Option Polynomial)
unmodified_columns_by modified to [] = []
unmodified_columns_by modified to (m ∷ ms) =
    map (λ v. if is_among modified v then None else Some (column_of (At v))) (range_with_len 0 to)

-- the polynomial has known columns alone
abbrev pub HasKnown : List (Option Polynomial) → Polynomial → Type 0
HasKnown known p = AllByRecursion (λ t. AllByRecursion (λ c. is_known known c ≡ true) t.0) p.terms

-- so has what a turn makes of each known column
abbrev pub IsClosed : List (Option Polynomial) → Type 0
IsClosed known = (c : Col) (p : Polynomial) → knowledge_of known c ≡ Some p → HasKnown known p

-- polynomials for columns have no columns but these
abbrev pub AreCovered : List Polynomial → Type 0
AreCovered next = All (IsCovered (length next)) next

-- if it is made, it has no columns but the first so many entry columns
abbrev pub IsCoveredIfMade : ℕ → Made → Type 0
IsCoveredIfMade n (Ok p) = IsCovered n p
IsCoveredIfMade n (Err e) = Unit {0}
