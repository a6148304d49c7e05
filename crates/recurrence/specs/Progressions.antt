-- Progressions: a variable that grows in each turn by at most a term that itself grows by a
-- constant.
use Rattle.std.specs.Prelude.{ℕ, ℤ, pos, negsuc, List, [], ◌∷◌, map, Bool, true, false, not, ◌&&◌, ◌==◌, if◌then◌else◌, nat_lt, Result, Ok}
use Rattle.std.specs.List.{list_any, list_all, filter, flat_map}
use Rattle.std.specs.Ordering.{int_eq}
use Rattle.items.specs.Gives.{◌>>=◌}
use Rattle.linear_terms.specs.declared.col.Col.{Col}
use Rattle.linear_terms.specs.declared.error.TermError.{TermError}
use Rattle.linear_terms.specs.declared.row.Row.{Row}
use Rattle.linear_terms.specs.declared.row.Case.{Case}
use Rattle.linear_terms.specs.Expressions.{Made, ◌⊠◌, ◌⊟◌, whole}
use Rattle.linear_terms.specs.TermError.{times}
use Rattle.transition_formula.specs.Transition.{Transition}
use Rattle.posing.specs.Posing.{Posing}
use Rattle.closed_form.specs.ClosedRow.{sum_row}
use Rattle.polyhedra.specs.Vocabulary.{Vocabulary}
use Rattle.polyhedra.specs.Changes.{change, modified_variables, moving}
use Rattle.polyhedra.specs.Bounds.{rows_with_bound}
use Rattle.recurrence.specs.declared.terms.StratumTerm.{StratumTerm}
use Rattle.recurrence.specs.declared.terms.Strata.{Strata}
use Rattle.recurrence.specs.Strata.{all_terms}

-- `up` times the change of a variable is bounded over `by` times a term
pub record Progression : Type 0 where
  pub variable : ℕ
  pub up : ℤ
  pub term : StratumTerm
  pub by : ℤ

-- the numbers 1 and -1, in this order
abbrev pub signs : List ℤ
signs = pos 1 ∷ negsuc 0 ∷ []

-- numbers at variables are 1 at v and 0 elsewhere
abbrev pub is_alone : List ℕ → List ℤ → ℕ → Bool
is_alone [] ns v = false
is_alone (u ∷ us) [] v = false
is_alone (u ∷ us) (n ∷ rest) v =
    if u == v then int_eq n (pos 1) && list_all (λ m. int_eq m (pos 0)) rest
    else int_eq n (pos 0) && is_alone us rest v

-- a variable is a term by itself
abbrev pub is_term : List ℕ → List StratumTerm → ℕ → Bool
is_term moving terms v = list_any (λ (t : StratumTerm). is_alone moving t.relation.a v) terms

-- named modified variables that are no terms by themselves
abbrev pub open_variables : Transition → Vocabulary → Strata → List ℕ
open_variables body voc strata =
    filter (λ v. list_any (λ u. u == v) voc.named
    && not (is_term (moving true body) (all_terms strata) v)) (modified_variables true body)

-- of one variable: by sign, term of the first stratum, and sign
abbrev pub progressions_of : List StratumTerm → ℕ → List Progression
progressions_of terms v = flat_map (λ up. flat_map (λ s. map (λ by. record {
  variable = v;
  up = up;
  term = s;
  by = by;
}) signs) terms) signs

-- none under rule 1
abbrev pub progressions : Transition → Vocabulary → Strata → List Progression
progressions body voc strata = if nat_lt 1 voc.rule
    then flat_map (progressions_of strata.first) (open_variables body voc strata) else []

-- by how much `up` times the change is above `by` times the term
abbrev pub excess : Progression → Case → Made
excess p case = whole p.up ⊠ change true case p.variable ⊟ whole p.by ⊠ Ok p.term.recurrence.start

-- the row for a bound; `moved` has what stands for the change in the row, and `count` is the number
-- of turns
abbrev pub progression_row : (ℕ → Made) → Col → Progression → ℤ → Result Row TermError
progression_row moved count p most =
    (whole p.up ⊠ moved p.variable) >>= λ change.
    times p.by p.term.relation.c >>= λ growth.
    (whole p.by ⊠ Ok p.term.recurrence.start) >>= λ s. sum_row change s growth most count

-- the rows, with that of a progression behind them where its excess has a bound that is known
abbrev pub bounded_progression : List Case → (ℕ → Made) → Col → List Row → Progression
    → Posing (List Row)
bounded_progression cases moved count rows p =
    rows_with_bound cases (excess p) (progression_row moved count p) rows
