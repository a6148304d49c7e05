-- Star: the identity, and a case for one and more turns of a body.
use Rattle.std.specs.Prelude.{ℕ, ◌+◌, pos, negsuc, List, [], ◌∷◌, ◌++◌, length, map, Some, true, Bool, ◌==◌, if◌then◌else◌, Result, Ok, Err, option_to_list}
use Rattle.std.specs.List.{filter, range_with_len}
use Rattle.std.specs.Cmp.Lexicographic.{pointwise}
use Rattle.std.specs.Ordering.{int_eq}
use Rattle.items.specs.Gives as gives
use Rattle.linear_terms.specs.declared.col.Col.{Col}
use Rattle.linear_terms.specs.declared.col.Col.TheVariants.{At, Aux}
use Rattle.linear_terms.specs.declared.error.TermError.{TermError}
use Rattle.linear_terms.specs.declared.row.Kind.TheVariants.{AtMost}
use Rattle.linear_terms.specs.declared.row.Row.{Row}
use Rattle.linear_terms.specs.declared.row.Case.{Case}
use Rattle.linear_terms.specs.Equality.{poly_eq}
use Rattle.linear_terms.specs.Expressions.{Made, ◌⊟◌, column, whole, linear, or_zero}
use Rattle.linear_terms.specs.Polynomial.{Polynomial, constant_of, column_of}
use Rattle.transition_formula.specs.Composition.{identity_of, union_of}
use Rattle.transition_formula.specs.Transition.{Transition}
use Rattle.posing.specs.Posing.{Posing, Done, Noted, ◌>>=◌, each}
use Rattle.closed_form.specs.ClosedRow.{closed_row}
use Rattle.polyhedra.specs.Vocabulary.{Vocabulary}
use Rattle.polyhedra.specs.Directions.{distinct, directions}
use Rattle.polyhedra.specs.Changes.{modified_variables, moving, lost_changes}
use Rattle.polyhedra.specs.Bounds.{with_row, rows_with_entry_bound, rows_with_exit_bound, bounded_change}
use Rattle.polyhedra.specs.Finish.{finish_of_case}
use Rattle.recurrence.specs.declared.terms.StratumTerm.{StratumTerm}
use Rattle.recurrence.specs.declared.terms.Strata.{Strata}
use Rattle.recurrence.specs.Products.{products}
use Rattle.recurrence.specs.Strata.{strata, all_terms}
use Rattle.recurrence.specs.Progressions.{progressions, bounded_progression}

-- ---- columns of the second case

-- the column that has a variable's number after the turns: auxiliaries from n on stand for the
-- modified ones, and another stays
abbrev pub after_from : ℕ → List ℕ → ℕ → Col
after_from n [] v = At v
after_from n (u ∷ us) v = if u == v then Aux n else after_from (n + 1) us v

-- the column that has a variable's number after the turns of a body
abbrev pub after : Transition → ℕ → Col
after body v = after_from 0 (modified_variables true body) v

-- the column for the number of turns
abbrev pub count : Transition → Col
count body = Aux (length (modified_variables true body))

-- a variable's change over the turns
abbrev pub change_over_turns : Transition → ℕ → Made
change_over_turns body v = column (after body v) ⊟ column (At v)

-- the posts of the second case, for each variable its column after the turns, by number
abbrev pub posts : Transition → List Polynomial
posts body = map (λ v. column_of (after body v)) (range_with_len 0 body.to)

-- the change of each variable over the turns, by number; 0 where it cannot be made
abbrev pub moves : Transition → List Polynomial
moves body = map (λ v. or_zero (change_over_turns body v)) (range_with_len 0 body.to)

-- ---- rows of the second case

-- the difference that is zero where a term has a closed row: the fourth where there are products;
-- else there is no need to look at it
abbrev pub past_third : List (List Col) → StratumTerm → Made
past_third [] t = whole (pos 0)
past_third (m ∷ ms) t = t.recurrence.fourth

-- the term after the turns by Newton's forward difference formula
abbrev pub term_row : List (List Col) → Transition → StratumTerm → Result Row TermError
term_row ms body t =
    gives.◌>>=◌ (past_third ms t) (λ d4. gives.◌>>=◌ t.recurrence.first
    (λ d1. gives.◌>>=◌ t.recurrence.second (λ d2. gives.◌>>=◌ t.recurrence.third (λ d3.
    closed_row (linear t.relation.a (map (after body) (moving true body))) t.recurrence.start d1 d2
    d3 (count body)))))

-- the polynomial is zero, or cannot be made
abbrev pub is_none_or_lost : Made → Bool
is_none_or_lost (Ok p) = poly_eq p (constant_of (pos 0))
is_none_or_lost (Err e) = true

-- the numbers of two terms are the same
abbrev pub same_term : StratumTerm → StratumTerm → Bool
same_term t u = pointwise int_eq t.relation.a u.relation.a

-- each term once
abbrev pub terms_once : Strata → List StratumTerm
terms_once s = distinct same_term (all_terms s)

-- those that have a closed row, or of which a step to it is lost
abbrev pub terms_with_row : List (List Col) → Strata → List StratumTerm
terms_with_row ms s = filter (λ t. is_none_or_lost (past_third ms t)) (terms_once s)

-- there is at least one turn
abbrev pub some_turn : Transition → Row
some_turn body = record {
  poly = record { terms = (count body ∷ [], negsuc 0) ∷ []; rest = pos 1 };
  kind = AtMost;
}

-- the rows, kind by kind
unfoldable pub rows_of : Transition → Vocabulary → Strata → Posing (List Row)
rows_of body voc strata =
    each (λ rows t. with_row rows (term_row (products body voc) body t)) []
    (terms_with_row (products body voc) strata) >>= λ equations.
    each (rows_with_entry_bound body.cases) (equations ++ some_turn body ∷ []) (directions voc)
    >>= λ before.
    each (rows_with_exit_bound body.cases (posts body)) before (directions voc) >>= λ both.
    each (bounded_change body.cases (moves body) (Some (count body))) both
    (directions voc ++ voc.extra) >>= λ changes.
    each (bounded_progression body.cases (change_over_turns body) (count body)) changes
    (progressions body voc strata)

-- the second case as it is put together; changes that are lost are noted before the first question
unfoldable pub turns : Transition → Vocabulary → Posing Case
turns body voc =
    Noted (lost_changes true body) (strata body (products body voc)) >>= λ strata.
    rows_of body voc strata >>= λ rows.
    Done record { aux = length (modified_variables true body) + 1; rows = rows; post = posts body }

-- ---- star

-- star by the cases of the body, the identity alone where there are none
abbrev pub star_by : Transition → Vocabulary → List Case → Posing Transition
star_by body voc [] = Done (identity_of body.from)
star_by body voc (case ∷ cases) =
    turns body voc >>= finish_of_case >>= λ left.
    Done (union_of (identity_of body.from) record {
      from = body.from;
      to = body.to;
      cases = option_to_list left;
    })

-- the identity where the body has no case; else the identity, and the second case put in order,
-- thinned and cut, if anything is left of it
unfoldable pub star_of : Transition → Vocabulary → Posing Transition
star_of body voc = star_by body voc body.cases
