-- Products of columns as further lower terms of strata: monomials of columns of which it is known
-- what a turn makes of them.
use Rattle.std.specs.Prelude.{ℕ, ℤ, pos, List, [], ◌∷◌, ◌++◌, length, map, fold, Option, None, Some, Bool, true, false, not, ◌&&◌, nat_lt, slice_get, slice_set, unwrap_or, Ok, Err, if◌then◌else◌}
use Rattle.std.specs.List.{list_all, filter, filter_map, flat_map, range_with_len}
use Rattle.std.specs.Option.{is_some}
use Rattle.std.specs.Ordering.{int_eq}
use Rattle.items.specs.Gives.{◌>>=◌}
use Rattle.linear_terms.specs.declared.col.Col.{Col}
use Rattle.linear_terms.specs.declared.col.Col.TheVariants.{At, Aux}
use Rattle.linear_terms.specs.declared.row.Row.{Row}
use Rattle.linear_terms.specs.Expressions.{Made, ◌⊞◌, ◌⊟◌, column}
use Rattle.linear_terms.specs.Mono.{in_order}
use Rattle.linear_terms.specs.Operations.{substituted_polynomial}
use Rattle.linear_terms.specs.Polynomial.{Polynomial, constant_of, column_of, mono_of}
use Rattle.linear_terms.specs.Replacement.{put_in}
use Rattle.transition_formula.specs.Transition.{Transition, every_column}
use Rattle.farkas_check.specs.declared.stratum.Change.{Change}
use Rattle.farkas_check.specs.Columns.{in_print_order}
use Rattle.polyhedra.specs.Changes.{is_modified, moving, changes_of}
use Rattle.polyhedra.specs.Vocabulary.{Vocabulary}
use Rattle.recurrence.specs.declared.terms.Recurrence.{Recurrence}
use Rattle.recurrence.specs.declared.terms.StratumTerm.{StratumTerm}

-- ---- the products of a body

-- the fourth rule has them
abbrev pub has_products : ℕ → Bool
has_products rule = nat_lt 3 rule

-- the column is an entry column
abbrev pub is_before : Col → Bool
is_before (At v) = true
is_before (Aux n) = false

-- the monomial of columns, where there are two and more
abbrev pub product_of : List Col → Option (List Col)
product_of columns = if nat_lt 1 (length columns) then Some (in_order columns) else None

-- the product that a monomial of a row is: one of entry columns alone
abbrev pub row_product : List Col → Option (List Col)
row_product m = if list_all is_before m then product_of m else None

-- the product that is left of a monomial of a change without its auxiliaries
abbrev pub change_product : List Col → Option (List Col)
change_product m = product_of (filter is_before m)

-- those of a row
abbrev pub row_products : Row → List (List Col)
row_products row = filter_map (λ t. row_product t.0) row.poly.terms

-- those of a change
abbrev pub change_products : Polynomial → List (List Col)
change_products change = filter_map (λ t. change_product t.0) change.terms

-- those of the rows of a case, and of its changes
abbrev pub case_products : Change → List (List Col)
case_products case = flat_map row_products case.rows ++ flat_map change_products case.terms

-- those of cases, in print order, each once
abbrev pub products_in : List Change → List (List Col)
products_in cases = in_print_order (flat_map case_products cases)

-- those of a body, by the changes of the variables that move; none under the rules before the
-- fourth
abbrev pub products : Transition → Vocabulary → List (List Col)
products body voc = if has_products voc.rule then products_in (changes_of true body) else []

-- ---- what a turn makes of columns: for each a polynomial over the state where the turn begins, as
-- far as that is known

-- what is known of a column
abbrev pub knowledge_of : List (Option Polynomial) → Col → Option Polynomial
knowledge_of known (At v) = unwrap_or (slice_get known v) None
knowledge_of known (Aux n) = None

-- it is known what a turn makes of the column
abbrev pub is_known : List (Option Polynomial) → Col → Bool
is_known known c = is_some (knowledge_of known c)

-- an unmodified column stays as it is; nothing is looked at where there are no products
abbrev pub unmodified_columns : Transition → List (List Col) → List (Option Polynomial)
unmodified_columns body [] = []
unmodified_columns body (m ∷ ms) =
    map (λ v. if is_modified true body.cases v then None else Some (column_of (At v)))
    (range_with_len 0 body.to)

-- the one variable that has a number, if that is 1
abbrev pub sole : List ℕ → List ℤ → Option ℕ
sole [] ns = None
sole (v ∷ vs) [] = None
sole (v ∷ vs) (n ∷ ns) =
    if int_eq n (pos 0) then sole vs ns
    else if int_eq n (pos 1) && list_all (λ m. int_eq m (pos 0)) ns then Some v else None

-- nothing is known of the column yet
abbrev pub is_open : Option (Option Polynomial) → Bool
is_open None = false
is_open (Some None) = true
is_open (Some (Some p)) = false

-- with what a turn makes of one more column
abbrev pub with_next : List (Option Polynomial) → ℕ → Made → List (Option Polynomial)
with_next known v (Ok p) = slice_set known v (Some p)
with_next known v (Err e) = known

-- a column is solved by its change, where that has known columns alone
abbrev pub with_change : List (Option Polynomial) → ℕ → Made → List (Option Polynomial)
with_change known v (Ok change) =
    if is_open (slice_get known v) && every_column (is_known known) change
    then with_next known v (column (At v) ⊞ Ok change) else known
with_change known v (Err e) = known

-- by the first difference of a term of a column alone
abbrev pub with_solved : List (Option Polynomial) → Option ℕ → Made → List (Option Polynomial)
with_solved known None change = known
with_solved known (Some v) change = with_change known v change

-- with the column that a term solves, if it solves one
abbrev pub with_term : List ℕ → List (Option Polynomial) → StratumTerm → List (Option Polynomial)
with_term variables known t = with_solved known (sole variables t.relation.a) t.recurrence.first

-- with those of the terms of a stratum, one after another
abbrev pub with_terms : Transition → List (Option Polynomial) → Option (List StratumTerm)
    → List (Option Polynomial)
with_terms body known found = fold (with_term (moving true body)) known (unwrap_or found [])

-- ---- products along the turns

-- what stands for each column after a turn; 0 where that is not known
abbrev pub columns_after_turn : List (Option Polynomial) → List Polynomial
columns_after_turn known = map (λ next. unwrap_or next (constant_of (pos 0))) known

-- by how much a turn changes a polynomial
abbrev pub growth : List Polynomial → Polynomial → Made
growth next p = substituted_polynomial (put_in next []) p ⊟ Ok p

-- of a difference that can be made
abbrev pub grown : List Polynomial → Made → Made
grown next made = made >>= growth next

-- a product, and its differences
abbrev pub sequence_of : List Polynomial → List Col → Recurrence
sequence_of next m = record {
  start = mono_of m;
  first = growth next (mono_of m);
  second = grown next (growth next (mono_of m));
  third = grown next (grown next (growth next (mono_of m)));
  fourth = grown next (grown next (grown next (growth next (mono_of m))));
}

-- the products of known columns
abbrev pub known_products : List (Option Polynomial) → List (List Col) → List (List Col)
known_products known ms = filter (list_all (is_known known)) ms

-- as sequences
abbrev pub sequences : List (Option Polynomial) → List (List Col) → List Recurrence
sequences known ms = map (sequence_of (columns_after_turn known)) (known_products known ms)
