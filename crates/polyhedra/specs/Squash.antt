-- Squashing: one case for all cases of a formula, from what they have in common.
use Rattle.std.specs.Prelude.{ℕ, ◌+◌, pos, List, [], ◌∷◌, map, length, Option, None, Some, Bool, true, false, ◌&&◌, ◌==◌, Result, Ok, if◌then◌else◌, option_to_list}
use Rattle.std.specs.Cmp.Lexicographic.{pointwise}
use Rattle.std.specs.List.{range_with_len, filter_map, flat_map}
use Rattle.linear_terms.specs.declared.col.Col.TheVariants.{At, Aux}
use Rattle.linear_terms.specs.declared.error.TermError.{TermError}
use Rattle.linear_terms.specs.declared.row.Row.{Row}
use Rattle.linear_terms.specs.declared.row.Case.{Case}
use Rattle.linear_terms.specs.Equality.{poly_eq}
use Rattle.linear_terms.specs.Expressions.{◌⊟◌, whole, column, equation, weighted_sum, or_zero}
use Rattle.linear_terms.specs.Polynomial.{Polynomial, constant_of, column_of}
use Rattle.transition_formula.specs.declared.loss.Loss.{Loss}
use Rattle.transition_formula.specs.Loss.{answer_of, losses_of}
use Rattle.transition_formula.specs.Transition.{Transition, is_fitted}
use Rattle.farkas_check.specs.declared.stratum.Relation.{Relation}
use Rattle.posing.specs.declared.note.Note.TheVariants as note
use Rattle.posing.specs.Posing.{Posing, Done, Noted, ◌>>=◌, each}
use Rattle.polyhedra.specs.Bounds.{with_row, rows_with_entry_bound, rows_with_exit_bound, bounded_change}
use Rattle.polyhedra.specs.Changes.{modified_variables, moving, lost_changes, changes_of, occurring}
use Rattle.polyhedra.specs.Directions.{directions}
use Rattle.polyhedra.specs.Finish.{told_count, finish_of_case}
use Rattle.polyhedra.specs.Relations.{relations_of}
use Rattle.polyhedra.specs.Vocabulary.{Vocabulary}

-- ---- what stands for a variable

-- afterwards, for one that no case modifies: its entry column where both ends have one vocabulary,
-- else 0
abbrev pub unmodified_post : Bool → ℕ → Polynomial
unmodified_post true v = column_of (At v)
unmodified_post false v = constant_of (pos 0)

-- afterwards: the auxiliaries from n on stand for those that are modified
abbrev pub after_from : Bool → ℕ → List ℕ → ℕ → Polynomial
after_from one n [] v = unmodified_post one v
after_from one n (u ∷ us) v = if u == v then column_of (Aux n) else after_from one (n + 1) us v

-- for its change: where both ends have one vocabulary what stands for it afterwards less its entry
-- column
abbrev pub change_after : Bool → List ℕ → ℕ → Polynomial
change_after true us v = or_zero (Ok (after_from true 0 us v) ⊟ column (At v))
change_after false us v = after_from false 0 us v

-- what stands for each variable afterwards, by number
abbrev pub posts_after : Bool → Transition → List Polynomial
posts_after one f = map (after_from one 0 (modified_variables one f)) (range_with_len 0 f.to)

-- what stands for the change of each variable, by number
abbrev pub changes_after : Bool → Transition → List Polynomial
changes_after one f = map (change_after one (modified_variables one f)) (range_with_len 0 f.to)

-- ---- relations

-- the entry columns of variables, in their order
abbrev pub entries_of : List ℕ → List Polynomial
entries_of variables = map (λ v. column_of (At v)) variables

-- multiples of the terms less those of the lower terms less the constant are 0
abbrev pub relation_row : List Polynomial → List Polynomial → Relation → Result Row TermError
relation_row terms lower r = equation (weighted_sum r.a terms ⊟ weighted_sum r.b lower ⊟ whole r.c)

-- the rows, with that of a relation behind them where it can be made
abbrev pub with_relation : List Polynomial → List Polynomial → List Row → Relation
    → Posing (List Row)
with_relation terms lower rows r = with_row rows (relation_row terms lower r)

-- the rows of relations that can be made, in order; none where the relations are not known
abbrev pub with_relations : List Polynomial → List Polynomial → Option (List Relation)
    → Posing (List Row)
with_relations terms lower None = Done []
with_relations terms lower (Some relations) = each (with_relation terms lower) [] relations

-- the rows of relations that can be made, in order
abbrev pub relation_rows : List Polynomial → List Polynomial → List Relation → List Row
relation_rows terms lower relations = filter_map (λ r. answer_of (relation_row terms lower r))
    relations

-- what is lost of the relations whose rows cannot be made, in order
abbrev pub relation_losses : List Polynomial → List Polynomial → List Relation → List Loss
relation_losses terms lower relations = flat_map (λ r. losses_of (relation_row terms lower r))
    relations

-- between the changes of variables that can be made and the entry columns that occur
unfoldable pub change_relations : Bool → Transition → Posing (List Row)
change_relations one f =
    relations_of (changes_of one f) (entries_of (occurring one f))
    >>= with_relations (map (change_after one (modified_variables one f)) (moving one f))
    (entries_of (occurring one f))

-- ---- the case

-- bounds on differences are asked only where both ends have one vocabulary
abbrev pub with_differences : Bool → Transition → Vocabulary → List Row → Posing (List Row)
with_differences true f voc rows = each (bounded_change f.cases (changes_after true f) None) rows
    (directions voc)
with_differences false f voc rows = Done rows

-- bounds before, after and on differences, behind other rows
unfoldable pub with_bounds : Bool → Transition → Vocabulary → Vocabulary → List Row
    → Posing (List Row)
with_bounds one f from to rows =
    each (rows_with_entry_bound f.cases) rows (directions from) >>= λ before.
    each (rows_with_exit_bound f.cases (posts_after one f)) before (directions to) >>= λ both.
    with_differences one f from both

-- relations first
unfoldable pub squash_rows : Bool → Transition → Vocabulary → Vocabulary → Posing (List Row)
squash_rows one f from to = change_relations one f >>= with_bounds one f from to

-- an auxiliary for each modified variable
abbrev pub squash_case : Bool → Transition → List Row → Case
squash_case one f rows = record {
  aux = length (modified_variables one f);
  rows = rows;
  post = posts_after one f;
}

-- losses of changes are noted before the first question
unfoldable pub squashed_case : Bool → Transition → Vocabulary → Vocabulary → Posing Case
squashed_case one f from to =
    Noted (lost_changes one f) (squash_rows one f from to >>= λ rows. Done (squash_case one f rows))

-- ---- the formula

-- the vocabularies are equal
abbrev pub are_same : Vocabulary → Vocabulary → Bool
are_same v w =
    v.columns == w.columns
    && (v.rule == w.rule
    && (pointwise (λ m n. m == n) v.named w.named
    && (pointwise poly_eq v.harvested w.harvested && pointwise poly_eq v.extra w.extra)))

-- the formula of one case for all, in order, thinned and cut; of no case where nothing is left
unfoldable pub squashed_formula : Transition → Vocabulary → Vocabulary → Posing Transition
squashed_formula f from to =
    squashed_case (are_same from to) f from to >>= λ case. finish_of_case case >>= λ left.
    Done record { from = f.from; to = f.to; cases = option_to_list left }

-- the number of cases is noted first
unfoldable pub noted_squash : Transition → Vocabulary → Vocabulary → Posing Transition
noted_squash f from to = Noted (note.Squash (told_count (length f.cases)) ∷ []) (squashed_formula f from to)

-- a formula that is small enough stays as it is; another is squashed
unfoldable pub fitted_formula : Transition → Vocabulary → Vocabulary → Posing Transition
fitted_formula f from to = if is_fitted f.cases then Done f else noted_squash f from to
