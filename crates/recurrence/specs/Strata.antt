-- Strata of a body: terms over the entry columns whose change in each turn the body determines, by
-- terms of the strata below.
--
-- Source: Farzan and Kincaid, Compositional Recurrence Analysis, FMCAD 2015.
use Rattle.std.specs.Prelude.{ℕ, pos, List, [], ◌++◌, length, map, Option, None, Some, Bool, true, false, not, ◌&&◌, nat_lt, unwrap_or, Ok}
use Rattle.std.specs.List.{list_any, filter}
use Rattle.std.specs.Option.{option_map}
use Rattle.std.specs.Ordering.{int_eq}
use Rattle.linear_terms.specs.declared.col.Col.{Col}
use Rattle.linear_terms.specs.declared.col.Col.TheVariants.{At}
use Rattle.linear_terms.specs.Expressions.{Made, ◌⊞◌, whole, linear, combination}
use Rattle.linear_terms.specs.Polynomial.{Polynomial, column_of}
use Rattle.transition_formula.specs.Transition.{Transition}
use Rattle.farkas_check.specs.declared.stratum.Relation.{Relation}
use Rattle.posing.specs.Posing.{Posing, Done, ◌>>=◌}
use Rattle.polyhedra.specs.Changes.{is_modified, modified_variables, moving, changes_of, occurring}
use Rattle.polyhedra.specs.Relations.{relations_of}
use Rattle.recurrence.specs.declared.terms.Recurrence.{Recurrence}
use Rattle.recurrence.specs.declared.terms.StratumTerm.{StratumTerm}
use Rattle.recurrence.specs.declared.terms.Strata.{Strata}
use Rattle.recurrence.specs.declared.terms.RecurrencePart.{RecurrencePart}
use Rattle.recurrence.specs.declared.terms.RecurrencePart.TheVariants.{Start, First, Second, Third}
use Rattle.recurrence.specs.Products.{sequences, unmodified_columns, with_terms}

-- ---- difference equations

-- the number of a sequence, or one of its first three differences, where the turns start
abbrev pub part : RecurrencePart → Recurrence → Made
part Start r = Ok r.start
part First r = r.first
part Second r = r.second
part Third r = r.third

-- a column that is not modified
abbrev pub steady : ℕ → Recurrence
steady v = record {
  start = column_of (At v);
  first = whole (pos 0);
  second = whole (pos 0);
  third = whole (pos 0);
  fourth = whole (pos 0);
}

-- a term changes by a combination of the lower terms and a constant, its change by the same
-- combination of their changes, and so on
abbrev pub recurrence_of : List ℕ → List Recurrence → Relation → Recurrence
recurrence_of variables lower r = record {
  start = linear r.a (map (λ v. At v) variables);
  first = combination r.b (map (λ l. Ok l.start) lower) ⊞ whole r.c;
  second = combination r.b (map (λ l. l.first) lower);
  third = combination r.b (map (λ l. l.second) lower);
  fourth = combination r.b (map (λ l. l.third) lower);
}

-- the term of a relation, with its difference equation over the variables and the lower terms
abbrev pub term_of : List ℕ → List Recurrence → Relation → StratumTerm
term_of variables lower r = record { relation = r; recurrence = recurrence_of variables lower r }

-- some term has a number
abbrev pub has_terms : Relation → Bool
has_terms r = list_any (λ n. not (int_eq n (pos 0))) r.a

-- ---- strata

-- the relations between the changes of a body and lower terms, but for those between lower terms
-- alone; none where they are not known
unfoldable pub stratum : Transition → List Recurrence → Posing (Option (List StratumTerm))
stratum body lower =
    relations_of (changes_of true body) (map (λ l. l.start) lower) >>= λ found.
    Done (option_map (λ rs. map (term_of (moving true body) lower) (filter has_terms rs)) found)

-- the columns that are not modified and occur in a row or a change
abbrev pub steady_columns : Transition → List ℕ
steady_columns body = filter (λ v. not (is_modified true body.cases v)) (occurring true body)

-- these columns, then the terms of a stratum, then the products of known columns
abbrev pub over : Transition → List (List Col) → List (Option Polynomial) → Option (List StratumTerm)
    → List Recurrence
over body ms known below =
    map steady (steady_columns body) ++ map (λ t. t.recurrence) (unwrap_or below [])
    ++ sequences known ms

-- a stratum, where it is asked
abbrev pub stratum_if : Bool → Transition → List Recurrence → Posing (Option (List StratumTerm))
stratum_if true body lower = stratum body lower
stratum_if false body lower = Done None

-- the terms are known, and are fewer than so many
abbrev pub is_short : ℕ → Option (List StratumTerm) → Bool
is_short most None = false
is_short most (Some terms) = nat_lt (length terms) most

-- the second has more terms than the first
abbrev pub has_grown : Option (List StratumTerm) → Option (List StratumTerm) → Bool
has_grown first second = nat_lt (length (unwrap_or first [])) (length (unwrap_or second []))

-- The first has no lower terms. The second is asked where the first has fewer terms than there are
-- modified variables, and the third where the second has fewer too, and more than the first. Terms
-- of columns alone solve these, after each stratum.
unfoldable pub strata : Transition → List (List Col) → Posing Strata
strata body ms =
    stratum body [] >>= λ v1.
    stratum_if (is_short (length (modified_variables true body)) v1) body
    (over body ms (with_terms body (unmodified_columns body ms) v1) v1) >>= λ v2.
    stratum_if (has_grown v1 v2 && is_short (length (modified_variables true body)) v2) body
    (over body ms (with_terms body (with_terms body (unmodified_columns body ms) v1) v2) v2)
    >>= λ v3.
    Done record { first = unwrap_or v1 []; second = unwrap_or v2 []; third = unwrap_or v3 [] }

-- the terms of the three strata, from the first on
abbrev pub all_terms : Strata → List StratumTerm
all_terms s = s.first ++ s.second ++ s.third
