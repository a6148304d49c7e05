-- Fitting where a formula of some more cases may stay as it is.
use Rattle.std.specs.Prelude.{ℕ, List, Bool, ◌&&◌, nat_le, length, IsTrue, if◌then◌else◌}
use Rattle.std.specs.List.{list_all}
use Rattle.linear_terms.specs.declared.row.Case.{Case}
use Rattle.transition_formula.specs.Transition.{Transition, most_rows, most_auxiliaries}
use Rattle.posing.specs.Posing.{Posing, Done, ◌>>=◌}
use Rattle.polyhedra.specs.Settle.{settled_formula}
use Rattle.polyhedra.specs.Squash.{noted_squash}
use Rattle.polyhedra.specs.Vocabulary.{Vocabulary}

-- how many cases the formula of walks may have where the evaluation goes on with it as it is
abbrev pub most_walk_cases : ℕ
most_walk_cases = 64

-- no more cases than so many, each of no more rows and auxiliaries than a fitted case has
abbrev pub is_within : ℕ → List Case → Bool
is_within most cases =
    nat_le (length cases) most
    && list_all (λ case. nat_le (length case.rows) most_rows
    && nat_le case.aux most_auxiliaries) cases

-- there are at most 64 cases, of at most 64 rows and 64 auxiliaries each
abbrev pub IsWithin : List Case → Type 0
IsWithin cases = IsTrue (is_within most_walk_cases cases)

-- a formula that is small enough stays as it is; another is squashed
unfoldable pub fitted_formula_within : ℕ → Transition → Vocabulary → Vocabulary → Posing Transition
fitted_formula_within most f from to =
    if is_within most f.cases then Done f else noted_squash f from to

-- the formula settled, and then fitted between two vocabularies
unfoldable pub settled_formula_within : ℕ → Transition → Vocabulary → Vocabulary → Posing Transition
settled_formula_within most f from to = settled_formula f >>= λ g. fitted_formula_within most g from to
