-- A formula over further entry columns, and rows which say that entry columns are posts.
use Rattle.std.specs.Prelude.{ℕ, ◌+◌, List, [], ◌∷◌, ◌++◌, map, Result, Ok}
use Rattle.std.specs.List.{filter_map, flat_map}
use Rattle.linear_terms.specs.declared.col.Col.TheVariants.{At}
use Rattle.linear_terms.specs.declared.error.TermError.{TermError}
use Rattle.linear_terms.specs.declared.row.Kind.TheVariants.{Equal}
use Rattle.linear_terms.specs.declared.row.Case.{Case}
use Rattle.linear_terms.specs.Expressions.{◌⊟◌, column}
use Rattle.linear_terms.specs.Polynomial.{Polynomial}
use Rattle.transition_formula.specs.Composition.{row_of}
use Rattle.transition_formula.specs.declared.loss.Loss.{Loss}
use Rattle.transition_formula.specs.Loss.{losses_of}
use Rattle.transition_formula.specs.Posts.{posts_at}
use Rattle.transition_formula.specs.Transition.{Transition}

-- the formula over so many entry columns; it says nothing of those that it had not
abbrev pub raised_formula : ℕ → Transition → Transition
raised_formula from f = record { from = from; to = f.to; cases = f.cases }

-- entry columns, from a number on, less the posts, each less one
abbrev pub differences : ℕ → List Polynomial → List (Result Polynomial TermError)
differences first [] = []
differences first (post ∷ posts) = (column (At first) ⊟ Ok post) ∷ differences (first + 1) posts

-- the case with a row for each of the posts at these places, which says that it is the entry column
-- of its turn
abbrev pub equated_case : ℕ → List ℕ → Case → Case
equated_case first places case =
    record {
      aux = case.aux;
      rows = case.rows ++ filter_map (row_of Equal) (differences first (posts_at places case.post));
      post = case.post;
    }

-- the losses of the rows that a case should have and that cannot be made, in the order of the
-- places
abbrev pub losses_in_equating_case : ℕ → List ℕ → Case → List Loss
losses_in_equating_case first places case =
    flat_map losses_of (differences first (posts_at places case.post))

-- the formula where the entry columns from a number on are the posts at these places, in their
-- order
abbrev pub equated_formula : ℕ → List ℕ → Transition → Transition
equated_formula first places f = record {
  from = f.from;
  to = f.to;
  cases = map (equated_case first places) f.cases;
}

-- the losses of the rows that say that entry columns are posts, case by case
abbrev pub losses_in_equating : ℕ → List ℕ → Transition → List Loss
losses_in_equating first places f = flat_map (losses_in_equating_case first places) f.cases
