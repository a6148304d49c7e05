-- Sequence and choice of formulas.
use Rattle.std.specs.Prelude.{ℕ, ◌+◌, List, [], ◌∷◌, ◌++◌, map, Option, None, Some, Result, Ok, Err, count_by}
use Rattle.std.specs.List.{filter_map, flat_map, range_with_len}
use Rattle.std.specs.Option.{is_none}
use Rattle.linear_terms.specs.declared.col.Col.TheVariants.{At, Aux}
use Rattle.linear_terms.specs.declared.error.TermError.{TermError}
use Rattle.linear_terms.specs.declared.row.Kind.{Kind}
use Rattle.linear_terms.specs.declared.row.Row.{Row}
use Rattle.linear_terms.specs.declared.row.Case.{Case}
use Rattle.linear_terms.specs.Polynomial.{Polynomial, column_of}
use Rattle.linear_terms.specs.Operations.{substituted_polynomial}
use Rattle.linear_terms.specs.Replacement.{put_in}
use Rattle.transition_formula.specs.declared.loss.Loss.{Loss}
use Rattle.transition_formula.specs.Loss.{answer_of, losses_of}
use Rattle.transition_formula.specs.Transition.{Transition}

-- one case without rows, whose posts are the columns
abbrev pub identity_of : ℕ → Transition
identity_of columns =
    record {
      from = columns;
      to = columns;
      cases = record {
        aux = 0;
        rows = [];
        post = map (λ n. column_of (At n)) (range_with_len 0 columns);
      } ∷ [];
    }

-- the cases of both
abbrev pub union_of : Transition → Transition → Transition
union_of a b = record { from = a.from; to = a.to; cases = a.cases ++ b.cases }

-- ---- an operation on each polynomial of a case

-- an operation that may have no answer
abbrev pub Operation : Type 0
Operation = Polynomial → Result Polynomial TermError

-- the row of an answer; None where there is none, and the row is lost
abbrev pub row_of : Kind → Result Polynomial TermError → Option Row
row_of kind (Ok p) = Some record { poly = p; kind = kind }
row_of kind (Err e) = None

-- the rows of the answers of an operation, in order, without those that are lost
abbrev pub rows_by : Operation → List Row → List Row
rows_by f rows = filter_map (λ row. row_of row.kind (f row.poly)) rows

-- posts; one that is lost may be any number: it becomes the next auxiliary
abbrev pub filled_posts : ℕ → List (Option Polynomial) → List Polynomial
filled_posts next [] = []
filled_posts next (None ∷ posts) = column_of (Aux next) ∷ filled_posts (next + 1) posts
filled_posts next (Some p ∷ posts) = p ∷ filled_posts next posts

-- the posts of the answers of an operation, in order, with an auxiliary from `next` on for each
-- that is lost
abbrev pub posts_by : Operation → ℕ → List Polynomial → List Polynomial
posts_by f next posts = filled_posts next (map (λ p. answer_of (f p)) posts)

-- the case with each polynomial replaced by what the operation answers, the rows first
abbrev pub by : Operation → Case → Case
by f case =
    record {
      aux = case.aux + count_by (λ p. is_none (answer_of (f p))) case.post;
      rows = rows_by f case.rows;
      post = posts_by f case.aux case.post;
    }

-- the losses of an operation on a case, those of its rows and then those of its posts
abbrev pub losses_by : Operation → Case → List Loss
losses_by f case = flat_map (λ row. losses_of (f row.poly)) case.rows
    ++ flat_map (λ p. losses_of (f p)) case.post

-- ---- sequence

-- the posts of the first case put in for the second's columns, and its auxiliaries numbered after
-- the first's
abbrev pub after_case : Case → Case → Operation
after_case first second =
    substituted_polynomial (put_in first.post
    (map (λ n. column_of (Aux n)) (range_with_len first.aux second.aux)))

-- the rows of the first, then what comes of the second after it
abbrev pub sequence_of_cases : Case → Case → Case
sequence_of_cases first second =
    let made = by (after_case first second) record {
      aux = first.aux + second.aux;
      rows = second.rows;
      post = second.post;
    } in
    record { aux = made.aux; rows = first.rows ++ made.rows; post = made.post }

-- each case of the first with each of the second
abbrev pub sequence_of : Transition → Transition → Transition
sequence_of a b =
    record {
      from = a.from;
      to = b.to;
      cases = flat_map (λ first. map (sequence_of_cases first) b.cases) a.cases;
    }

-- the losses of a sequence, for each case of the first those with each of the second
abbrev pub losses_in_sequence : Transition → Transition → List Loss
losses_in_sequence a b =
    flat_map (λ first. flat_map (λ second. losses_by (after_case first second) second) b.cases)
    a.cases
