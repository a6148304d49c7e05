-- The formulas of edges. A state has that many columns, of which the globals are the first.
use Rattle.std.specs.Prelude.{ℕ, ◌+◌, ◌∷◌, [], ◌++◌, List, Option, None, Some, length, map, take, drop, slice_get, slice_set}
use Rattle.linear_terms.specs.declared.col.Col.TheVariants.{Aux}
use Rattle.linear_terms.specs.declared.row.Case.{Case}
use Rattle.linear_terms.specs.Polynomial.{Polynomial, column_of}
use Rattle.syntax_tree.specs.Code.{Statement, Set, Any, Call, Guard}
use Rattle.syntax_tree.specs.Term.{Term}
use Rattle.transition_formula.specs.declared.loss.Loss.{Loss}
use Rattle.transition_formula.specs.Composition.{sequence_of, losses_in_sequence}
use Rattle.transition_formula.specs.Transition.{Transition}
use Rattle.leaf_cases.specs.Expression.{lists_of}
use Rattle.leaf_cases.specs.Guard.{columns_of, guard_of, with_posts}
use Rattle.leaf_cases.specs.Listed.{Listed, together}
use Rattle.leaf_cases.specs.Steps.{operand}

-- ---- an assignment, and a column that takes any number

-- a case of a value, as a case that puts the value into a column and leaves the others
abbrev pub set_case : ℕ → ℕ → Case → Case
set_case columns col case = with_posts (slice_set (columns_of columns) col (operand 0 case)) case

-- the formula of an assignment to a column, by the cases of the value
abbrev pub set_of : ℕ → ℕ → List Case → Transition
set_of columns col cases = record {
  from = columns;
  to = columns;
  cases = map (set_case columns col) cases;
}

-- the case in which a column takes any number, its one auxiliary, and the others stay
abbrev pub any_case : ℕ → ℕ → Case
any_case columns col = record {
  aux = 1;
  rows = [];
  post = slice_set (columns_of columns) col (column_of (Aux 0));
}

-- the formula of a column that takes any number: one case
abbrev pub any_of : ℕ → ℕ → Transition
any_of columns col = record { from = columns; to = columns; cases = any_case columns col ∷ [] }

-- ---- a call: the arguments are made, then the callee's formula follows, and its posts are put
-- into the caller's columns

-- the values of several expressions behind those that are made, the first outermost
abbrev pub arguments_after : Listed → List Term → Listed
arguments_after made [] = made
arguments_after made (e ∷ rest) = arguments_after (together made (lists_of e).value) rest

-- one case without rows and without a value
abbrev pub no_values : Listed
no_values = record { cases = record { aux = 0; rows = []; post = [] } ∷ []; lost = [] }

-- the cases of the arguments of a call together, with a post for each argument in order
unfoldable pub arguments_of : List Term → Listed
arguments_of args = arguments_after no_values args

-- the globals stand before the arguments
abbrev pub entering : ℕ → ℕ → ℕ → List Case → Transition
entering columns globals args cases =
    record {
      from = columns;
      to = globals + args;
      cases = map (λ case. with_posts (columns_of globals ++ case.post) case) cases;
    }

-- so many posts of each case
abbrev pub cut : ℕ → Transition → Transition
cut to f = record {
  from = f.from;
  to = to;
  cases = map (λ case. with_posts (take to case.post) case) f.cases;
}

-- the globals, and the returned value where it is awaited
abbrev pub awaited_count : ℕ → Option ℕ → ℕ
awaited_count globals None = globals
awaited_count globals (Some col) = globals + 1

-- a value goes into the column that awaits it
abbrev pub posts_with_value : Option ℕ → Polynomial → List Polynomial → List Polynomial
posts_with_value None value posts = posts
posts_with_value (Some col) value posts = slice_set posts col value

-- the globals take the callee's posts, and the other columns stay, but for the one that awaits the
-- value
abbrev pub leaving_case : ℕ → ℕ → Option ℕ → Case → Case
leaving_case columns globals into case =
    with_posts (posts_with_value into (operand globals case)
    (take globals case.post ++ drop globals (columns_of columns))) case

-- the arguments, and then the callee's formula with the posts that are awaited
abbrev pub call_sequence : ℕ → ℕ → List Term → Option ℕ → Transition → Transition
call_sequence columns globals args into callee =
    sequence_of (entering columns globals (length args) (arguments_of args).cases)
    (cut (awaited_count globals into) callee)

-- the formula of a call over the columns of the caller, by the formula of the callee
abbrev pub call_of : ℕ → ℕ → List Term → Option ℕ → Transition → Transition
call_of columns globals args into callee =
    record {
      from = columns;
      to = columns;
      cases = map (leaving_case columns globals into)
          (call_sequence columns globals args into callee).cases;
    }

-- what is lost where the formula of a call is made: in its arguments, then where the callee follows
abbrev pub losses_in_call : ℕ → ℕ → List Term → Option ℕ → Transition → List Loss
losses_in_call columns globals args into callee =
    (arguments_of args).lost
    ++ losses_in_sequence (entering columns globals (length args) (arguments_of args).cases)
    (cut (awaited_count globals into) callee)

-- a formula that holds of nothing
abbrev pub nothing_of : ℕ → Transition
nothing_of columns = record { from = columns; to = columns; cases = [] }

-- a call of a procedure without a known formula has no cases, and nothing is made
abbrev pub known_call : ℕ → ℕ → List Term → Option ℕ → Option (Option Transition) → Transition
known_call columns globals args into (Some (Some callee)) = call_of columns globals args into callee
known_call columns globals args into _ = nothing_of columns

-- what is lost where the formula of a call is made; [] where no formula is known
abbrev pub losses_in_known_call : ℕ → ℕ → List Term → Option ℕ → Option (Option Transition)
    → List Loss
losses_in_known_call columns globals args into (Some (Some callee)) =
    losses_in_call columns globals args into callee
losses_in_known_call columns globals args into _ = []

-- ---- an edge, by what it does; the other statements stand at no edge

-- the formula of an edge, by the known formulas of procedures
abbrev pub leaf_of : ℕ → ℕ → List (Option Transition) → Statement → Transition
leaf_of columns globals known (Guard cond) = guard_of columns (lists_of cond).truth.cases
leaf_of columns globals known (Set col value) = set_of columns col (lists_of value).value.cases
leaf_of columns globals known (Any col) = any_of columns col
leaf_of columns globals known (Call proc args into) =
    known_call columns globals args into (slice_get known proc)
leaf_of columns globals known _ = nothing_of columns

-- what is lost where the formula of an edge is made, in order
abbrev pub losses_in_leaf : ℕ → ℕ → List (Option Transition) → Statement → List Loss
losses_in_leaf columns globals known (Guard cond) = (lists_of cond).truth.lost
losses_in_leaf columns globals known (Set col value) = (lists_of value).value.lost
losses_in_leaf columns globals known (Any col) = []
losses_in_leaf columns globals known (Call proc args into) =
    losses_in_known_call columns globals args into (slice_get known proc)
losses_in_leaf columns globals known _ = []
