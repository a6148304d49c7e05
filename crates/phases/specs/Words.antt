-- Words of the proofs of the calls.
use Rattle.std.specs.Prelude.{◌≡◌, ℕ, ◌+◌, ◌*◌, ◌≤◌, List, [], ◌∷◌, ◌++◌, fold, Bool, length, nat_lt, not, ◌&&◌, IsTrue, Option, None, Some, if◌then◌else◌}
use Rattle.std.specs.List.{AllByRecursion, list_any}
use Rattle.linear_terms.specs.declared.row.Case.{Case}
use Rattle.linear_terms.specs.Equality.{poly_eq}
use Rattle.linear_terms.specs.Polynomial.{Polynomial}
use Rattle.transition_formula.specs.Transition.{Transition, IsSolvable, IsTransition, every_column, is_below}
use Rattle.polyhedra.specs.Vocabulary.{Vocabulary, IsVocabulary}
use Rattle.recurrence.specs.Law.{IsStarred}
use Rattle.phases.specs.declared.halving.Halves.{Halves}
use Rattle.phases.specs.Law.{IsPhased}
use Rattle.phases.specs.Limits.{most_splits}

-- ---- splits

-- there is room for one more split, and it is not there
abbrev pub is_new : List Polynomial → Polynomial → Bool
is_new made p = nat_lt (length made) most_splits && not (list_any (poly_eq p) made)

-- the splits made, with one more behind them where it is new
abbrev pub with_split : List Polynomial → Polynomial → List Polynomial
with_split made p = if is_new made p then made ++ p ∷ [] else made

-- the splits made, with each of a list behind them in turn where it is new
abbrev pub with_splits : List Polynomial → List Polynomial → List Polynomial
with_splits made ps = fold with_split made ps

-- entry columns alone
abbrev pub IsOverEntries : ℕ → Polynomial → Type 0
IsOverEntries from p = IsTrue (every_column (is_below from 0) p)

-- ---- bodies

-- a body that goes back to its own columns, at most 63, by cases of few auxiliaries
pub record IsSplittable (body : Transition) : Type 0 where
  pub fits : IsTransition body.from body.to body.cases
  pub same_ends : body.from ≡ body.to
  pub few_columns : body.to ≤ 63
  pub few : AllByRecursion (λ (case : Case). case.aux ≤ 1000) body.cases

-- and an inequality over its entry columns
pub record IsHalvable (body : Transition) (p : Polynomial) : Type 0 where
  pub splittable : IsSplittable body
  pub over : IsOverEntries body.from p

-- a case that can be put in order, and an inequality over the columns that its posts are for
pub record IsExcludable (q : Polynomial) (case : Case) : Type 0 where
  pub solvable : IsSolvable case
  pub over : IsOverEntries (length case.post) q

-- each case can be put in order, and the inequality is over the columns that its posts are for
abbrev pub AreExcludable : Polynomial → List Case → Type 0
AreExcludable q cases = AllByRecursion (IsExcludable q) cases

-- a body of which so many halves of halves can be made
pub record IsRoomy (depth : ℕ) (body : Transition) (voc : Vocabulary) : Type 0 where
  pub starred : IsStarred body voc
  pub few_columns : body.to ≤ 63
  pub room : AllByRecursion (λ (case : Case). case.aux + 64 * depth ≤ 1000) body.cases

-- the halves have it, if there are any
abbrev pub IfFound : (Halves → Type 0) → Option Halves → Type 0
IfFound R None = Unit {0}
IfFound R (Some found) = R found

-- of both bodies so many halves of halves can be made
abbrev pub AreRoomy : ℕ → Vocabulary → Halves → Type 0
AreRoomy depth voc found = IsRoomy depth found.first voc × IsRoomy depth found.second voc

-- two formulas over the columns of a vocabulary, small enough to go on with
pub record AreInTurn (voc : Vocabulary) (a b : Transition) : Type 0 where
  pub first : IsPhased voc.columns a
  pub second : IsPhased voc.columns b
  pub vocabulary : IsVocabulary voc
  pub few_columns : voc.columns ≤ 63
