-- What settling, thinning and fitting keep, whatever the answers are, as long as they are true.
use Rattle.std.specs.Prelude.{◌≡◌, ◌≤◌, List, All, ℤ}
use Rattle.linear_terms.specs.declared.row.Case.{Case}
use Rattle.linear_terms.specs.Row.{AreCanonical}
use Rattle.transition_formula.specs.Meaning.{HoldsCase, Covers}
use Rattle.transition_formula.specs.Transition.{Transition, IsTransition, IsFitted, AreSolvable}
use Rattle.posing.specs.Posing.{Always}
use Rattle.polyhedra.specs.Settle.{settled_formula}
use Rattle.polyhedra.specs.Squash.{fitted_formula}
use Rattle.polyhedra.specs.Thin.{thinned_case}
use Rattle.polyhedra.specs.Vocabulary.{Vocabulary, IsVocabulary}

-- each case's rows have their monomials in print order, each once, as their types keep them
abbrev pub HaveCanonicalRows : List Case → Type 0
HaveCanonicalRows cases = All (λ (case : Case). AreCanonical case.rows) cases

-- the second case holds of all that the first holds of
abbrev pub IsWider : Case → Case → Type 0
IsWider case made = (before after : List ℤ) → HoldsCase case before after
    → HoldsCase made before after

-- a settled formula holds of all that the formula holds of
abbrev pub SettlingCovers : Type 0
SettlingCovers = (f : Transition) → HaveCanonicalRows f.cases → AreSolvable f.cases
    → Always (λ g. Covers g f) (settled_formula f)

-- a thinned case holds of all that the case holds of
abbrev pub ThinningCovers : Type 0
ThinningCovers = (case : Case) → Always (IsWider case) (thinned_case case)

-- the formula goes from the columns of one vocabulary to those of another, at most 63 each
pub record IsBetween (f : Transition) (from to : Vocabulary) : Type 0 where
  pub fits : IsTransition f.from f.to f.cases
  pub starts : from.columns ≡ f.from
  pub ends : to.columns ≡ f.to
  pub few_before : f.from ≤ 63
  pub few_after : f.to ≤ 63
  pub from_is : IsVocabulary from
  pub to_is : IsVocabulary to

-- what comes of fitting a formula holds of all that the formula holds of
abbrev pub FittingCovers : Type 0
FittingCovers = (f : Transition) (from to : Vocabulary) → IsBetween f from to
    → Always (λ g. Covers g f) (fitted_formula f from to)

-- it goes between the same columns, by at most 16 cases of at most 64 rows and 64 auxiliaries
pub record IsSmall (f g : Transition) : Type 0 where
  pub from : g.from ≡ f.from
  pub to : g.to ≡ f.to
  pub fits : IsTransition f.from f.to g.cases
  pub fitted : IsFitted g.cases

-- what comes of fitting a formula goes between the formula's columns, and is small enough to go on
-- with, whatever the answers are, as long as they are true
abbrev pub FittingFits : Type 0
FittingFits = (f : Transition) (from to : Vocabulary) → IsBetween f from to
    → Always (IsSmall f) (fitted_formula f from to)
