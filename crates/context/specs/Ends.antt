-- What is asked of where an assertion stands, and of the formulas that lead there.
use Rattle.std.specs.Prelude.{◌≡◌, ◌<◌, ◌≤◌, ℕ, ℤ, IsTrue, All, List, [], ◌++◌, Option, length}
use Rattle.checked_tree.specs.Law.{IsEnd}
use Rattle.execution.specs.Step.{IsFalseIn}
use Rattle.syntax_tree.specs.Term.{Term}
use Rattle.syntax_tree.specs.WellFormed.{columns_below, operators_of}
use Rattle.transition_formula.specs.Meaning.{Holds}
use Rattle.transition_formula.specs.Posts.{numbers_at}
use Rattle.transition_formula.specs.Transition.{Transition, IsTransition}
use Rattle.proc_summary.specs.Claims.{HoldsIf}
use Rattle.context.specs.declared.place.AssertionPlace.{AssertionPlace}

-- the vocabularies have these columns, at most 63, and the columns that are told are among them, at
-- most 63 too
pub record IsPlace (place : AssertionPlace) : Type 0 where
  pub entry : place.entry ≤ place.columns
  pub start_columns : place.start.columns ≡ 0
  pub full_columns : place.full.columns ≡ place.columns
  pub start : IsEnd place.start
  pub full : IsEnd place.full
  pub shown : All (λ column. column < place.columns) place.shown
  pub few : length place.shown ≤ 63

-- an expression that is a condition in states of so many columns
pub record IsCondition (columns : ℕ) (cond : Term) : Type 0 where
  pub below : IsTrue (columns_below columns cond)
  pub operators : operators_of cond ≤ 200001

-- the formula goes from no columns to so many, and is a formula
pub record IsFromStart (columns : ℕ) (f : Transition) : Type 0 where
  pub from : f.from ≡ 0
  pub to : f.to ≡ columns
  pub fits : IsTransition f.from f.to f.cases

-- each case has few auxiliaries
abbrev pub HasFew : ℕ → Transition → Type 0
HasFew most f = All (λ case. case.aux ≤ most) f.cases

-- it holds of each state that begins with what the entry holds of
abbrev pub HoldsBegun : ℕ → Option Transition → Transition → Type 0
HoldsBegun columns entry f =
    (begun others : List ℤ) → HoldsIf entry [] begun → length (begun ++ others) ≡ columns
    → Holds f [] (begun ++ others)

-- it holds of each state to which one formula and then another lead
abbrev pub HoldsAfter : Transition → Transition → Transition → Type 0
HoldsAfter begun stand f = (between final : List ℤ) → Holds begun [] between
    → Holds stand between final → Holds f [] final

-- it holds of what is told of each state in which the condition is false
abbrev pub HoldsFailing : List ℕ → Term → Transition → Transition → Type 0
HoldsFailing shown cond f g = (final : List ℤ) → Holds f [] final → IsFalseIn cond final
    → Holds g [] (numbers_at shown final)

-- no state that begins with what the entry holds of leads to one in which the condition is false
abbrev pub NoneFails : AssertionPlace → Term → Option Transition → Option Transition → Type 0
NoneFails place cond entry stand =
    (begun others final : List ℤ) → HoldsIf entry [] begun
    → length (begun ++ others) ≡ place.columns →
    HoldsIf stand (begun ++ others) final → IsFalseIn cond final → ⊥

-- the formula holds of no state in which the condition is false
abbrev pub NoneFailsAt : Term → Transition → Type 0
NoneFailsAt cond f = (final : List ℤ) → Holds f [] final → IsFalseIn cond final → ⊥
