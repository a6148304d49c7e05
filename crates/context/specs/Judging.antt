-- What is known of the verdicts on cases.
use Rattle.std.specs.Prelude.{◌≡◌, ℕ, ℤ, IsTrue, List, [], ◌∷◌, ◌++◌, Option, None, Some, if◌then◌else◌}
use Rattle.std.specs.List.{AllByRecursion}
use Rattle.linear_terms.specs.declared.row.Case.{Case}
use Rattle.farkas_check.specs.declared.answer.Answer.{Answer}
use Rattle.farkas_check.specs.declared.question.Question.TheVariants.{Infeasible}
use Rattle.farkas_check.specs.Meaning.{IsTrueAnswer}
use Rattle.farkas_check.specs.Tested.{Passes}
use Rattle.transition_formula.specs.Meaning.{HoldsCase, HoldsLeft}
use Rattle.transition_formula.specs.Transition.{fits}
use Rattle.report.specs.declared.verdict.Verdict.{Verdict}
use Rattle.report.specs.declared.verdict.Verdict.TheVariants.{Proved, Unproved, UnprovedLimit}
use Rattle.report.specs.Claims.{IsRefuted}
use Rattle.context.specs.Claims.{FitsVerdict}
use Rattle.context.specs.Verdicts.{is_refuted}

-- the case holds of nothing
abbrev pub IsDead : Case → Type 0
IsDead case = (before after : List ℤ) → HoldsCase case before after → ⊥

-- a verdict on a case: where it is proved, the case holds of nothing
pub record IsVerdictOn (case : Case) (verdict : Verdict) : Type 0 where
  pub dead : verdict ≡ Proved → IsDead case
  pub refuted : IsRefuted verdict
  pub fits : (shown : ℕ) → IsTrue (fits 0 shown case) → FitsVerdict shown verdict

-- one for each case
abbrev pub AreVerdictsOn : List Case → List Verdict → Type 0
AreVerdictsOn [] [] = Unit {0}
AreVerdictsOn (case ∷ cases) (verdict ∷ verdicts) = IsVerdictOn case verdict
    × AreVerdictsOn cases verdicts
AreVerdictsOn [] (verdict ∷ verdicts) = ⊥
AreVerdictsOn (case ∷ cases) [] = ⊥

-- the verdict on a case is put behind those that are made
pub record AddsVerdict (case : Case) (made all : List Verdict) : Type 0 where
  pub verdict : Verdict
  pub is : all ≡ made ++ verdict ∷ []
  pub known : IsVerdictOn case verdict

-- a verdict on all of several cases
pub record IsVerdictOnAll (cases : List Case) (verdict : Verdict) : Type 0 where
  pub dead : verdict ≡ Proved → AllByRecursion IsDead cases
  pub refuted : IsRefuted verdict
  pub fits : (shown : ℕ) → AllByRecursion (λ case. IsTrue (fits 0 shown case)) cases
      → FitsVerdict shown verdict

-- what is left of a case in order, if anything is, goes from so many columns to so many
abbrev pub FitsLeft : ℕ → ℕ → Option Case → Type 0
FitsLeft from to None = Unit {0}
FitsLeft from to (Some case) = IsTrue (fits from to case)

-- what is left holds of all that the case holds of, and fits where the case fits
pub record IsLeftOf (case : Case) (left : Option Case) : Type 0 where
  pub holds : (before after : List ℤ) → HoldsCase case before after → HoldsLeft left before after
  pub fits : (from to : ℕ) → IsTrue (fits from to case) → FitsLeft from to left

-- the answer is good for the question whether the rows of the case are infeasible
pub record IsAnswered (case : Case) (answer : Answer) : Type 0 where
  pub passes : Passes (Infeasible case.rows) answer
  pub is_true : IsTrueAnswer (Infeasible case.rows) answer

-- of two verdicts the one that counts, the first if both count the same
abbrev pub stronger : Verdict → Verdict → Verdict
stronger Proved second = second
stronger (Unproved case point) second = Unproved case point
stronger (UnprovedLimit case limit) second = if is_refuted second then second
    else UnprovedLimit case limit
