-- Answers that repeat, each kept once.
use Rattle.std.specs.Prelude.{◌≡◌, ◌≢◌, ◌≤◌, ◌<◌, ◌==◌, ℕ, suc, List, [], ◌∷◌, length, map, if◌then◌else◌, ⊤}
use Rattle.std.specs.List.{AllByRecursion}
use Rattle.farkas_check.specs.declared.answer.Answer.{Answer}
use Rattle.wire.specs.Replays.{answer_at}

-- no two are equal
abbrev pub AreDifferent : List Answer → Type 0
AreDifferent [] = ⊤
AreDifferent (answer ∷ answers) = AllByRecursion (λ other. answer ≢ other) answers
    × AreDifferent answers

-- how many were used when one more place is: a place is that of an answer used before, or the next
abbrev pub count_used_with : ℕ → ℕ → ℕ
count_used_with used place = if place == used then suc used else used

-- places that use so many answers, each for the first time in its turn, where so many were used
-- before
abbrev pub IsOrderOfUse : ℕ → ℕ → List ℕ → Type 0
IsOrderOfUse used count [] = used ≡ count
IsOrderOfUse used count (place ∷ places) = (place ≤ used)
    × IsOrderOfUse (count_used_with used place) count places

-- The distinct answers of a list in the order of their first use, and for each of the list the
-- place of its answer there.
pub record IsShared (answers distinct : List Answer) (order : List ℕ) : Type 0 where
  pub answers_are : map (answer_at distinct) order ≡ answers
  pub places_are : AllByRecursion (λ place. place < length distinct) order
  pub different : AreDifferent distinct
  pub first_uses : IsOrderOfUse 0 (length distinct) order
