-- A narrow question of rows or goals is calm and not dead.
use Rattle.std.proofs.Common.{◌≡◌, refl}
use Rattle.farkas_check.specs.declared.answer.Answer.{Answer}
use Rattle.farkas_check.specs.declared.question.Question.{Question}
use Rattle.farkas_check.specs.declared.question.Question.TheVariants.{Infeasible, Sup, Stratum}
use Rattle.farkas_check.specs.Calm.{IsLiveAndCalm}
use Rattle.farkas_check.specs.Meaning.{IsLimit}
use Rattle.farkas_check.specs.Relations.{Changes}
use Rattle.farkas_check.specs.Sizes.{IsNarrow}
use Rattle.elimination.proofs.Narrowness.{narrow_rows, narrow_goals}
use Rattle.finder.specs.Found.{IsFound, IsFoundBySimplex}

-- what simplex answers to a question that asks no relations
pub found_elsewhere : (question : Question) (a : Answer) → ((asked : Changes) → question ≡ Stratum asked → ⊥) → IsFoundBySimplex question a → IsFound question a
found_elsewhere question a others f = record { passes = f.passes; tight = f.tight; live = f.live; narrow = narrow question others f.live; calm = f.calm; pivots = f.pivots }
  where
    narrow : (q : Question) → ((asked : Changes) → q ≡ Stratum asked → ⊥) → (IsLiveAndCalm q → IsLimit a → ⊥) → IsNarrow q → IsLimit a → ⊥
    narrow (Infeasible rows) g live n = live (narrow_rows rows n)
    narrow (Sup goals) g live n = live (narrow_goals goals n)
    narrow (Stratum asked) g live n = absurd (g asked refl)
