use Rattle.std.specs.Prelude.{IsTrue, All, take}
use Rattle.farkas_check.specs.declared.question.Goal.{Goal}
use Rattle.simplex.specs.Goals.{AreBoundsTo}
use Rattle.simplex.specs.Shortness.{AreShortRows}
use Rattle.simplex.proofs.goals.searched_goals.Given as goal

abbrev pub invariant-loop-place : goal.invariant-loop-place
invariant-loop-place l = AreBoundsTo l.budget l.goals l.place l.bounds × (IsTrue l.short → All (λ (g : Goal). AreShortRows g.rows) (take l.place l.goals))
