-- Executions join, and a failed assertion ends one.
use Rattle.std.proofs.Common.{◌≡◌, [], ◌∷◌, sym, subst, ◌∙◌, ℤ, Some}
use Rattle.syntax_tree.specs.Term.{Term}
use Rattle.syntax_tree.specs.Value.{State}
use Rattle.execution.specs.Machine.{state_of}
use Rattle.execution.specs.Step.{IsFalseIn, IsTrueIn, StepsBy}
use Rattle.execution.specs.Execution.{Runs}
use Rattle.execution.specs.Laws.{RunsJoin, FailedCheckStops}

pub runs_join : RunsJoin
runs_join program a b c [] second one other = subst (λ x. Runs program x second c) (sym one) other
runs_join program a b c (next ∷ first) second one other = (one.0, runs_join program next b c first second one.1 other)

not_both : (cond : Term) (state : State) → IsTrueIn cond state → IsFalseIn cond state → ⊥
not_both cond state (v, is, nonzero) zero = nonzero (some_same (sym is ∙ zero))
  where
    some_same : {v w : ℤ} → Some v ≡ Some w → v ≡ w
    some_same e = cc

pub failed_check_stops : FailedCheckStops
failed_check_stops program top number cond rest next items fails step =
    let simple = subst (λ pending. StepsBy program top pending next) items step in
    not_both cond (state_of top) simple.changes.0 fails
