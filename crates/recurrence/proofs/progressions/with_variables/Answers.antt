use Rattle.std.proofs.Common.{◌≡◌, ℕ, zero, suc, ◌<◌, List, [], ◌∷◌, length, get_or, refl, arith}
use Rattle.posing.proofs.Following.{leads_none}
use Rattle.posing.proofs.Steps.{each_next, each_fails}
use Rattle.recurrence.specs.Words.{by_variable}
use Rattle.recurrence.proofs.progressions.with_variables.Goals as goal

-- the default counts for nothing where there is an element
get-default : (xs : List ℕ) (i d e : ℕ) → i < length xs → get_or xs i d ≡ get_or xs i e
get-default [] i d e h = absurd (omega arith)
get-default (x ∷ xs) zero d e h = refl
get-default (x ∷ xs) (suc i) d e h = get-default xs i d e (omega arith)

pub loop-v-init : goal.loop-v-init
loop-v-init g c = leads_none _ _ _ _

pub returns-in_err-made : goal.returns-in_err-made
returns-in_err-made g c = each_fails (by_variable c.args.turns) _ _ c.loop-v.invariant c.loop-v-test.true (get-default c.args.variables.now c.loop-v.v-index _ _ c.loop-v-test.true) c.in_err-made.ensures c.from_residual.ensures.1

pub loop-v-preserved : goal.loop-v-preserved
loop-v-preserved g c = each_next (by_variable c.args.turns) _ _ c.loop-v.invariant c.loop-v-test.true (get-default c.args.variables.now c.loop-v.v-index _ _ c.loop-v-test.true) c.in_ok-made.ensures
