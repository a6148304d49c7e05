-- The flag that a group is closed with, by the kind that the plan gives it.
use Rattle.std.proofs.Common.{ℕ, List, false, true, refl}
use Rattle.std.proofs.lemmas.Bool.{false≢true}
use Rattle.syntax_tree.specs.declared.program.Program.{Program}
use Rattle.newton_rounds.specs.Claims.{TellsLinear}
use Rattle.newton_rounds.specs.Members.{IsLinear}

-- of a linear group
pub linear_told : (program : Program) (procs : List ℕ) → IsLinear program procs → TellsLinear program procs true
linear_told program procs is = (λ yes. is, λ h. refl)

-- of one that is closed in rounds
pub rounds_told : (program : Program) (procs : List ℕ) → ¬ IsLinear program procs → TellsLinear program procs false
rounds_told program procs not = (λ yes. absurd (false≢true yes), λ is. absurd (not is))
