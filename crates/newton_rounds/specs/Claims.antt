-- What the summaries of a group say of executions.
use Rattle.std.specs.Prelude.{◌≡◌, ◌↔◌, ℕ, IsTrue, Bool, List, Some, length, slice_get}
use Rattle.syntax_tree.specs.declared.program.Proc.{Proc}
use Rattle.syntax_tree.specs.declared.program.Program.{Program}
use Rattle.transition_formula.specs.Transition.{Transition}
use Rattle.vocabularies.specs.Procs.{IsProcOf}
use Rattle.leaf_cases.specs.Conditions.{IsKnown}
use Rattle.leaf_cases.specs.Summaries.{SummaryIsMet}
use Rattle.newton_rounds.specs.Members.{IsLinear}

-- one for each procedure of the group, between its entry and its exit
pub record AreKnownMembers (program : Program) (procs : List ℕ)
    (table : List Transition) : Type 0 where
  pub each : length table ≡ length procs
  pub fit : (place proc : ℕ) (p : Proc) (f : Transition) → slice_get procs place ≡ Some proc →
      IsProcOf program proc p → slice_get table place ≡ Some f → IsKnown program p f

-- each is met
abbrev pub AreMetMembers : Program → List ℕ → List Transition → Type 0
AreMetMembers program procs table =
    (place proc : ℕ) (f : Transition) → slice_get procs place ≡ Some proc
    → slice_get table place ≡ Some f →
    SummaryIsMet program proc f

-- the flag says whether the group is linear
abbrev pub TellsLinear : Program → List ℕ → Bool → Type 0
TellsLinear program procs linear = IsTrue linear ↔ IsLinear program procs
