-- What is proved of the summaries of a group.
use Rattle.std.specs.Prelude.{◌≡◌, ◌<◌, ◌≤◌, ◌⊎◌, ℕ, All, Bool, IsTrue, List, Option, Some, length, slice_get}
use Rattle.std.specs.List.{AllByRecursion}
use Rattle.syntax_tree.specs.declared.program.Proc.{Proc}
use Rattle.syntax_tree.specs.declared.program.Program.{Program}
use Rattle.syntax_tree.specs.Code.{Statement, Call}
use Rattle.syntax_tree.specs.WellFormed.{IsWellFormed}
use Rattle.transition_formula.specs.Transition.{Transition}
use Rattle.leaf_cases.specs.Conditions.{AreKnown}
use Rattle.leaf_cases.specs.Summaries.{AreMet, KnowsCallee}
use Rattle.proc_summary.specs.Subject.{own_graph}
use Rattle.posing.specs.Posing.{AlwaysPassing}
use Rattle.vocabularies.specs.Procs.{IsProcOf}
use Rattle.newton_rounds.specs.Claims.{AreMetMembers}
use Rattle.newton_rounds.specs.Close.{group_closure}
use Rattle.newton_rounds.specs.Members.{IsLinear}

-- a call of one of these
abbrev pub CallsMember : List ℕ → Statement → Type 0
CallsMember procs (Call proc args into) = (place : ℕ) × (slice_get procs place ≡ Some proc)
CallsMember procs _ = ⊥

-- each call of a member calls a member, or a procedure whose formula is known
abbrev pub KnowsOthers : Program → List ℕ → List (Option Transition) → Type 0
KnowsOthers program procs known =
    (place proc : ℕ) (p : Proc) → slice_get procs place ≡ Some proc
    → IsProcOf program proc p →
    AllByRecursion (λ way. CallsMember procs way.act ⊎ KnowsCallee known way.act) (own_graph p).arcs

-- Where the known formulas are met, and the flag calls no group linear that is not, each summary of
-- the group is met, whatever the answers are, as long as they are true and pass.
abbrev pub SummariesAreMet : Type 0
SummariesAreMet =
    (program : Program) (procs : List ℕ) (known : List (Option Transition)) (linear : Bool)
    → IsWellFormed program →
    All (λ proc. proc < length program.procs) procs → length procs ≤ length program.procs
    → AreKnown program known →
    AreMet program known →
    KnowsOthers program procs known → (IsTrue linear → IsLinear program procs) →
    AlwaysPassing (AreMetMembers program procs) (group_closure linear program procs known)
