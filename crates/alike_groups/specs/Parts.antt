-- What is found of alike groups of two programs, by their plans, is one computation.
use Rattle.std.specs.Prelude.{◌≡◌, ℕ, List, Option, Some, slice_get}
use Rattle.syntax_tree.specs.declared.program.Program.{Program}
use Rattle.transition_formula.specs.Transition.{Transition}
use Rattle.flow_graph.specs.declared.grouping.Group.{Group}
use Rattle.flow_graph.specs.Groups.{IsNext}
use Rattle.newton_rounds.specs.Alike.{AreAlikeGroups}
use Rattle.analysis.specs.declared.planning.Planned.{Planned}
use Rattle.analysis.specs.Parts.{summaries_by}
use Rattle.analysis.specs.Plan.{IsPlan, IsPlannedOf}

-- a group of the program, as its plan has it
pub record IsPlannedIn (program : Program) (planned : Planned) : Type 0 where
  pub come : List ℕ
  pub group : Group
  pub next : IsNext program come group
  pub of : IsPlannedOf program group planned

-- each group of a plan is one
abbrev pub PlansArePlanned : Type 0
PlansArePlanned =
    (program : Program) (plan : List Planned) → IsPlan program plan → (k : ℕ) (planned : Planned)
    → slice_get plan k ≡ Some planned → IsPlannedIn program planned

-- Alike groups are of one kind, and their summaries and flows, with the notes of finding these,
-- are one computation.
abbrev pub AlikePartsAreOne : Type 0
AlikePartsAreOne =
    (program other : Program) (planned kept : Planned) (known other_known : List (Option Transition))
    → IsPlannedIn program planned → IsPlannedIn other kept →
    AreAlikeGroups program other planned.procs kept.procs known other_known →
    (planned.kind ≡ kept.kind)
    × (summaries_by planned.kind program planned.procs known
    ≡ summaries_by kept.kind other kept.procs other_known)
