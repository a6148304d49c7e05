-- Groups that nothing in their summaries tells apart: the numbers of their procedures may differ,
-- and all that may differ between alike procedures.
use Rattle.std.specs.Prelude.{◌≡◌, ◌↔◌, ℕ, Bool, List, Option, None, Some, length, map, slice_get}
use Rattle.std.specs.List.{AllZip}
use Rattle.syntax_tree.specs.declared.program.Proc.{Proc}
use Rattle.syntax_tree.specs.declared.program.Program.{Program}
use Rattle.transition_formula.specs.Transition.{Transition}
use Rattle.vocabularies.specs.Procs.{IsProcOf}
use Rattle.proc_summary.specs.Alike.{AreAlikeProcs, AreKnownAlike}
use Rattle.proc_summary.specs.Subject.{Subject, subject_of}
use Rattle.newton_rounds.specs.Close.{group_closure}
use Rattle.newton_rounds.specs.Members.{IsLinear, members_of, place_of, with_table}

-- no procedure stands at two places
abbrev pub StandOnce : List ℕ → Type 0
StandOnce procs =
    (place next proc : ℕ) → slice_get procs place ≡ Some proc → slice_get procs next ≡ Some proc
    → place ≡ next

-- Two procedures that are called by members of two groups: they stand at the same place of their
-- groups; or both stand outside, and the same formula is known of both, or none.
pub record AreAlikeCallees (procs others : List ℕ) (known other_known : List (Option Transition))
    (proc other : ℕ) : Type 0 where
  pub place : place_of proc procs ≡ place_of other others
  pub outside : place_of proc procs ≡ None → AreKnownAlike known other_known proc other

-- two procedures, by their numbers in two programs, that are alike where those that they call are
pub record AreAlikeMembers (same : ℕ → ℕ → Type 0) (program other : Program)
    (proc number : ℕ) : Type 0 where
  pub p : Proc
  pub q : Proc
  pub is : IsProcOf program proc p
  pub other_is : slice_get other.procs number ≡ Some q
  pub alike : AreAlikeProcs same program other p q

-- Two groups of two programs, and what is known of each procedure of these: each procedure of a
-- group stands there once, and those at the same places are alike.
pub record AreAlikeGroups (program other : Program) (procs others : List ℕ)
    (known other_known : List (Option Transition)) : Type 0 where
  pub once : StandOnce procs
  pub other_once : StandOnce others
  pub each : length known ≡ length program.procs
  pub other_each : length other_known ≡ length other.procs
  pub members : AllZip
      (AreAlikeMembers (AreAlikeCallees procs others known other_known) program other) procs others

-- what the flows of a group's procedures are made from, where its summaries are in a table
abbrev pub subjects_by : Program → List ℕ → List (Option Transition) → List Transition
    → List Subject
subjects_by program procs known table =
    map (λ p. subject_of program p (with_table procs table known)) (members_of program procs)

-- Both are then linear or neither is, their summaries are one computation, in which notes tell a
-- procedure by its place in the group, and by the same summaries the flows of their procedures are
-- made from the same.
abbrev pub AlikeGroupsAreOne : Type 0
AlikeGroupsAreOne =
    (program other : Program) (procs others : List ℕ) (known other_known : List (Option Transition))
    →
    AreAlikeGroups program other procs others known other_known →
    (IsLinear program procs ↔ IsLinear other others)
    × ((linear : Bool) → group_closure linear program procs known
    ≡ group_closure linear other others other_known)
    × ((table : List Transition) → subjects_by program procs known table
    ≡ subjects_by other others other_known table)
