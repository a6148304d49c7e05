-- What is kept of the groups of a program, and what is known of it.
use Rattle.std.specs.Prelude.{ℕ, List, [], ◌∷◌, ◌++◌, Option, None, Some, length}
use Rattle.std.specs.List.{AllZip}
use Rattle.farkas_check.specs.declared.answer.Answer.{Answer}
use Rattle.farkas_check.specs.declared.question.Question.{Question}
use Rattle.syntax_tree.specs.declared.program.Program.{Program}
use Rattle.syntax_tree.specs.WellFormed.{IsWellFormed}
use Rattle.transition_formula.specs.Transition.{Transition}
use Rattle.posing.specs.Follows.{IsGood}
use Rattle.posing.specs.Replay.{Keeps}
use Rattle.analysis.specs.declared.found.Found.{Found}
use Rattle.analysis.specs.declared.planning.Planned.{Planned}
use Rattle.analysis.specs.Found.{nothing_found, with_part}
use Rattle.analysis.specs.Parts.{part_with, summaries_by}
use Rattle.analysis.specs.Plan.{IsPlan}
use Rattle.kept_groups.specs.declared.kept.KeptGroups.{KeptGroups}
use Rattle.kept_groups.specs.declared.kept.KeptPart.{KeptPart}

-- ---- by what is kept

-- what is found, with what is kept of a group
abbrev pub with_kept : Found → Planned → KeptPart → Found
with_kept found planned part =
    with_part found planned.procs (part_with planned.procs part.summaries part.notes)

-- the same of all groups of a plan
abbrev pub findings_with : Found → List Planned → List KeptPart → Found
findings_with found (planned ∷ plan) (part ∷ parts) = findings_with (with_kept found planned part) plan
    parts
findings_with found _ _ = found

-- what is found of a program with so many procedures
abbrev pub findings_by_kept : ℕ → List Planned → List KeptPart → Found
findings_by_kept procs plan parts = findings_with (nothing_found procs) plan parts

-- the summary of each procedure
abbrev pub kept_summaries : KeptGroups → List (Option Transition)
kept_summaries kept = (findings_by_kept (length kept.program.procs) kept.plan kept.parts).known

-- the answers, group after group
abbrev pub answers_in : List KeptPart → List Answer
answers_in [] = []
answers_in (part ∷ parts) = part.answers ++ answers_in parts

-- ---- what is known of it

-- The answers, each good for its question, lead what is stated of a group to its summaries and
-- flows, with these notes.
abbrev pub IsPartOf : (Question → Answer → Type 0) → Program → List (Option Transition) → Planned
    → KeptPart → Type 0
IsPartOf Good program known planned part =
    Keeps Good (summaries_by planned.kind program planned.procs known) part.summaries part.notes
    part.answers

-- A part is kept for each group of the plan, by the summaries of all procedures.
pub record AreKept (allows : Question → Answer → Type 0) (kept : KeptGroups) : Type 0 where
  pub formed : IsWellFormed kept.program
  pub is_plan : IsPlan kept.program kept.plan
  pub parts : AllZip (IsPartOf (IsGood allows) kept.program (kept_summaries kept)) kept.plan kept.parts

-- a part is kept for each group of a program, where anything is kept
abbrev pub AreKeptIf : (Question → Answer → Type 0) → Option KeptGroups → Type 0
AreKeptIf allows None = Unit {0}
AreKeptIf allows (Some kept) = AreKept allows kept

-- every answer is allowed
abbrev pub Anything : Question → Answer → Type 0
Anything question answer = Unit {0}
