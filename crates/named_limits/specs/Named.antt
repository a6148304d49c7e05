-- The limits that a report names are those of the answers under which it was made, part by part.
use Rattle.std.specs.Prelude.{◌≡◌, ℕ, List, [], ◌∷◌, ◌++◌, Option, None, Some, length, map, slice_get}
use Rattle.std.specs.List.{AllByRecursion, range_with_len}
use Rattle.linear_terms.specs.declared.row.Case.{Case}
use Rattle.farkas_check.specs.declared.answer.Answer.{Answer}
use Rattle.farkas_check.specs.declared.answer.Answer.TheVariants as answer
use Rattle.farkas_check.specs.declared.answer.Limit.{Limit}
use Rattle.farkas_check.specs.declared.question.Question.TheVariants.{Infeasible}
use Rattle.syntax_tree.specs.declared.program.Program.{Program}
use Rattle.transition_formula.specs.Transition.{Transition}
use Rattle.posing.specs.declared.note.Note.{Note}
use Rattle.posing.specs.Posing.{Posing, Done}
use Rattle.proc_summary.specs.declared.stop.Flow.{Flow}
use Rattle.context.specs.Entries.{entries_from}
use Rattle.context.specs.Verdicts.{place_of, verdict_of}
use Rattle.report.specs.declared.blocks.Judged.{Judged}
use Rattle.report.specs.declared.blocks.ProcBlock.{ProcBlock}
use Rattle.report.specs.declared.blocks.Report.{Report}
use Rattle.report.specs.declared.verdict.Verdict.{Verdict}
use Rattle.report.specs.declared.verdict.Verdict.TheVariants.{Proved, UnprovedLimit}
use Rattle.analysis.specs.declared.found.Found.{Found}
use Rattle.analysis.specs.declared.parts.Part.{Part}
use Rattle.analysis.specs.declared.planning.Planned.{Planned}
use Rattle.analysis.specs.Found.{flows_in, nothing_found, with_part}
use Rattle.analysis.specs.Judging.{Asserted, numbered_assertion}
use Rattle.analysis.specs.Parts.{part_of}
use Rattle.named_limits.specs.Leading.{LeadsTo, WasAsked}
use Rattle.named_limits.specs.Limits.{AreSame, limits_given, limits_told}
use Rattle.named_limits.specs.Reported.{limits_in, limits_judged}

-- ---- groups of procedures

-- the notes of a group stand at its first procedure, and at the others there are none
abbrev pub StandAt : List (List Note) → List ℕ → List Note → Type 0
StandAt noted [] notes = ⊥
StandAt noted (first ∷ procs) notes =
    (slice_get noted first ≡ Some notes)
    × AllByRecursion (λ proc. slice_get noted proc ≡ Some []) procs

-- The share of a group: these answers lead its own computation, by what is known of the groups
-- before it, to what is found of it; their limits are those that its notes tell, and these stand in
-- the report.
pub record IsGroupNamed (program : Program) (noted : List (List Note))
    (known : List (Option Transition)) (planned : Planned) (share : List Answer)
    (part : Part) : Type 0 where
  pub leads : LeadsTo (part_of program planned known) [] share (Done part)
  pub same : AreSame (limits_given share) (limits_told part.notes)
  pub stand : StandAt noted planned.procs part.notes

-- the answers are the shares of the groups of a plan, one after another, from what is found before
-- them to what is found with them
pub data AreGroupsNamed (program : Program) (noted : List (List Note)) : Found → List Planned
    → List Answer → Found → Type 0 where
  no_group : (found : Found) → AreGroupsNamed program noted found [] [] found
  group : (found last : Found) (planned : Planned) (plan : List Planned) (part : Part)
      (share answers : List Answer) → IsGroupNamed program noted found.known planned share part
      → AreGroupsNamed program noted (with_part found planned.procs part) plan answers last
      → AreGroupsNamed program noted found (planned ∷ plan) (share ++ answers) last

-- ---- entries

-- the share of the entries
pub record AreEntriesNamed (program : Program) (flows : List Flow) (share : List Answer)
    (entries : List (Option Transition)) (notes : List Note) : Type 0 where
  pub leads : LeadsTo (entries_from program flows) notes share (Done entries)
  pub same : AreSame (limits_given share) (limits_told notes)

-- ---- assertions

-- one that stands in no graph is proved without a question
abbrev pub verdict_on : Option Asserted → Posing Verdict
verdict_on None = Done Proved
verdict_on (Some a) = verdict_of (place_of a.program a.p) a.cond a.entry a.stand

-- The share of an assertion. The limit that its verdict carries, if it carries one, was the answer
-- to the question whether the rows of its case are infeasible.
pub record IsAssertionNamed (asserted : Option Asserted) (share : List Answer)
    (judged : Judged) : Type 0 where
  pub leads : LeadsTo (verdict_on asserted) judged.notes share (Done judged.verdict)
  pub same : AreSame (limits_given share) (limits_judged judged)
  pub own : (case : Case) (limit : Limit) → judged.verdict ≡ UnprovedLimit case limit
      → WasAsked (verdict_on asserted) share (Infeasible case.rows) (answer.Limit limit)

-- the answers are the shares of the assertions with these numbers, one after another
pub data AreAssertionsNamed (program : Program) (entries : List (Option Transition))
    (flows : List Flow) : List ℕ → List Answer → List Judged → Type 0 where
  no_assertion : AreAssertionsNamed program entries flows [] [] []
  assertion : (number : ℕ) (numbers : List ℕ) (share answers : List Answer) (judged : Judged)
      (others : List Judged) → IsAssertionNamed (numbered_assertion program entries flows number) share judged
      → AreAssertionsNamed program entries flows numbers answers others
      → AreAssertionsNamed program entries flows (number ∷ numbers) (share ++ answers)
      (judged ∷ others)

-- ---- the whole

-- the notes of each block
abbrev pub notes_in : Report → List (List Note)
notes_in report = map (λ (block : ProcBlock). block.notes) report.procs

-- The limits of the report are those of the answers, each as often: none is hidden, and none is
-- made up. The answers are the shares of the groups, of the entries, and of the assertions, one
-- after another, and each part names the limits of its own share.
pub record LimitsAreNamed (program : Program) (plan : List Planned) (answers : List Answer)
    (report : Report) : Type 0 where
  pub whole : AreSame (limits_given answers) (limits_in report)
  pub of_groups : List Answer
  pub of_entries : List Answer
  pub of_assertions : List Answer
  pub split : answers ≡ of_groups ++ (of_entries ++ of_assertions)
  pub found : Found
  pub groups : AreGroupsNamed program (notes_in report) (nothing_found (length program.procs))
      plan of_groups found
  pub entries : List (Option Transition)
  pub entries_named : AreEntriesNamed program (flows_in found) of_entries entries report.notes
  pub assertions : AreAssertionsNamed program entries (flows_in found)
      (range_with_len 1 (length program.checks)) of_assertions report.judged
