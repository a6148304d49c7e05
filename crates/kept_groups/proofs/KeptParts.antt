-- What is kept of a group says the same of it, whichever way it came.
--     kept-same        a part of an alike group is one of this group
--     come-part        one that was taken over, or made
--     part-weaker, come-weaker, kept-weaker      with less known of the answers
--     part-path        it leads what is stated of the group to its summaries, flows and notes
--     part-fine        these fit the group, and are met where the known formulas are
use Rattle.std.proofs.Common.{◌≡◌, ℕ, Bool, true, false, List, [], ◌∷◌, Option, None, Some, sym, subst}
use Rattle.std.specs.Prelude.{slice_get}
use Rattle.std.specs.List.{AllZip}
use Rattle.farkas_check.specs.declared.answer.Answer.{Answer}
use Rattle.farkas_check.specs.declared.question.Question.{Question}
use Rattle.syntax_tree.specs.declared.program.Program.{Program}
use Rattle.syntax_tree.specs.WellFormed.{IsWellFormed}
use Rattle.transition_formula.specs.Transition.{Transition}
use Rattle.posing.specs.Follows.{IsGood}
use Rattle.posing.specs.Posing.{Done, ◌>>=◌, IsPassing, Path}
use Rattle.posing.proofs.ComposedCalls.{kept_same}
use Rattle.posing.proofs.Paths.{path_into, path_map}
use Rattle.posing.proofs.UnderAnswers.{under-path}
use Rattle.leaf_cases.specs.Conditions.{AreKnown}
use Rattle.newton_rounds.specs.Alike.{AreAlikeGroups}
use Rattle.newton_rounds.proofs.PairLists.{some-one, zipped-at}
use Rattle.analysis.specs.declared.planning.Planned.{Planned}
use Rattle.analysis.specs.Apart.{apart, apart_from}
use Rattle.analysis.specs.Claims.{IsReadyGroup}
use Rattle.analysis.specs.Parts.{part_of, part_with, summaries_by}
use Rattle.analysis.proofs.NotesApart.{path_apart}
use Rattle.analysis_laws.specs.Laws.{IsFinePart}
use Rattle.analysis_laws.proofs.GroupParts.{parts_are_met}
use Rattle.alike_groups.specs.Parts.{IsPlannedIn}
use Rattle.alike_groups.proofs.Parts.{alike_parts_are_one, plans_are_planned}
use Rattle.kept_groups.specs.declared.kept.KeptGroups.{KeptGroups}
use Rattle.kept_groups.specs.declared.kept.KeptPart.{KeptPart}
use Rattle.kept_groups.specs.Coming.{IsCome}
use Rattle.kept_groups.specs.Kept.{AreKept, AreKeptIf, IsPartOf, kept_summaries}

-- elements at the same place belong together
both-at : {A C : Type 0} (R : A → C → Type 0) (xs : List A) (ys : List C) (k : ℕ) (x : A) (y : C) → AllZip R xs ys → slice_get xs k ≡ Some x → slice_get ys k ≡ Some y → R x y
both-at R xs ys k x y h at other_at =
    let found = zipped-at R xs ys h k x at in
    subst (R x) (some-one found.1 other_at) found.2

-- ---- less is known of the answers

module _ (allows other : Question → Answer → Type 0) (weaker : (question : Question) (answer : Answer) → allows question answer → other question answer) where
  pub good-weaker : (question : Question) (answer : Answer) → IsGood allows question answer → IsGood other question answer
  good-weaker question answer good = record { passes = good.passes; is_true = good.is_true; allowed = weaker question answer good.allowed }

  pub part-weaker : (program : Program) (known : List (Option Transition)) (planned : Planned) (part : KeptPart) → IsPartOf (IsGood allows) program known planned part → IsPartOf (IsGood other) program known planned part
  part-weaker program known planned part h = record {
    path = path_map (IsGood allows) (IsGood other) (summaries_by planned.kind program planned.procs known) (Done part.summaries) part.notes part.answers good-weaker h.path;
  }

  parts-weaker : (program : Program) (known : List (Option Transition)) (plan : List Planned) (parts : List KeptPart)
      → AllZip (IsPartOf (IsGood allows) program known) plan parts → AllZip (IsPartOf (IsGood other) program known) plan parts
  parts-weaker program known [] [] h = tt
  parts-weaker program known [] (part ∷ parts) h = absurd h
  parts-weaker program known (planned ∷ plan) [] h = absurd h
  parts-weaker program known (planned ∷ plan) (part ∷ parts) h = (part-weaker program known planned part h.0, parts-weaker program known plan parts h.1)

  pub kept-weaker : (kept : Option KeptGroups) → AreKeptIf allows kept → AreKeptIf other kept
  kept-weaker None h = tt
  kept-weaker (Some kept) h = record { formed = h.formed; is_plan = h.is_plan; parts = parts-weaker kept.program (kept_summaries kept) kept.plan kept.parts h.parts }

  pub come-weaker : (kept : Option KeptGroups) (program : Program) (known : List (Option Transition)) (planned : Planned) (part : KeptPart) (taken : Bool)
      → IsCome allows kept program known planned part taken → IsCome other kept program known planned part taken
  come-weaker kept program known planned part true h = h
  come-weaker kept program known planned part false h = (h.0, part-weaker program known planned part h.1)

-- ---- a part of the group

module _ (allows : Question → Answer → Type 0) (program : Program) (known : List (Option Transition)) (planned : Planned) (part : KeptPart) where
  pub kept-same : (kept : KeptGroups) (place : ℕ) (other : Planned) → AreKept allows kept → slice_get kept.plan place ≡ Some other → slice_get kept.parts place ≡ Some part → IsPlannedIn program planned
      → AreAlikeGroups program kept.program planned.procs other.procs known (kept_summaries kept) → IsPartOf (IsGood allows) program known planned part
  kept-same kept place other are at part_at here alike =
      let there = plans_are_planned kept.program kept.plan are.is_plan place other at in
      let one = alike_parts_are_one program kept.program planned other known (kept_summaries kept) here there alike in
      kept_same (IsGood allows) (summaries_by other.kind kept.program other.procs (kept_summaries kept)) (summaries_by planned.kind program planned.procs known) part.summaries part.notes part.answers
      (sym one.1) (both-at (IsPartOf (IsGood allows) kept.program (kept_summaries kept)) kept.plan kept.parts place other part are.parts at part_at)

  pub come-part : (kept : Option KeptGroups) (taken : Bool) → AreKeptIf allows kept → IsPlannedIn program planned → IsCome allows kept program known planned part taken
      → IsPartOf (IsGood allows) program known planned part
  come-part None true are here come = absurd come
  come-part None false are here come = come.1
  come-part (Some kept) true are here come = kept-same kept come.place come.alike.other are come.alike.is come.is here come.alike.alike
  come-part (Some kept) false are here come = come.1

-- ---- what it leads to

pub part-path : (Good : Question → Answer → Type 0) (program : Program) (known : List (Option Transition)) (planned : Planned) (part : KeptPart)
    → IsPartOf Good program known planned part → Path Good (part_of program planned known) [] part.answers (Done (part_with planned.procs part.summaries part.notes))
unfolding part_of apart_from ◌>>=◌
part-path Good program known planned part h =
    let p = summaries_by planned.kind program planned.procs known in
    path_into Good (apart p) (Done (part.summaries, part.notes)) [] part.answers (λ made. Done (part_with planned.procs made.0 made.1))
    (path_apart Good p (Done part.summaries) [] part.notes part.answers h.path)

pub good-passing : {allows : Question → Answer → Type 0} (question : Question) (answer : Answer) → IsGood allows question answer → IsPassing question answer
good-passing question answer good = record { is_true = good.is_true; passes = good.passes }

pub part-fine : (allows : Question → Answer → Type 0) (program : Program) (known : List (Option Transition)) (planned : Planned) (part : KeptPart) → IsWellFormed program → AreKnown program known
    → IsReadyGroup program planned known → IsPartOf (IsGood allows) program known planned part → IsFinePart program planned known (part_with planned.procs part.summaries part.notes)
part-fine allows program known planned part formed are ready h =
    let made = part_with planned.procs part.summaries part.notes in
    under-path (IsGood allows) IsPassing good-passing (IsFinePart program planned known) (part_of program planned known) (Done made) [] part.answers
    (part-path (IsGood allows) program known planned part h) (parts_are_met program planned known formed are ready)
