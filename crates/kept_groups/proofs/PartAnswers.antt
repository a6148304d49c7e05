-- The parts of all groups, each taken over or made by what is found before it.
--     come-parts       each is one of its group
--     all_come-weaker  with less known of the answers
--     parts-lead       their answers lead what is stated of the program to what is found by them
--     parts-whole      that is whole
--     parts-kept       they are what may be kept of the program
--     none-kept        where nothing was kept, all answers are asked for
--     all-taken        where each part is taken over, none is
--     come-all-alike   so it is where each group is alike to one that was kept
--     declined-leads   the answers before a question that is declined lead there
--     declined-next    and how the computation goes on
use Rattle.std.proofs.Common.{◌≡◌, ℕ, zero, suc, Bool, true, false, List, [], ◌∷◌, ◌++◌, length, Option, None, Some, refl, sym, ap, subst, ◌∙◌, append_assoc}
use Rattle.std.specs.Prelude.{slice_get, slice_set}
use Rattle.std.specs.List.{AllByRecursion, AllZip, Contains}
use Rattle.std.proofs.lemmas.Bool.{false≢true}
use Rattle.std.proofs.lemmas.List.{length-replicate}
use Rattle.std.proofs.lemmas.List.Elements.{Contains-append_left}
use Rattle.items.proofs.Each.{each-front}
use Rattle.farkas_check.specs.declared.answer.Answer.{Answer}
use Rattle.farkas_check.specs.declared.question.Question.{Question}
use Rattle.farkas_check.specs.Asking.{Asking}
use Rattle.syntax_tree.specs.declared.program.Program.{Program}
use Rattle.syntax_tree.specs.WellFormed.{IsWellFormed}
use Rattle.transition_formula.specs.Transition.{Transition}
use Rattle.flow_graph.specs.declared.grouping.Group.{Group}
use Rattle.flow_graph.specs.Groups.{AreGroupsAfter}
use Rattle.posing.specs.declared.note.Note.{Note}
use Rattle.posing.specs.Follows.{IsGood}
use Rattle.posing.specs.Posing.{Posing, Done, Asked, ◌>>=◌, each, IsPassing, Path}
use Rattle.posing.specs.Replay.{Keeps}
use Rattle.posing.proofs.ComposedCalls.{KeptSteps, all_made, one_made, kept_each, kept_same}
use Rattle.posing.proofs.Paths.{path_bind, path_into, path_map}
use Rattle.posing.proofs.UnderAnswers.{under-path}
use Rattle.newton_rounds.proofs.MemberTables.{table-leaves}
use Rattle.analysis.specs.declared.found.Found.{Found}
use Rattle.analysis.specs.declared.parts.GroupSummaries.{GroupSummaries}
use Rattle.analysis.specs.declared.planning.Planned.{Planned}
use Rattle.analysis.specs.Apart.{apart, apart_from}
use Rattle.analysis.specs.Found.{findings_by_plan, nothing_found, put_at, with_group, with_part}
use Rattle.analysis.specs.Parts.{part_of, part_with, summaries_by}
use Rattle.analysis.specs.Plan.{ArePlannedOf, IsPlan}
use Rattle.analysis.proofs.NotesApart.{path_apart}
use Rattle.analysis.proofs.Puts.{each-here, put-long}
use Rattle.analysis_laws.specs.Laws.{IsWhole}
use Rattle.analysis_laws.proofs.AnalysisCover.{found-whole}
use Rattle.alike_groups.specs.Parts.{IsPlannedIn}
use Rattle.alike_groups.proofs.CalledAlike.{contains-at}
use Rattle.alike_groups.proofs.Parts.{alike_parts_are_one, plans_are_planned}
use Rattle.named_limits.proofs.NewGroups.{AreNew, plan-new}
use Rattle.kept_groups.specs.declared.kept.KeptGroups.{KeptGroups}
use Rattle.kept_groups.specs.declared.kept.KeptPart.{KeptPart}
use Rattle.kept_groups.specs.Coming.{AreCome, IsAlikeAt, IsCome, answers_asked, count_made}
use Rattle.kept_groups.specs.Kept.{AreKept, AreKeptIf, IsPartOf, answers_in, findings_by_kept, findings_with, with_kept}
use Rattle.kept_groups.specs.Outcomes.{IsDeclinedOver}
use Rattle.kept_groups.proofs.Itself.{KnowSame, group-itself, know-same}
use Rattle.kept_groups.proofs.KeptParts.{come-part, come-weaker, good-passing, good-weaker, part-path}

-- ---- a part for each group, by what is found before it

abbrev pub AreParts : (Question → Answer → Type 0) → Program → Found → List Planned → List KeptPart → Type 0
AreParts Good program found [] [] = Unit {0}
AreParts Good program found [] (part ∷ parts) = ⊥
AreParts Good program found (planned ∷ plan) [] = ⊥
AreParts Good program found (planned ∷ plan) (part ∷ parts) = IsPartOf Good program found.known planned part × AreParts Good program (with_kept found planned part) plan parts

plan-planned : (program : Program) (plan : List Planned) → IsPlan program plan → AllByRecursion (IsPlannedIn program) plan
plan-planned program plan is = each-here (IsPlannedIn program) plan (plans_are_planned program plan is)

module _ (allows : Question → Answer → Type 0) (kept : Option KeptGroups) (program : Program) where
  pub come-parts : AreKeptIf allows kept → (found : Found) (plan : List Planned) (parts : List KeptPart) (marks : List Bool) → AllByRecursion (IsPlannedIn program) plan
      → AreCome allows kept program found plan parts marks → AreParts (IsGood allows) program found plan parts
  come-parts are found [] [] [] there come = tt
  come-parts are found [] [] (taken ∷ marks) there come = absurd come
  come-parts are found [] (part ∷ parts) marks there come = absurd come
  come-parts are found (planned ∷ plan) [] marks there come = absurd come
  come-parts are found (planned ∷ plan) (part ∷ parts) [] there come = absurd come
  come-parts are found (planned ∷ plan) (part ∷ parts) (taken ∷ marks) there come = (
    come-part allows program found.known planned part kept taken are there.0 come.0,
    come-parts are (with_kept found planned part) plan parts marks there.1 come.1,
  )

-- less is known of the answers
pub all_come-weaker : (allows other : Question → Answer → Type 0) → ((question : Question) (answer : Answer) → allows question answer → other question answer) → (kept : Option KeptGroups) (program : Program)
    → (found : Found) (plan : List Planned) (parts : List KeptPart) (marks : List Bool) → AreCome allows kept program found plan parts marks → AreCome other kept program found plan parts marks
all_come-weaker allows other weaker kept program found [] [] [] come = tt
all_come-weaker allows other weaker kept program found [] [] (taken ∷ marks) come = absurd come
all_come-weaker allows other weaker kept program found [] (part ∷ parts) marks come = absurd come
all_come-weaker allows other weaker kept program found (planned ∷ plan) [] marks come = absurd come
all_come-weaker allows other weaker kept program found (planned ∷ plan) (part ∷ parts) [] come = absurd come
all_come-weaker allows other weaker kept program found (planned ∷ plan) (part ∷ parts) (taken ∷ marks) come = (
  come-weaker allows other weaker kept program found.known planned part taken come.0,
  all_come-weaker allows other weaker kept program (with_kept found planned part) plan parts marks come.1,
)

-- ---- what is found by them

module _ (Good : Question → Answer → Type 0) (program : Program) where
  group-kept : (found : Found) (planned : Planned) (part : KeptPart) → IsPartOf Good program found.known planned part → Keeps Good (with_group program found planned) (with_kept found planned part) [] part.answers
  unfolding with_group ◌>>=◌
  group-kept found planned part h = record {
    path = path_into Good (part_of program planned found.known) (Done (part_with planned.procs part.summaries part.notes)) [] part.answers (λ made. Done (with_part found planned.procs made))
        (part-path Good program found.known planned part h);
  }

  parts-steps : (found : Found) (plan : List Planned) (parts : List KeptPart) → AreParts Good program found plan parts → KeptSteps Good (with_group program) found plan (findings_with found plan parts) [] (answers_in parts)
  parts-steps found [] [] are = all_made found
  parts-steps found [] (part ∷ parts) are = absurd are
  parts-steps found (planned ∷ plan) [] are = absurd are
  parts-steps found (planned ∷ plan) (part ∷ parts) are =
      one_made found (with_kept found planned part) (findings_with (with_kept found planned part) plan parts) planned plan [] [] part.answers (answers_in parts) (group-kept found planned part are.0)
      (parts-steps (with_kept found planned part) plan parts are.1)

  -- and where some groups are left
  parts-then : (found : Found) (done rest : List Planned) (parts : List KeptPart) (answers : List Answer) (q : Posing Found) → AreParts Good program found done parts
      → Path Good (each (with_group program) (findings_with found done parts) rest) [] answers q → Path Good (each (with_group program) found (done ++ rest)) [] (answers_in parts ++ answers) q
  parts-then found [] rest [] answers q are path = path
  parts-then found [] rest (part ∷ parts) answers q are path = absurd are
  parts-then found (planned ∷ done) rest [] answers q are path = absurd are
  parts-then found (planned ∷ done) rest (part ∷ parts) answers q are path =
      let next = with_kept found planned part in
      subst (λ all. Path Good (each (with_group program) found (planned ∷ (done ++ rest))) [] all q) (sym (append_assoc part.answers (answers_in parts) answers))
      (path_bind Good (with_group program found planned) next (λ more. each (with_group program) more (done ++ rest)) q [] [] part.answers (answers_in parts ++ answers) (group-kept found planned part are.0).path
      (parts-then next done rest parts answers q are.1 path))

-- ---- what is found stays

none-else : (q c : ℕ) → (Some q ≡ Some c → ⊥) → (place : ℕ) → slice_get (q ∷ []) place ≡ Some c → ⊥
none-else q c other zero at = other at
none-else q c other (suc place) at = cc

put-leaves : (procs : List ℕ) (table : List Transition) (known : List (Option Transition)) (c : ℕ) → ((place : ℕ) → slice_get procs place ≡ Some c → ⊥) → slice_get (put_at procs table known) c ≡ slice_get known c
put-leaves [] table known c none = refl
put-leaves (q ∷ procs) [] known c none = refl
put-leaves (q ∷ procs) (f ∷ table) known c none =
    put-leaves procs table (slice_set known q (Some f)) c (λ place. none (suc place)) ∙ table-leaves (q ∷ []) (f ∷ []) known c (none-else q c (none 0))

found-long : (found : Found) (plan : List Planned) (parts : List KeptPart) → length (findings_with found plan parts).known ≡ length found.known
found-long found [] parts = refl
found-long found (planned ∷ plan) [] = refl
found-long found (planned ∷ plan) (part ∷ parts) = found-long (with_kept found planned part) plan parts ∙ put-long planned.procs part.summaries.formulas found.known

module _ (program : Program) where
  found-stays : (come : List ℕ) (found : Found) (plan : List Planned) (parts : List KeptPart) → AreNew program come plan → (c : ℕ) → Contains come c → slice_get (findings_with found plan parts).known c ≡ slice_get found.known c
  found-stays come found [] parts new c came = refl
  found-stays come found (planned ∷ plan) [] new c came = refl
  found-stays come found (planned ∷ plan) (part ∷ parts) new c came =
      found-stays (come ++ planned.procs) (with_kept found planned part) plan parts new.1 c (Contains-append_left come planned.procs c came)
      ∙ put-leaves planned.procs part.summaries.formulas found.known c (λ place at. new.0.new c (contains-at planned.procs place c at) came)

  -- so each part is one of its group by what is found in the end
  module _ (allows : Question → Answer → Type 0) where
    parts-stay : (come : List ℕ) (found : Found) (groups : List Group) (plan : List Planned) (parts : List KeptPart) → AreGroupsAfter program come groups → ArePlannedOf program groups plan → AreNew program come plan
        → length found.known ≡ length program.procs → AreParts (IsGood allows) program found plan parts → AllZip (IsPartOf (IsGood allows) program (findings_with found plan parts).known) plan parts
    parts-stay come found [] [] [] after of new long are = tt
    parts-stay come found [] [] (part ∷ parts) after of new long are = absurd are
    parts-stay come found [] (planned ∷ plan) parts after of new long are = absurd of
    parts-stay come found (group ∷ groups) [] parts after of new long are = absurd of
    parts-stay come found (group ∷ groups) (planned ∷ plan) [] after of new long are = absurd are
    parts-stay come found (group ∷ groups) (planned ∷ plan) (part ∷ parts) after of new long are =
        let next = with_kept found planned part in
        let all = (findings_with next plan parts).known in
        let all_long = found-long found (planned ∷ plan) (part ∷ parts) ∙ long in
        let here : IsPlannedIn program planned = record { come = come; group = group; next = after.0; of = of.0 } in
        let knows = subst (λ procs. KnowSame program procs found.known all) (sym of.0.procs)
        (know-same program come group after.0 found.known all long all_long (λ c came. sym (found-stays come found (planned ∷ plan) (part ∷ parts) new c came))) in
        let alike = group-itself program planned.procs found.known all knows new.0.ascends new.0.within long all_long in
        let one = alike_parts_are_one program program planned planned found.known all here here alike in (
          kept_same (IsGood allows) (summaries_by planned.kind program planned.procs found.known) (summaries_by planned.kind program planned.procs all) part.summaries part.notes part.answers one.1 are.0,
          parts-stay (come ++ planned.procs) next groups plan parts (subst (λ procs. AreGroupsAfter program (come ++ procs) groups) (sym of.0.procs) after.1) of.1 new.1
              (put-long planned.procs part.summaries.formulas found.known ∙ long) are.1,
        )

-- ---- the program

module _ (allows : Question → Answer → Type 0) (kept : Option KeptGroups) (program : Program) (plan : List Planned) (parts : List KeptPart) (marks : List Bool) (formed : IsWellFormed program) (is : IsPlan program plan)
    (are : AreKeptIf allows kept) (come : AreCome allows kept program (findings_by_kept (length program.procs) [] []) plan parts marks) where
  abbrev nothing : Found
  nothing = nothing_found (length program.procs)

  made-all : AreParts (IsGood allows) program nothing plan parts
  made-all = come-parts allows kept program are nothing plan parts marks (plan-planned program plan is) come

  pub parts-lead : Path (IsGood allows) (findings_by_plan program plan) [] (answers_in parts) (Done (findings_by_kept (length program.procs) plan parts))
  unfolding findings_by_plan
  parts-lead = (kept_each (IsGood allows) (with_group program) nothing (findings_with nothing plan parts) plan [] (answers_in parts) (parts-steps (IsGood allows) program nothing plan parts made-all)).path

  pub parts-whole : IsWhole program (findings_by_kept (length program.procs) plan parts)
  parts-whole =
      under-path (IsGood allows) IsPassing good-passing (IsWhole program) (findings_by_plan program plan) (Done (findings_by_kept (length program.procs) plan parts)) [] (answers_in parts)
      parts-lead (found-whole program plan formed is)

  pub parts-kept : AreKept allows (record { program = program; plan = plan; parts = parts })
  parts-kept = record {
    formed = formed;
    is_plan = is;
    parts = parts-stay program allows [] nothing is.groups plan parts is.are is.planned (plan-new program plan is) (length-replicate (length program.procs) None) made-all;
  }

-- ---- a question that is declined

-- what is left of the plan, where a question of the next group is answered
unfoldable next_group : Program → Found → Planned → List Planned → List Note → (Answer → Posing GroupSummaries) → Answer → Posing Found
next_group program found planned left notes next answer =
    apart_from notes (next answer) >>= (λ made. Done (part_with planned.procs made.0 made.1)) >>= (λ part. Done (with_part found planned.procs part))
    >>= (λ more. each (with_group program) more left)

group-asks : (Good : Question → Answer → Type 0) (program : Program) (found : Found) (planned : Planned) (left : List Planned) (notes : List Note) (answers : List Answer) (question : Question)
    (next : Answer → Posing GroupSummaries) → Path Good (summaries_by planned.kind program planned.procs found.known) notes answers (Asked question next)
    → Path Good (each (with_group program) found (planned ∷ left)) [] answers (Asked question (next_group program found planned left notes next))
unfolding with_group part_of apart_from ◌>>=◌ next_group
group-asks Good program found planned left notes answers question next path =
    let p = summaries_by planned.kind program planned.procs found.known in
    let own = λ (a : Answer). apart_from notes (next a) in
    let part = λ (a : Answer). own a >>= λ made. Done (part_with planned.procs made.0 made.1) in
    let group = λ (a : Answer). part a >>= λ made. Done (with_part found planned.procs made) in
    path_into Good (with_group program found planned) (Asked question group) [] answers (λ more. each (with_group program) more left)
    (path_into Good (part_of program planned found.known) (Asked question part) [] answers (λ made. Done (with_part found planned.procs made))
    (path_into Good (apart p) (Asked question own) [] answers (λ made. Done (part_with planned.procs made.0 made.1))
    (path_apart Good p (Asked question next) [] notes answers path)))

module _ {S : Type 0} (O : Asking S) (kept : Option KeptGroups) (program : Program) (plan : List Planned) (old new : S) (over : IsDeclinedOver O kept program plan old new) where
  abbrev found_then : Found
  found_then = findings_by_kept (length program.procs) over.done over.parts

  pub declined-next : Answer → Posing Found
  declined-next answer = next_group program found_then over.planned over.left over.notes over.next answer

  pub declined-leads : IsWellFormed program → IsPlan program plan → (allows : Question → Answer → Type 0) → ((question : Question) (answer : Answer) → O.allows question answer → allows question answer) → AreKeptIf allows kept
      → Path (IsGood allows) (findings_by_plan program plan) [] (answers_in over.parts ++ over.answers) (Asked over.question declined-next)
  unfolding findings_by_plan declined-next
  declined-leads formed is allows weaker are =
      let start = nothing_found (length program.procs) in
      let groups = over.planned ∷ over.left in
      let there = each-front (IsPlannedIn program) over.done groups (subst (AllByRecursion (IsPlannedIn program)) over.is (plan-planned program plan is)) in
      let made = come-parts allows kept program are start over.done over.parts over.marks there (all_come-weaker O.allows allows weaker kept program start over.done over.parts over.marks over.come) in
      let own = path_map (IsGood O.allows) (IsGood allows) (summaries_by over.planned.kind program over.planned.procs found_then.known) (Asked over.question over.next) over.notes over.answers
      (good-weaker O.allows allows weaker) over.leads in
      subst (λ all. Path (IsGood allows) (each (with_group program) start all) [] (answers_in over.parts ++ over.answers) (Asked over.question declined-next)) (sym over.is)
      (parts-then (IsGood allows) program start over.done groups over.parts over.answers (Asked over.question declined-next) made
      (group-asks (IsGood allows) program found_then over.planned over.left over.notes over.answers over.question over.next own))

-- ---- what is asked for

pub none-kept : (allows : Question → Answer → Type 0) (program : Program) (found : Found) (plan : List Planned) (parts : List KeptPart) (marks : List Bool) → AreCome allows None program found plan parts marks
    → (answers_asked marks parts ≡ answers_in parts) × (count_made marks ≡ length plan)
none-kept allows program found [] [] [] come = (refl, refl)
none-kept allows program found [] [] (taken ∷ marks) come = absurd come
none-kept allows program found [] (part ∷ parts) marks come = absurd come
none-kept allows program found (planned ∷ plan) [] marks come = absurd come
none-kept allows program found (planned ∷ plan) (part ∷ parts) [] come = absurd come
none-kept allows program found (planned ∷ plan) (part ∷ parts) (true ∷ marks) come = absurd come.0
none-kept allows program found (planned ∷ plan) (part ∷ parts) (false ∷ marks) come =
    let rest = none-kept allows program (with_kept found planned part) plan parts marks come.1 in
    (ap (λ answers. part.answers ++ answers) rest.0, ap suc rest.1)

pub all-taken : (marks : List Bool) (parts : List KeptPart) → AllByRecursion (λ taken. taken ≡ true) marks → (answers_asked marks parts ≡ []) × (count_made marks ≡ 0)
all-taken [] parts taken = (refl, refl)
all-taken (true ∷ marks) [] taken = (refl, (all-taken marks [] taken.1).1)
all-taken (true ∷ marks) (part ∷ parts) taken = all-taken marks parts taken.1
all-taken (false ∷ marks) parts taken = absurd (false≢true taken.0)

alike-taken : (allows : Question → Answer → Type 0) (kept : KeptGroups) (program : Program) (known : List (Option Transition)) (planned : Planned) (part : KeptPart) (taken : Bool) (place : ℕ)
    → IsAlikeAt program known planned kept place → IsCome allows (Some kept) program known planned part taken → taken ≡ true
alike-taken allows kept program known planned part true place alike come = refl
alike-taken allows kept program known planned part false place alike come = absurd (come.0 place alike)

-- each group is alike to one that was kept, by what is found before it
abbrev pub AreAllAlike : KeptGroups → Program → Found → List Planned → List KeptPart → Type 0
AreAllAlike kept program found (planned ∷ plan) (part ∷ parts) =
    ((place : ℕ) × IsAlikeAt program found.known planned kept place) × AreAllAlike kept program (with_kept found planned part) plan parts
AreAllAlike kept program found _ _ = Unit {0}

alike-marks : (allows : Question → Answer → Type 0) (kept : KeptGroups) (program : Program) (found : Found) (plan : List Planned) (parts : List KeptPart) (marks : List Bool)
    → AreCome allows (Some kept) program found plan parts marks → AreAllAlike kept program found plan parts → AllByRecursion (λ taken. taken ≡ true) marks
alike-marks allows kept program found [] [] [] come alike = tt
alike-marks allows kept program found [] [] (taken ∷ marks) come alike = absurd come
alike-marks allows kept program found [] (part ∷ parts) marks come alike = absurd come
alike-marks allows kept program found (planned ∷ plan) [] marks come alike = absurd come
alike-marks allows kept program found (planned ∷ plan) (part ∷ parts) [] come alike = absurd come
alike-marks allows kept program found (planned ∷ plan) (part ∷ parts) (taken ∷ marks) come alike = (
  alike-taken allows kept program found.known planned part taken alike.0.0 alike.0.1 come.0,
  alike-marks allows kept program (with_kept found planned part) plan parts marks come.1 alike.1,
)

pub come-all-alike : (allows : Question → Answer → Type 0) (kept : KeptGroups) (program : Program) (found : Found) (plan : List Planned) (parts : List KeptPart) (marks : List Bool)
    → AreCome allows (Some kept) program found plan parts marks → AreAllAlike kept program found plan parts → (answers_asked marks parts ≡ []) × (count_made marks ≡ 0)
come-all-alike allows kept program found plan parts marks come alike = all-taken marks parts (alike-marks allows kept program found plan parts marks come alike)
