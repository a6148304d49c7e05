-- Every end of what is stated of a group has a summary and a flow for each of its procedures, which
-- fit it, and are met where the known formulas are.
--     under-any, under-all     what holds anyway, and what holds for each of several
--     under-unbind             two computations in a row, taken apart
--     under-apart              what holds of a computation's value, holds where its notes are apart
--     part-fine                each group
use Rattle.std.proofs.Common.{◌≡◌, ℕ, ◌<◌, ◌≤◌, Bool, true, false, List, [], ◌∷◌, ◌++◌, length, Option, Some, sym, subst, ◌∙◌, append-nil, append_assoc}
use Rattle.std.specs.Prelude.{All, IsTrue, slice_get}
use Rattle.std.specs.List.{AllZip, Contains}
use Rattle.std.proofs.lemmas.Bool.{false≢true}
use Rattle.std.proofs.lemmas.List.Elements.{recursion_from_All}
use Rattle.std.proofs.lemmas.Option.{get_or_from_slice_get, slice_get_within}
use Rattle.items.proofs.Each.{each-get}
use Rattle.farkas_check.specs.declared.answer.Answer.{Answer}
use Rattle.farkas_check.specs.declared.question.Question.{Question}
use Rattle.posing.specs.declared.note.Note.{Note}
use Rattle.posing.specs.Posing.{Posing, Done, Noted, Asked, each, ◌>>=◌, AlwaysUnder, AlwaysPassing, IsPassing}
use Rattle.posing.proofs.UnderAnswers.{passing-always, under-bind, under-both, under-weaker}
use Rattle.syntax_tree.specs.declared.program.Proc.{Proc}
use Rattle.syntax_tree.specs.declared.program.Program.{Program}
use Rattle.syntax_tree.specs.WellFormed.{IsWellFormed}
use Rattle.transition_formula.specs.Transition.{Transition}
use Rattle.vocabularies.specs.Procs.{IsProcOf}
use Rattle.leaf_cases.specs.Conditions.{AreKnown}
use Rattle.leaf_cases.specs.Summaries.{AreMet}
use Rattle.proc_summary.specs.declared.stop.Flow.{Flow}
use Rattle.proc_summary.specs.Flow.{flow_from}
use Rattle.proc_summary.specs.Subject.{subject_of}
use Rattle.proc_summary.specs.Summary.{ends_of, summary_from}
use Rattle.proc_summary.proofs.CratesBelow.{some_at}
use Rattle.newton_rounds.specs.Claims.{AreKnownMembers, AreMetMembers}
use Rattle.newton_rounds.specs.Close.{group_closure}
use Rattle.newton_rounds.specs.Laws.{KnowsOthers}
use Rattle.newton_rounds.specs.Members.{IsLinear, members_of, with_table}
use Rattle.newton_rounds.proofs.GroupCalls.{AreThere, member-at, members-many}
use Rattle.newton_rounds.proofs.MemberTables.{IsProcedure}
use Rattle.newton_rounds.proofs.SummariesMet.{summaries-met}
use Rattle.newton_rounds.proofs.PairLists.{some-one, zipped-at, zipped-length}
use Rattle.flow_laws.specs.Laws.{IsTrueFlow, IsTrueSummary, summary_by_flow}
use Rattle.flow_laws.proofs.TrueFlows.{flows-true, summaries-true}
use Rattle.analysis.specs.declared.planning.GroupKind.{GroupKind}
use Rattle.analysis.specs.declared.planning.GroupKind.TheVariants.{Plain, Linear, Rounds}
use Rattle.analysis.specs.declared.planning.Planned.{Planned}
use Rattle.analysis.specs.Apart.{apart, apart_from}
use Rattle.analysis.specs.Claims.{AreFlowsOf, FitFlows, FitsGroup, GroupIsMet, IsLinearIf, IsReadyGroup, KnowAllCallees, KnowsFor}
use Rattle.analysis.specs.Parts.{part_of, plain_part, recursive_part, summaries_by, with_flow, with_plain}
use Rattle.analysis.proofs.Ready.{ready-tabled, tabled-are, tabled-met}
use Rattle.analysis_laws.specs.Laws.{IsFinePart, PartsAreMet}
use Rattle.analysis_laws.proofs.GroupSummaries.{group-known}

-- ---- computations under answers

module _ (Good : Question → Answer → Type 0) where
  pub under-apart : {A : Type 0} (P : A → Type 0) (before : List Note) (p : Posing A) → AlwaysUnder Good P p → AlwaysUnder Good (λ made. P made.0) (apart_from before p)
  unfolding apart_from
  under-apart P before (Done x) h = h
  under-apart P before (Noted notes p) h = under-apart P (before ++ notes) p h
  under-apart P before (Asked question next) h = λ answer good. under-apart P before (next answer) (h answer good)

  pub under-any : {A : Type 0} (p : Posing A) → AlwaysUnder Good (λ x. Unit {0}) p
  under-any (Done x) = tt
  under-any (Noted notes p) = under-any p
  under-any (Asked question next) = λ answer good. under-any (next answer)

  pub under-all : {X A : Type 0} (P : X → A → Type 0) (p : Posing A) → ((x : X) → AlwaysUnder Good (P x) p) → AlwaysUnder Good (λ a. (x : X) → P x a) p
  under-all P (Done a) h = h
  under-all P (Noted notes p) h = under-all P p h
  under-all P (Asked question next) h = λ answer good. under-all P (next answer) (λ x. h x answer good)

  pub under-unbind : {A B : Type 0} (P : B → Type 0) (p : Posing A) (f : A → Posing B) → AlwaysUnder Good P (p >>= f) → AlwaysUnder Good (λ x. AlwaysUnder Good P (f x)) p
  unfolding ◌>>=◌
  under-unbind P (Done x) f h = h
  under-unbind P (Noted notes p) f h = under-unbind P p f h
  under-unbind P (Asked question next) f h = λ answer good. under-unbind P (next answer) f (h answer good)

-- ---- a loop that puts one value behind others

-- what fits the elements that are left, fits all behind what is made
abbrev FitsBehind : {A B : Type 0} → (A → B → Type 0) → List A → List A → List B → Type 0
FitsBehind {A} {B} P all rest made = (more : List B) → AllZip P rest more → AllZip P all (made ++ more)

one-behind : {A B : Type 0} (P : A → B → Type 0) (all : List A) (x : A) (rest : List A) (made : List B) (y : B) → FitsBehind P all (x ∷ rest) made → P x y → FitsBehind P all rest (made ++ y ∷ [])
one-behind P all x rest made y so_far h more k = subst (AllZip P all) (sym (append_assoc made (y ∷ []) more)) (so_far (y ∷ more) (h, k))

all-behind : {A B : Type 0} (P : A → B → Type 0) (all : List A) (made : List B) → FitsBehind P all [] made → AllZip P all made
all-behind P all made so_far = subst (AllZip P all) (append-nil made) (so_far [] tt)

-- what is found of a group, by the function that reads it
abbrev Domain : {A B : Type 0} → (A → B) → Type 0
Domain {A} {B} f = A

abbrev GroupSummaries : Program → List (Option Transition) → Type 0
GroupSummaries program known = Domain (with_plain program known)

module _ (program : Program) (formed : IsWellFormed program) where
  -- ---- the procedures of a group, by known formulas

  module _ (known : List (Option Transition)) (are : AreKnown program known) where
    -- true for each number that the procedure has
    abbrev IsTrueOf : Proc → Flow → Type 0
    IsTrueOf p flow = (number : IsProcedure program p) → IsTrueFlow program number.0 p known flow

    abbrev IsSummaryOf : Proc → Transition → Type 0
    IsSummaryOf p f = (number : IsProcedure program p) → IsTrueSummary program number.0 p known f

    flow-true : (p : Proc) → AlwaysPassing (IsTrueOf p) (flow_from (subject_of program p known))
    flow-true p =
        under-all IsPassing (λ (number : IsProcedure program p) flow. IsTrueFlow program number.0 p known flow) (flow_from (subject_of program p known))
        (λ number. flows-true program number.0 p known formed number.1 are)

    summary-true : (p : Proc) → AlwaysPassing (λ flow. AlwaysPassing (IsSummaryOf p) (summary_from (ends_of program p) flow.exit.formula)) (flow_from (subject_of program p known))
    summary-true p =
        under-unbind IsPassing (IsSummaryOf p) (flow_from (subject_of program p known)) (λ flow. summary_from (ends_of program p) flow.exit.formula)
        (under-all IsPassing (λ (number : IsProcedure program p) f. IsTrueSummary program number.0 p known f) (summary_by_flow program p known)
        (λ number. summaries-true program number.0 p known formed number.1 are))

    flow-next : (all ps : List Proc) (p : Proc) (made : List Flow) → FitsBehind IsTrueOf all (p ∷ ps) made → AlwaysPassing (FitsBehind IsTrueOf all ps) (with_flow program known made p)
    unfolding with_flow
    flow-next all ps p made so_far =
        under-bind IsPassing (IsTrueOf p) (FitsBehind IsTrueOf all ps) (flow_from (subject_of program p known)) (λ flow. Done (made ++ flow ∷ []))
        (flow-true p) (λ flow fine. one-behind IsTrueOf all p ps made flow so_far fine)

    flows-from : (all ps : List Proc) (made : List Flow) → FitsBehind IsTrueOf all ps made → AlwaysPassing (AllZip IsTrueOf all) (each (with_flow program known) made ps)
    flows-from all [] made so_far = all-behind IsTrueOf all made so_far
    flows-from all (p ∷ ps) made so_far =
        under-bind IsPassing (FitsBehind IsTrueOf all ps) (AllZip IsTrueOf all) (with_flow program known made p) (λ next. each (with_flow program known) next ps) (flow-next all ps p made so_far)
        (λ next now. flows-from all ps next now)

    abbrev AreZipped : List Proc → GroupSummaries program known → Type 0
    AreZipped all made = AllZip IsSummaryOf all made.formulas × AllZip IsTrueOf all made.flows

    abbrev AreBehind : List Proc → List Proc → GroupSummaries program known → Type 0
    AreBehind all rest made = FitsBehind IsSummaryOf all rest made.formulas × FitsBehind IsTrueOf all rest made.flows

    plain-next : (all ps : List Proc) (p : Proc) (made : GroupSummaries program known) → AreBehind all (p ∷ ps) made → AlwaysPassing (AreBehind all ps) (with_plain program known made p)
    unfolding with_plain
    plain-next all ps p made so_far =
        under-bind IsPassing (λ flow. IsTrueOf p flow × AlwaysPassing (IsSummaryOf p) (summary_from (ends_of program p) flow.exit.formula)) (AreBehind all ps) (flow_from (subject_of program p known)) _
        (under-both IsPassing (IsTrueOf p) (λ flow. AlwaysPassing (IsSummaryOf p) (summary_from (ends_of program p) flow.exit.formula)) (flow_from (subject_of program p known)) (flow-true p) (summary-true p))
        (λ flow fine.
        under-bind IsPassing (IsSummaryOf p) (AreBehind all ps) (summary_from (ends_of program p) flow.exit.formula)
        (λ f. Done record { formulas = made.formulas ++ f ∷ []; flows = made.flows ++ flow ∷ [] }) fine.1
        (λ f own. (one-behind IsSummaryOf all p ps made.formulas f so_far.0 own, one-behind IsTrueOf all p ps made.flows flow so_far.1 fine.0)))

    plain-from : (all ps : List Proc) (made : GroupSummaries program known) → AreBehind all ps made → AlwaysPassing (AreZipped all) (each (with_plain program known) made ps)
    plain-from all [] made so_far = (all-behind IsSummaryOf all made.formulas so_far.0, all-behind IsTrueOf all made.flows so_far.1)
    plain-from all (p ∷ ps) made so_far =
        under-bind IsPassing (AreBehind all ps) (AreZipped all) (with_plain program known made p) (λ next. each (with_plain program known) next ps) (plain-next all ps p made so_far)
        (λ next now. plain-from all ps next now)

    -- ---- what is true of each, is so of the group

    module _ (procs : List ℕ) (there : AreThere program procs) (knows : KnowAllCallees program procs known) where
      -- the procedure at a place of the group
      at-place : (place proc : ℕ) → slice_get procs place ≡ Some proc → (p : Proc) × (IsProcOf program proc p)
      at-place place proc at = some_at program.procs proc (each-get (λ proc. proc < length program.procs) procs place proc there at)

      of-group : (place proc : ℕ) → slice_get procs place ≡ Some proc → Contains procs proc
      of-group place proc at = (place, slice_get_within procs place proc at, get_or_from_slice_get procs place proc proc at)

      summary-at : (formulas : List Transition) → AllZip IsSummaryOf (members_of program procs) formulas → (place proc : ℕ) (p : Proc) (f : Transition) → slice_get procs place ≡ Some proc → IsProcOf program proc p
          → slice_get formulas place ≡ Some f → IsTrueSummary program proc p known f
      summary-at formulas h place proc p f at is e =
          let found = zipped-at IsSummaryOf (members_of program procs) formulas h place p (member-at program procs place proc p there at is) in
          subst (IsTrueSummary program proc p known) (some-one found.1 e) (found.2 (proc, is))

      flow-at : (flows : List Flow) → AllZip IsTrueOf (members_of program procs) flows → (place proc : ℕ) (p : Proc) (flow : Flow) → slice_get procs place ≡ Some proc → IsProcOf program proc p
          → slice_get flows place ≡ Some flow → IsTrueFlow program proc p known flow
      flow-at flows h place proc p flow at is e =
          let found = zipped-at IsTrueOf (members_of program procs) flows h place p (member-at program procs place proc p there at is) in
          subst (IsTrueFlow program proc p known) (some-one found.1 e) (found.2 (proc, is))

      formulas-known : (formulas : List Transition) → AllZip IsSummaryOf (members_of program procs) formulas → AreKnownMembers program procs formulas
      formulas-known formulas h = record {
        each = sym (zipped-length IsSummaryOf (members_of program procs) formulas h) ∙ members-many program procs there;
        fit = λ place proc p f at is e. (summary-at formulas h place proc p f at is e).fits;
      }

      formulas-met : AreMet program known → (formulas : List Transition) → AllZip IsSummaryOf (members_of program procs) formulas → AreMetMembers program procs formulas
      formulas-met met formulas h place proc f at e =
          let p = at-place place proc at in
          (summary-at formulas h place proc p.0 f at p.1 e).met (knows proc p.0 (of-group place proc at) p.1) met

      flows-fit : (flows : List Flow) → AllZip IsTrueOf (members_of program procs) flows → FitFlows program procs flows
      flows-fit flows h = record {
        each = sym (zipped-length IsTrueOf (members_of program procs) flows h) ∙ members-many program procs there;
        fit = λ place proc flow at e p is. (flow-at flows h place proc p flow at is e).fits;
      }

      flows-hold : AreMet program known → (flows : List Flow) → AllZip IsTrueOf (members_of program procs) flows → AreFlowsOf program procs flows
      flows-hold met flows h place proc flow at e =
          let p = at-place place proc at in
          (flow-at flows h place proc p.0 flow at p.1 e).holds (knows proc p.0 (of-group place proc at) p.1) met

  -- ---- one group

  module _ (procs : List ℕ) (within : All (λ proc. proc < length program.procs) procs) (known : List (Option Transition)) (are : AreKnown program known) where
    there : AreThere program procs
    there = recursion_from_All (λ proc. proc < length program.procs) procs within

    abbrev IsFine : GroupSummaries program known → Type 0
    IsFine summed =
        FitsGroup program procs summed.formulas summed.flows
        × (AreMet program known → GroupIsMet program procs summed.formulas summed.flows)

    plain-fine : KnowAllCallees program procs known → AlwaysPassing IsFine (plain_part program procs known)
    unfolding plain_part
    plain-fine knows =
        under-weaker IsPassing (AreZipped known are (members_of program procs)) IsFine (each (with_plain program known) record { formulas = []; flows = [] } (members_of program procs))
        (λ made h. (
          record { known = formulas-known known are procs there knows made.formulas h.0; fit = flows-fit known are procs there knows made.flows h.1 },
          λ met. record { summaries = formulas-met known are procs there knows met made.formulas h.0; hold = flows-hold known are procs there knows met made.flows h.1 },
        ))
        (plain-from known are (members_of program procs) (members_of program procs) record { formulas = []; flows = [] } ((λ more h. h), (λ more h. h)))

    recursive-fine : KnowsOthers program procs known → (summaries : Posing (List Transition)) → AlwaysPassing (λ table. AreKnownMembers program procs table × (AreMet program known → AreMetMembers program procs table)) summaries
        → AlwaysPassing IsFine (recursive_part program procs known summaries)
    unfolding recursive_part
    recursive-fine knows summaries fine =
        under-bind IsPassing (λ table. AreKnownMembers program procs table × (AreMet program known → AreMetMembers program procs table)) IsFine summaries _ fine (λ table own.
        let all = with_table procs table known in
        let all_known = tabled-are program procs known table are own.0 in
        let callees = ready-tabled program procs known table own.0.each are within knows in
        let all_met = λ (met : AreMet program known). tabled-met program procs known table own.0.each met (own.1 met) in
        under-bind IsPassing (AllZip (IsTrueOf all all_known) (members_of program procs)) IsFine (each (with_flow program all) [] (members_of program procs)) (λ flows. Done record { formulas = table; flows = flows })
        (flows-from all all_known (members_of program procs) (members_of program procs) [] (λ more h. h))
        (λ flows h. (
          record { known = own.0; fit = flows-fit all all_known procs there callees flows h },
          λ met. record { summaries = own.1 met; hold = flows-hold all all_known procs there callees (all_met met) flows h },
        )))

    closed-fine : (linear : Bool) → length procs ≤ length program.procs → KnowsOthers program procs known → (IsTrue linear → IsLinear program procs)
        → AlwaysPassing IsFine (recursive_part program procs known (group_closure linear program procs known))
    closed-fine linear few knows tells =
        recursive-fine knows (group_closure linear program procs known)
        (under-both IsPassing (AreKnownMembers program procs) (λ table. AreMet program known → AreMetMembers program procs table) (group_closure linear program procs known)
        (passing-always (AreKnownMembers program procs) (group_closure linear program procs known) (group-known program procs known formed there few are linear))
        (under-all IsPassing (λ (met : AreMet program known) table. AreMetMembers program procs table) (group_closure linear program procs known)
        (λ met. summaries-met program procs known linear formed within few are met knows tells)))

    summed-fine : (kind : GroupKind) → length procs ≤ length program.procs → KnowsFor kind program procs known → IsLinearIf kind program procs → AlwaysPassing IsFine (summaries_by kind program procs known)
    unfolding summaries_by
    summed-fine Plain few knows linear = plain-fine knows
    summed-fine Linear few knows linear = closed-fine true few knows (λ yes. linear)
    summed-fine Rounds few knows linear = closed-fine false few knows (λ yes. absurd (false≢true yes))

  pub part-fine : (planned : Planned) (known : List (Option Transition)) → AreKnown program known → IsReadyGroup program planned known
      → AlwaysPassing (IsFinePart program planned known) (part_of program planned known)
  unfolding part_of
  part-fine planned known are ready =
      under-bind IsPassing (λ made. IsFine planned.procs ready.there known are made.0) (IsFinePart program planned known) (apart (summaries_by planned.kind program planned.procs known)) _
      (under-apart IsPassing (IsFine planned.procs ready.there known are) [] (summaries_by planned.kind program planned.procs known)
      (summed-fine planned.procs ready.there known are planned.kind ready.few ready.callees ready.linear))
      (λ made h. record { fits = h.0; met = h.1 })

pub parts_are_met : PartsAreMet
parts_are_met program planned known formed are ready = part-fine program formed planned known are ready
