-- The parts of an analysis under a rule without phases, each with its share of the answers.
--     groups-shared            the groups of a plan
--     assertions-shared        the assertions
--     analysis-names           the whole
use Rattle.std.proofs.Common.{◌≡◌, ℕ, ◌+◌, List, [], ◌∷◌, ◌++◌, Bool, true, false, length, refl, sym, ap, ◌∙◌, subst, append_assoc, append-nil, arith}
use Rattle.std.specs.Prelude.{Option, None, Some, map, slice_get}
use Rattle.std.specs.List.{Contains, flat_map, range_with_len}
use Rattle.std.proofs.lemmas.List.{length-map}
use Rattle.std.proofs.lemmas.List.Elements.{Contains-append_left}
use Rattle.std.proofs.lemmas.List.Folds.{flat_map-map}
use Rattle.farkas_check.specs.declared.answer.Answer.{Answer}
use Rattle.farkas_check.specs.declared.answer.Limit.{Limit}
use Rattle.syntax_tree.specs.declared.program.Proc.{Proc}
use Rattle.syntax_tree.specs.declared.program.Program.{Program}
use Rattle.transition_formula.specs.Transition.{Transition}
use Rattle.posing.specs.declared.note.Note.{Note}
use Rattle.posing.specs.declared.note.Note.TheVariants as note
use Rattle.posing.specs.Posing.{Posing, Done, each, here}
use Rattle.phases.specs.Rules.{IsPlainRule}
use Rattle.flow_graph.specs.FlowGraph.{CheckPlace, graph_of}
use Rattle.proc_summary.specs.declared.stop.Flow.{Flow}
use Rattle.proc_summary.specs.declared.stop.NodeFormula.{NodeFormula}
use Rattle.proc_summary.specs.Subject.{subject_of}
use Rattle.context.specs.Entries.{entries_from}
use Rattle.context.specs.Verdicts.{place_of, verdict_of}
use Rattle.report.specs.Claims.{ReportCovers}
use Rattle.report.specs.declared.blocks.Judged.{Judged}
use Rattle.report.specs.declared.blocks.ProcBlock.{ProcBlock}
use Rattle.report.specs.declared.blocks.Report.{Report}
use Rattle.report.specs.declared.verdict.Verdict.TheVariants.{Proved}
use Rattle.analysis.specs.declared.found.Found.{Found}
use Rattle.analysis.specs.declared.parts.Part.{Part}
use Rattle.analysis.specs.declared.places.TextPlace.{TextPlace}
use Rattle.analysis.specs.declared.planning.GroupKind.{GroupKind}
use Rattle.analysis.specs.declared.planning.GroupKind.TheVariants.{Plain, Linear, Rounds}
use Rattle.analysis.specs.declared.planning.Planned.{Planned}
use Rattle.analysis.specs.Analysis.{report_by_plan, blocks_by, report_by_findings, report_by}
use Rattle.analysis.specs.Apart.{apart}
use Rattle.analysis.specs.Found.{flows_in, findings_by_plan, nothing_found, with_group, with_part}
use Rattle.analysis.specs.Judging.{Asserted, asserted_if, assertion_of, check_with, checks_of, numbered_assertion, judgements_on_all, judgement_of, place_in, stops_in, unreached_judgement, with_judged}
use Rattle.analysis.specs.Parts.{note_in, part_of, plain_part, recursive_part, summaries_by, with_flow, with_plain}
use Rattle.analysis.specs.Plan.{IsPlan}
use Rattle.named_limits.specs.Leading.{LeadsTo}
use Rattle.named_limits.specs.Limits.{AreSame, count, limit_by, limits_given, limits_told}
use Rattle.named_limits.specs.Named.{AreAssertionsNamed, AreGroupsNamed, IsAssertionNamed, LimitsAreNamed, assertion, group, no_assertion, no_group, notes_in}
use Rattle.named_limits.specs.Reported.{limit_carried, limits_judged}
use Rattle.named_limits.proofs.Balance.{TellsAll, count-append, given, given-append, same-refl, tells-bind, tells-each, tells-then, told}
use Rattle.named_limits.proofs.Cuts.{from-Done, path-cut}
use Rattle.named_limits.proofs.NewGroups.{AreNew, plan-new}
use Rattle.named_limits.proofs.PathsApart.{path-apart}
use Rattle.named_limits.proofs.NotePlaces.{IsClear, all_told, blank-clear, blank-told, blocks-noted, placed}
use Rattle.named_limits.proofs.Rounds.{closed-tells}
use Rattle.named_limits.proofs.Stars.{flow-tells, subject-plain, summary-tells}
use Rattle.named_limits.proofs.Verdicts.{entries-tell, verdict-balances, verdict-owns}

-- ---- one part behind another

-- what a part took, and what the others did
own-first : {X : Type 0} {all first none : List X} (own others : List X) → all ≡ first ++ others → first ≡ own ++ none → none ≡ [] → all ≡ own ++ others
own-first own others e f g = e ∙ ap (λ l. l ++ others) (f ∙ ap (λ l. own ++ l) g ∙ append-nil own)

-- nothing, and nothing behind it
none-both : {X : Type 0} {all first others : List X} → all ≡ first ++ others → first ≡ [] → others ≡ [] → all ≡ []
none-both e f g = e ∙ (λ i. f i ++ g i)

all-own : {X : Type 0} {all own none : List X} → all ≡ own ++ none → none ≡ [] → all ≡ own
all-own {own = own} e g = e ∙ ap (λ l. own ++ l) g ∙ append-nil own

one-behind : {X : Type 0} {all : List X} (made : List X) (x : X) (others : List X) → all ≡ (made ++ x ∷ []) ++ others → all ≡ made ++ x ∷ others
one-behind made x others e = e ∙ append_assoc made (x ∷ []) others

-- ---- one group

with_flow-tells : (program : Program) (known : List (Option Transition)) (made : List Flow) (p : Proc) → IsPlainRule program.rule → TellsAll (with_flow program known made p)
unfolding with_flow
with_flow-tells program known made p is_plain = tells-then _ (flow-tells (subject_of program p known) (subject-plain program p known is_plain))

with_plain-tells : (program : Program) (known : List (Option Transition)) (made : _) (p : Proc) → IsPlainRule program.rule → TellsAll (with_plain program known made p)
unfolding with_plain
with_plain-tells program known made p is_plain = tells-bind (flow-tells (subject_of program p known) (subject-plain program p known is_plain)) (λ flow. tells-then _ (summary-tells _ _))

plain-tells : (program : Program) (procs : List ℕ) (known : List (Option Transition)) → IsPlainRule program.rule → TellsAll (plain_part program procs known)
unfolding plain_part
plain-tells program procs known is_plain = tells-each (with_plain program known) _ _ (λ made p. with_plain-tells program known made p is_plain)

recursive-tells : (program : Program) (procs : List ℕ) (known : List (Option Transition)) (summaries : Posing (List Transition)) → IsPlainRule program.rule → TellsAll summaries → TellsAll (recursive_part program procs known summaries)
unfolding recursive_part
recursive-tells program procs known summaries is_plain tells =
    tells-bind tells (λ table. tells-then _ (tells-each _ [] _ (λ made p. with_flow-tells program _ made p is_plain)))

summed-tells : (kind : GroupKind) (program : Program) (procs : List ℕ) (known : List (Option Transition)) → IsPlainRule program.rule → TellsAll (summaries_by kind program procs known)
unfolding summaries_by
summed-tells Plain program procs known is_plain = plain-tells program procs known is_plain
summed-tells Linear program procs known is_plain = recursive-tells program procs known _ is_plain (closed-tells true program procs known is_plain)
summed-tells Rounds program procs known is_plain = recursive-tells program procs known _ is_plain (closed-tells false program procs known is_plain)

in-program : (procs : List ℕ) (notes : List Note) → limits_told (map (note_in procs) notes) ≡ limits_told notes
in-program procs [] = refl
in-program procs (note.Loss loss ∷ notes) = in-program procs notes
in-program procs (note.Squash cases ∷ notes) = in-program procs notes
in-program procs (note.Cut rows ∷ notes) = in-program procs notes
in-program procs (note.Limit limit ∷ notes) = ap (λ l. limit ∷ l) (in-program procs notes)
in-program procs (note.Dropped place row by ∷ notes) = ap (λ l. limit_by by ++ l) (in-program procs notes)
in-program procs (note.Facets ∷ notes) = in-program procs notes

pub record IsPartNamed (notes : List Note) (share : List Answer) (part : Part) : Type 0 where
  pub quiet : notes ≡ []
  pub same : AreSame (limits_given share) (limits_told part.notes)

part-named : (program : Program) (planned : Planned) (known : List (Option Transition)) (notes : List Note) (share : List Answer) (part : Part) → IsPlainRule program.rule
    → LeadsTo (part_of program planned known) notes share (Done part) → IsPartNamed notes share part
unfolding part_of
part-named program planned known notes share part is_plain path =
    let cut = path-cut (apart (summaries_by planned.kind program planned.procs known)) _ notes share part path in
    let own = path-apart [] (summaries_by planned.kind program planned.procs known) cut.first cut.share cut.value cut.leads in
    let end = from-Done _ part cut.more cut.others cut.rest in
    record {
      quiet = none-both cut.notes_are own.quiet end.notes_are;
      same = record {
        same = λ test.
            let balance = (summed-tells planned.kind program planned.procs known is_plain).balances.balance test own.own cut.share cut.value.0 own.leads in
            let whole = ap (given test) cut.answers_are ∙ given-append test cut.share cut.others in
            let none = ap (given test) end.answers_are in
            let stands = ap (λ (p : Part). told test p.notes) end.same ∙ ap (count test) (in-program planned.procs cut.value.1) ∙ ap (told test) own.own_are in
            omega (arith, balance, whole, none, stands);
      };
    }

-- ---- the groups

pub record AreGroupsShared (program : Program) (come : List ℕ) (found last : Found) (plan : List Planned) (notes : List Note) (answers : List Answer) : Type 0 where
  pub quiet : notes ≡ []
  pub named : AreGroupsNamed program last.notes found plan answers last
  pub kept : (q : ℕ) → Contains come q → slice_get last.notes q ≡ slice_get found.notes q
  pub clear : length last.notes ≡ length program.procs
  pub sum : (test : Limit → Bool) → all_told test last.notes ≡ all_told test found.notes + given test answers

pub groups-shared : (program : Program) (come : List ℕ) (found last : Found) (plan : List Planned) (notes : List Note) (answers : List Answer) → IsPlainRule program.rule → AreNew program come plan → IsClear program come found.notes
    → LeadsTo (each (with_group program) found plan) notes answers (Done last) → AreGroupsShared program come found last plan notes answers
unfolding with_group
groups-shared program come found last [] notes answers is_plain new clear path =
    let end = from-Done found last notes answers path in
    record {
      quiet = end.notes_are;
      named = subst (λ l. AreGroupsNamed program last.notes found [] answers l) (sym end.same) (subst (λ l. AreGroupsNamed program last.notes found [] l found) (sym end.answers_are) (no_group found));
      kept = λ q came. ap (λ (f : Found). slice_get f.notes q) end.same;
      clear = ap (λ (f : Found). length f.notes) end.same ∙ clear.long;
      sum = λ test.
          let same = ap (λ (f : Found). all_told test f.notes) end.same in
          let none = ap (given test) end.answers_are in
          omega (arith, same, none);
    }
groups-shared program come found last (planned ∷ plan) notes answers is_plain new clear path =
    let cut = path-cut (with_group program found planned) (λ next. each (with_group program) next plan) notes answers last path in
    let own = path-cut (part_of program planned found.known) (λ part. Done (with_part found planned.procs part)) cut.first cut.share cut.value cut.leads in
    let part = own.value in
    let end = from-Done (with_part found planned.procs part) cut.value own.more own.others own.rest in
    let named = part-named program planned found.known own.first own.share part is_plain own.leads in
    let next = with_part found planned.procs part in
    let there = placed program come planned.procs part.notes found.notes new.0 clear in
    let rest = groups-shared program (come ++ planned.procs) next last plan cut.more cut.others is_plain new.1 there.clear
    (subst (λ made. LeadsTo (each (with_group program) made plan) cut.more cut.others (Done last)) end.same cut.rest) in
    let share : answers ≡ own.share ++ cut.others = own-first own.share cut.others cut.answers_are own.answers_are end.answers_are in
    record {
      quiet = none-both cut.notes_are (none-both own.notes_are named.quiet end.notes_are) rest.quiet;
      named = subst (λ l. AreGroupsNamed program last.notes found (planned ∷ plan) l last) (sym share)
          (group found last planned plan part own.share cut.others
          (record {
            leads = subst (λ ns. LeadsTo (part_of program planned found.known) ns own.share (Done part)) named.quiet own.leads;
            same = named.same;
            stand = there.stand last.notes rest.kept;
          })
          rest.named);
      kept = λ q came. rest.kept q (Contains-append_left come planned.procs q came) ∙ there.kept q came;
      clear = rest.clear;
      sum = λ test.
          let others = rest.sum test in
          let placed_there = there.sum test in
          let same = named.same.same test in
          let parts = ap (given test) share ∙ given-append test own.share cut.others in
          omega (arith, others, placed_there, same, parts);
    }

-- ---- one assertion

pub record IsAssertionShared (a : Option Asserted) (notes : List Note) (share : List Answer) (judged : Judged) : Type 0 where
  pub quiet : notes ≡ []
  pub named : IsAssertionNamed a share judged

-- the rule of its program has no phases
abbrev IsPlain : Option Asserted → Type 0
IsPlain None = Unit {0}
IsPlain (Some a) = IsPlainRule a.program.rule

assertion-shared : (at : TextPlace) (a : Option Asserted) (notes : List Note) (share : List Answer) (judged : Judged) → IsPlain a → LeadsTo (judgement_of at a) notes share (Done judged) → IsAssertionShared a notes share judged
unfolding judgement_of
assertion-shared at None notes share judged is_plain path =
    let end = from-Done (unreached_judgement at) judged notes share path in
    let own : IsAssertionNamed None [] (unreached_judgement at) = record { leads = here (Done Proved); same = same-refl []; own = λ case limit e. absurd (cc e) } in
    record {
      quiet = end.notes_are;
      named = subst (λ j. IsAssertionNamed None share j) (sym end.same) (subst (λ l. IsAssertionNamed None l (unreached_judgement at)) (sym end.answers_are) own);
    }
assertion-shared at (Some a) notes share judged is_plain path =
    let p = verdict_of (place_of a.program a.p) a.cond a.entry a.stand in
    let cut = path-cut (apart p) _ notes share judged path in
    let own = path-apart [] p cut.first cut.share cut.value cut.leads in
    let end = from-Done _ judged cut.more cut.others cut.rest in
    let split : share ≡ cut.share = all-own cut.answers_are end.answers_are in
    let verdict = ap (λ (j : Judged). j.verdict) end.same in
    let told_by = ap (λ (j : Judged). j.notes) end.same ∙ own.own_are in
    let leads : LeadsTo p judged.notes share (Done judged.verdict) =
    subst (λ v. LeadsTo p judged.notes share (Done v)) (sym verdict) (subst (λ ns. LeadsTo p ns share (Done cut.value.0)) (sym told_by) (subst (λ l. LeadsTo p own.own l (Done cut.value.0)) (sym split) own.leads)) in
    record {
      quiet = none-both cut.notes_are own.quiet end.notes_are;
      named = record {
        leads = leads;
        same = record {
          same = λ test.
              let balance = (verdict-balances a.program a.p a.cond a.entry a.stand is_plain).balance test judged.notes share judged.verdict leads in
              let both = count-append test (limit_carried judged.verdict) (limits_told judged.notes) in
              omega (arith, balance, both);
        };
        own = λ case limit e. verdict-owns (place_of a.program a.p) a.cond a.entry a.stand judged.notes share judged.verdict case limit leads e;
      };
    }

-- ---- the assertions

asserted-plain : (program : Program) (p : Option Proc) (check : Option CheckPlace) (entry : Option (Option Transition)) (stop : Option NodeFormula) → IsPlainRule program.rule → IsPlain (asserted_if program p check entry stop)
asserted-plain program None check entry stop is_plain = tt
asserted-plain program (Some p) None entry stop is_plain = tt
asserted-plain program (Some p) (Some check) None stop is_plain = tt
asserted-plain program (Some p) (Some check) (Some entry) None is_plain = tt
asserted-plain program (Some p) (Some check) (Some entry) (Some stop) is_plain = is_plain

of_check-plain : (program : Program) (entries : List (Option Transition)) (flows : List Flow) (check : Option _) → IsPlainRule program.rule → IsPlain (assertion_of program entries flows check)
of_check-plain program entries flows None is_plain = tt
of_check-plain program entries flows (Some c) is_plain =
    asserted-plain program (slice_get program.procs c.proc) (slice_get (graph_of program c.proc).checks c.check) (slice_get entries c.proc) (slice_get (stops_in (slice_get flows c.proc)) c.check) is_plain

numbered-plain : (program : Program) (entries : List (Option Transition)) (flows : List Flow) (number : ℕ) → IsPlainRule program.rule → IsPlain (numbered_assertion program entries flows number)
numbered-plain program entries flows number is_plain = of_check-plain program entries flows (check_with number (checks_of 0 program.procs)) is_plain

pub record AreAssertionsShared (program : Program) (entries : List (Option Transition)) (flows : List Flow) (made : List Judged) (numbers : List ℕ) (notes : List Note) (answers : List Answer) (last : List Judged) : Type 0 where
  pub quiet : notes ≡ []
  pub others : List Judged
  pub is : last ≡ made ++ others
  pub named : AreAssertionsNamed program entries flows numbers answers others
  pub sum : (test : Limit → Bool) → given test answers ≡ count test (flat_map limits_judged others)

pub assertions-shared : (program : Program) (places : List TextPlace) (entries : List (Option Transition)) (flows : List Flow) (made : List Judged) (numbers : List ℕ) (notes : List Note) (answers : List Answer) (last : List Judged) → IsPlainRule program.rule
    → LeadsTo (each (with_judged program places entries flows) made numbers) notes answers (Done last) → AreAssertionsShared program entries flows made numbers notes answers last
unfolding with_judged
assertions-shared program places entries flows made [] notes answers last is_plain path =
    let end = from-Done made last notes answers path in
    record {
      quiet = end.notes_are;
      others = [];
      is = end.same ∙ sym (append-nil made);
      named = subst (λ l. AreAssertionsNamed program entries flows [] l []) (sym end.answers_are) no_assertion;
      sum = λ test. ap (given test) end.answers_are;
    }
assertions-shared program places entries flows made (number ∷ numbers) notes answers last is_plain path =
    let cut = path-cut (with_judged program places entries flows made number) (λ next. each (with_judged program places entries flows) next numbers) notes answers last path in
    let own = path-cut (judgement_of (place_in places number) (numbered_assertion program entries flows number)) (λ judged. Done (made ++ judged ∷ [])) cut.first cut.share cut.value cut.leads in
    let end = from-Done (made ++ own.value ∷ []) cut.value own.more own.others own.rest in
    let one = assertion-shared (place_in places number) (numbered_assertion program entries flows number) own.first own.share own.value (numbered-plain program entries flows number is_plain) own.leads in
    let rest = assertions-shared program places entries flows (made ++ own.value ∷ []) numbers cut.more cut.others last is_plain
    (subst (λ next. LeadsTo (each (with_judged program places entries flows) next numbers) cut.more cut.others (Done last)) end.same cut.rest) in
    let share : answers ≡ own.share ++ cut.others = own-first own.share cut.others cut.answers_are own.answers_are end.answers_are in
    record {
      quiet = none-both cut.notes_are (none-both own.notes_are one.quiet end.notes_are) rest.quiet;
      others = own.value ∷ rest.others;
      is = one-behind made own.value rest.others rest.is;
      named = subst (λ l. AreAssertionsNamed program entries flows (number ∷ numbers) l (own.value ∷ rest.others)) (sym share)
          (assertion number numbers own.share cut.others own.value rest.others one.named rest.named);
      sum = λ test.
          let others = rest.sum test in
          let same = one.named.same.same test in
          let parts = ap (given test) share ∙ given-append test own.share cut.others in
          let both = count-append test (limits_judged own.value) (flat_map limits_judged rest.others) in
          omega (arith, others, same, parts, both);
    }

-- ---- the whole

report-named : (program : Program) (places : List TextPlace) (plan : List Planned) (found : Found) (notes : List Note) (of_groups others : List Answer) (report : Report) → IsPlainRule program.rule → IsPlan program plan → ReportCovers program report
    → LeadsTo (findings_by_plan program plan) notes of_groups (Done found) → (more : List Note) → LeadsTo (report_by_findings program places found) more others (Done report)
    → LimitsAreNamed program plan (of_groups ++ others) report
unfolding findings_by_plan report_by_findings report_by judgements_on_all
report-named program places plan found notes of_groups others report is_plain is_plan covers path more later =
    let groups = groups-shared program [] (nothing_found (length program.procs)) found plan notes of_groups is_plain (plan-new program plan is_plan) (blank-clear program) path in
    let cut = path-cut (apart (entries_from program (flows_in found))) _ more others report later in
    let own = path-apart [] (entries_from program (flows_in found)) cut.first cut.share cut.value cut.leads in
    let second = path-cut (each (with_judged program places cut.value.0 (flows_in found)) [] (range_with_len 1 (length program.checks))) _ cut.more cut.others report cut.rest in
    let assertions = assertions-shared program places cut.value.0 (flows_in found) [] (range_with_len 1 (length program.checks)) second.first second.share second.value is_plain second.leads in
    let end = from-Done _ report second.more second.others second.rest in
    let of_entries = cut.share in
    let of_assertions = second.share in
    let rest : cut.others ≡ of_assertions = all-own second.answers_are end.answers_are in
    let split : of_groups ++ others ≡ of_groups ++ (of_entries ++ of_assertions) = ap (λ l. of_groups ++ l) (cut.answers_are ∙ ap (λ l. of_entries ++ l) rest) in
    let blocks = ap (λ (r : Report). r.procs) end.same in
    let long : length (blocks_by program program.procs found.known found.notes) ≡ length program.procs =
    ap length (sym blocks) ∙ sym (length-map report.procs (λ (b : ProcBlock). b.name)) ∙ ap length covers.blocks ∙ length-map program.procs (λ (p : Proc). p.name) in
    let noted : notes_in report ≡ found.notes =
    ap (map (λ (b : ProcBlock). b.notes)) blocks ∙ blocks-noted program program.procs found.known found.notes groups.clear long in
    let told_by : report.notes ≡ own.own = ap (λ (r : Report). r.notes) end.same ∙ own.own_are in
    let judged : report.judged ≡ assertions.others = ap (λ (r : Report). r.judged) end.same ∙ assertions.is in
    record {
      whole = record {
        same = λ test.
            let in_blocks : count test (flat_map (λ (b : ProcBlock). limits_told b.notes) report.procs) ≡ all_told test found.notes =
            ap (count test) (sym (flat_map-map limits_told (λ (b : ProcBlock). b.notes) report.procs)) ∙ ap (all_told test) noted in
            let first = groups.sum test in
            let blank = blank-told test (length program.procs) in
            let entries = (entries-tell program (flows_in found) is_plain).balances.balance test own.own of_entries cut.value.0 own.leads in
            let in_notes = ap (told test) told_by in
            let last = assertions.sum test in
            let in_judged = ap (λ l. count test (flat_map limits_judged l)) judged in
            let parts = ap (given test) split ∙ given-append test of_groups (of_entries ++ of_assertions) in
            let two = given-append test of_entries of_assertions in
            let both = count-append test (flat_map (λ (b : ProcBlock). limits_told b.notes) report.procs) (limits_told report.notes ++ flat_map limits_judged report.judged) in
            let ends = count-append test (limits_told report.notes) (flat_map limits_judged report.judged) in
            omega (arith, in_blocks, first, blank, entries, in_notes, last, in_judged, parts, two, both, ends);
      };
      of_groups = of_groups;
      of_entries = of_entries;
      of_assertions = of_assertions;
      split = split;
      found = found;
      groups = subst (λ l. AreGroupsNamed program l (nothing_found (length program.procs)) plan of_groups found) (sym noted) groups.named;
      entries = cut.value.0;
      entries_named = record {
        leads = subst (λ ns. LeadsTo (entries_from program (flows_in found)) ns of_entries (Done cut.value.0)) (sym told_by) own.leads;
        same = record {
          same = λ test.
              let balance = (entries-tell program (flows_in found) is_plain).balances.balance test own.own of_entries cut.value.0 own.leads in
              let in_notes = ap (told test) told_by in
              omega (arith, balance, in_notes);
        };
      };
      assertions = subst (λ l. AreAssertionsNamed program cut.value.0 (flows_in found) (range_with_len 1 (length program.checks)) of_assertions l) (sym judged) assertions.named;
    }

pub analysis-names : (program : Program) (places : List TextPlace) (plan : List Planned) (answers : List Answer) (report : Report) → IsPlainRule program.rule → IsPlan program plan
    → LeadsTo (report_by_plan program places plan) [] answers (Done report) → ReportCovers program report → LimitsAreNamed program plan answers report
unfolding report_by_plan
analysis-names program places plan answers report is_plain is_plan path covers =
    let cut = path-cut (findings_by_plan program plan) (λ found. report_by_findings program places found) [] answers report path in
    subst (λ l. LimitsAreNamed program plan l report) (sym cut.answers_are)
    (report-named program places plan cut.value cut.first cut.share cut.others report is_plain is_plan covers cut.leads cut.more cut.rest)
