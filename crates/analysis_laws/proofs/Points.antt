-- Each point that the stated analysis tells makes the rows of its case true.
--     case-refuted       the verdict on a case
--     verdict-refuted    that on an assertion
--     points-meet        all of a report
use Rattle.std.proofs.Common.{◌≡◌, ℕ, Bool, true, false, cond, List, [], ◌∷◌, ◌++◌, length, Option, None, Some, refl, sym, ap, subst}
use Rattle.std.specs.List.{AllByRecursion, find, range_with_len}
use Rattle.std.proofs.lemmas.Bool.{false≢true}
use Rattle.items.proofs.Each.{each-append}
use Rattle.linear_terms.specs.declared.row.Case.{Case}
use Rattle.linear_terms.specs.declared.row.Row.{Row}
use Rattle.farkas_check.specs.declared.answer.Answer.{Answer}
use Rattle.farkas_check.specs.declared.answer.Answer.TheVariants as answer
use Rattle.farkas_check.specs.declared.question.Question.TheVariants.{Infeasible}
use Rattle.farkas_check.specs.Tested.{is_passed}
use Rattle.posing.specs.Posing.{Posing, Done, Noted, each, ◌>>=◌, AlwaysPassing, IsPassing}
use Rattle.posing.proofs.UnderAnswers.{under-bind, under-each}
use Rattle.syntax_tree.specs.declared.program.Program.{Program}
use Rattle.syntax_tree.specs.Term.{Term}
use Rattle.transition_formula.specs.Rounds.{in_order}
use Rattle.transition_formula.specs.Transition.{Transition}
use Rattle.polyhedra.specs.Infeasibility.{is_yes}
use Rattle.phases.specs.Rules.{has_phases}
use Rattle.proc_summary.specs.declared.stop.Flow.{Flow}
use Rattle.context.specs.Entries.{entries_from}
use Rattle.context.specs.Judging.{IsAnswered}
use Rattle.context.specs.SecondQuestions.{by_rule, proved_if, second_rows, second_verdict, verdict_after}
use Rattle.context.specs.Verdicts.{case_verdict, else_by, failure_verdict_from, failing_of, is_limited, is_refuted, verdict_on_cases_from, limits_of, place_of, reach_from, verdict_at, verdict_by, verdict_from, verdict_left, verdict_of, with_verdict}
use Rattle.context.proofs.GoodAnswers.{empty-known, no-known}
use Rattle.report.specs.declared.blocks.Judged.{Judged}
use Rattle.report.specs.declared.verdict.Verdict.{Verdict}
use Rattle.report.specs.Claims.{IsRefuted, PointsMeetRows}
use Rattle.analysis.specs.declared.found.Found.{Found}
use Rattle.analysis.specs.declared.places.TextPlace.{TextPlace}
use Rattle.analysis.specs.Analysis.{report_by_plan, blocks_by, report_by_findings, report_by}
use Rattle.analysis.specs.Apart.{apart}
use Rattle.analysis.specs.Claims.{AreRefuted}
use Rattle.analysis.specs.Found.{flows_in, findings_by_plan}
use Rattle.analysis.specs.Judging.{Asserted, numbered_assertion, judgements_on_all, judgement_of, place_in, with_judged}
use Rattle.analysis.proofs.AssertionParts.{refuted-next}
use Rattle.analysis_laws.specs.Laws.{ReportedPointsMeetRows}
use Rattle.analysis_laws.proofs.GroupParts.{under-any, under-apart}

-- ---- one case

by-answer : (case : Case) (a : Answer) → IsAnswered case a → IsRefuted (verdict_by case a)
by-answer case (answer.Yes by) h = tt
by-answer case (answer.No point) h = (no-known case (answer.No point) point h refl).refuted
by-answer case (answer.Limit limit) h = tt
by-answer case (answer.Bound at certs place point) h = absurd (false≢true (ap is_passed h.passes.passed))
by-answer case (answer.Unbounded place point ray) h = absurd (false≢true (ap is_passed h.passes.passed))
by-answer case (answer.Basis relations spots free) h = absurd (false≢true (ap is_passed h.passes.passed))

by-rows : (case : Case) (rows : List Row) → case.rows ≡ rows → AlwaysPassing IsRefuted (verdict_at case rows)
unfolding ◌>>=◌
by-rows case [] same = (empty-known case [] same refl).refuted
by-rows case (row ∷ rows) same = λ a good.
    let own : IsPassing (Infeasible case.rows) a = subst (λ rows. IsPassing (Infeasible rows) a) (sym same) good in
    by-answer case a record { passes = own.passes; is_true = own.is_true }

-- a second question tells no point of its own
after-refuted : (rows : List Row) (verdict : Verdict) → IsRefuted verdict → AlwaysPassing IsRefuted (verdict_after rows verdict)
unfolding ◌>>=◌
after-refuted [] verdict own = own
after-refuted (row ∷ rows) verdict own = λ a good. go (is_yes a)
  where
    go : (yes : Bool) → IsRefuted (proved_if yes verdict)
    go true = tt
    go false = own

second-refuted : (verdict : Verdict) → IsRefuted verdict → AlwaysPassing IsRefuted (second_verdict verdict)
unfolding second_verdict
second-refuted verdict own = after-refuted (second_rows verdict) verdict own

rule-refuted : (phases : Bool) (first : Posing Verdict) → AlwaysPassing IsRefuted first → AlwaysPassing IsRefuted (by_rule phases first)
rule-refuted true first h = under-bind IsPassing IsRefuted IsRefuted first second_verdict h (λ verdict own. second-refuted verdict own)
rule-refuted false first h = h

left-refuted : (rule : ℕ) (left : Option Case) → AlwaysPassing IsRefuted (verdict_left rule left)
left-refuted rule None = tt
left-refuted rule (Some case) = rule-refuted (has_phases rule) (verdict_at case case.rows) (by-rows case case.rows refl)

case-refuted : (rule : ℕ) (case : Case) → AlwaysPassing IsRefuted (case_verdict rule case)
unfolding case_verdict
case-refuted rule case = left-refuted rule (in_order case).left

-- ---- several cases

abbrev IsRefutedIf : Option Verdict → Type 0
IsRefutedIf None = Unit {0}
IsRefutedIf (Some verdict) = IsRefuted verdict

found-refuted : (test : Verdict → Bool) (verdicts : List Verdict) → AllByRecursion IsRefuted verdicts → IsRefutedIf (find test verdicts)
found-refuted test [] h = tt
found-refuted test (verdict ∷ verdicts) h = go (test verdict) (found-refuted test verdicts h.1)
  where
    go : (b : Bool) → IsRefutedIf (find test verdicts) → IsRefutedIf (cond b (Some verdict) (find test verdicts))
    go true more = h.0
    go false more = more

else-refuted : (first second : Option Verdict) → IsRefutedIf first → IsRefutedIf second → IsRefuted (else_by first second)
else-refuted (Some verdict) second h k = h
else-refuted None None h k = tt
else-refuted None (Some verdict) h k = k

next-refuted : (rule : ℕ) (case : Case) (rest : List Case) (made : List Verdict) → AllByRecursion IsRefuted made → AlwaysPassing (AllByRecursion IsRefuted) (with_verdict rule made case)
unfolding with_verdict
next-refuted rule case rest made h =
    under-bind IsPassing IsRefuted (AllByRecursion IsRefuted) (case_verdict rule case) (λ verdict. Done (made ++ verdict ∷ [])) (case-refuted rule case)
    (λ verdict own. each-append IsRefuted made (verdict ∷ []) h (own, tt))

cases-refuted : (rule : ℕ) (cases : List Case) → AlwaysPassing IsRefuted (verdict_on_cases_from rule cases)
unfolding verdict_on_cases_from
cases-refuted rule cases =
    under-bind IsPassing (AllByRecursion IsRefuted) IsRefuted (each (with_verdict rule) [] cases) (λ verdicts. Noted (limits_of verdicts) (Done (verdict_from verdicts)))
    (under-each IsPassing (λ rest made. AllByRecursion IsRefuted made) (with_verdict rule) [] cases (next-refuted rule) tt)
    (λ verdicts h. else-refuted (find is_refuted verdicts) (find is_limited verdicts) (found-refuted is_refuted verdicts h) (found-refuted is_limited verdicts h))

-- ---- assertions

verdict-refuted : (place : _) (cond : Term) (entry stand : Option Transition) → AlwaysPassing IsRefuted (verdict_of place cond entry stand)
unfolding verdict_of failure_verdict_from
verdict-refuted place cond entry stand =
    under-bind IsPassing (λ f. Unit {0}) IsRefuted (reach_from place _ _) (failure_verdict_from place cond) (under-any IsPassing (reach_from place _ _))
    (λ f any. cases-refuted place.full.rule (failing_of place cond f).cases)

judged-refuted : (at : TextPlace) (a : Option Asserted) → AlwaysPassing (λ (j : Judged). IsRefuted j.verdict) (judgement_of at a)
unfolding judgement_of
judged-refuted at None = tt
judged-refuted at (Some a) =
    under-bind IsPassing (λ made. IsRefuted made.0) (λ (j : Judged). IsRefuted j.verdict) (apart (verdict_of (place_of a.program a.p) a.cond a.entry a.stand)) _
    (under-apart IsPassing IsRefuted [] (verdict_of (place_of a.program a.p) a.cond a.entry a.stand) (verdict-refuted (place_of a.program a.p) a.cond a.entry a.stand)) (λ made own. own)

module _ (program : Program) (places : List TextPlace) where
  with-refuted : (entries : List (Option Transition)) (flows : List Flow) (n : ℕ) (rest : List ℕ) (made : List Judged) → AreRefuted made → AlwaysPassing AreRefuted (with_judged program places entries flows made n)
  unfolding with_judged
  with-refuted entries flows n rest made h =
      under-bind IsPassing (λ (j : Judged). IsRefuted j.verdict) AreRefuted (judgement_of (place_in places n) (numbered_assertion program entries flows n)) (λ judged. Done (made ++ judged ∷ []))
      (judged-refuted (place_in places n) (numbered_assertion program entries flows n)) (λ judged own. refuted-next made judged h own)

  all-refuted : (entries : List (Option Transition)) (flows : List Flow) → AlwaysPassing AreRefuted (judgements_on_all program places entries flows)
  unfolding judgements_on_all
  all-refuted entries flows =
      under-each IsPassing (λ rest made. AreRefuted made) (with_judged program places entries flows) [] (range_with_len 1 (length program.checks)) (with-refuted entries flows)
      (λ n j e. absurd (cc e))

  report-points : (found : Found) (entries : List (Option Transition)) (notes : List _) → AlwaysPassing PointsMeetRows (report_by program places found entries notes)
  unfolding report_by
  report-points found entries notes =
      under-bind IsPassing AreRefuted PointsMeetRows (judgements_on_all program places entries (flows_in found))
      (λ judged. Done record { procs = blocks_by program program.procs found.known found.notes; notes = notes; judged = judged })
      (all-refuted entries (flows_in found)) (λ judged h. h)

  ended-points : (found : Found) → AlwaysPassing PointsMeetRows (report_by_findings program places found)
  unfolding report_by_findings
  ended-points found =
      under-bind IsPassing (λ entries. Unit {0}) PointsMeetRows (apart (entries_from program (flows_in found))) (λ entries. report_by program places found entries.0 entries.1)
      (under-any IsPassing (apart (entries_from program (flows_in found)))) (λ entries any. report-points found entries.0 entries.1)

pub points-meet : ReportedPointsMeetRows
unfolding report_by_plan
points-meet program places plan =
    under-bind IsPassing (λ found. Unit {0}) PointsMeetRows (findings_by_plan program plan) (λ found. report_by_findings program places found) (under-any IsPassing (findings_by_plan program plan))
    (λ found any. ended-points program places found)
