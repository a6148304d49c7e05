use Rattle.std.proofs.Common.{◌≡◌, ◌∙◌, refl, sym, ap, subst}
use Rattle.std.specs.Prelude.{Some, map, slice_get}
use Rattle.posing.proofs.Steps.{at_end, error_first, in_other_words, value_first, value_has}
use Rattle.report.specs.declared.blocks.Judged.{Judged}
use Rattle.report.specs.declared.blocks.ProcBlock.{ProcBlock}
use Rattle.context.specs.Claims.{AreFlows, EntriesHold, FlowsHold}
use Rattle.context.specs.Entries.{entries_from}
use Rattle.analysis.specs.Analysis.{blocks_by, found_report}
use Rattle.analysis.specs.Apart.{apart}
use Rattle.analysis.specs.Judging.{judgements_on_all}
use Rattle.analysis.proofs.FoundReports.{report-fails, report-made}
use Rattle.analysis.proofs.ReportCover.{always-judged_by}
use Rattle.analysis.proofs.ReportParts.{blocks-all, blocks-fit, blocks-met, flows-are, flows-hold}
use Rattle.analysis.proofs.whole.found_report.Goals as goal

pub entries_apart-requires-clause-flows : goal.entries_apart-requires-clause-flows
entries_apart-requires-clause-flows g c =
    subst (AreFlows c.args.program.now) (sym (c.as_slice-3.ensures ∙ c.in_ok-flows.ensures)) (flows-are c.args.program.now c.args.found c.requires.found c.requires.all)

pub judgements_on_all-requires-clause-flows : goal.judgements_on_all-requires-clause-flows
judgements_on_all-requires-clause-flows g c =
    subst (AreFlows c.args.program.now) (sym (c.as_slice-5.ensures ∙ c.in_ok-flows.ensures)) (flows-are c.args.program.now c.args.found c.requires.found c.requires.all)

pub returns-in_err-judged-clause-follows : goal.returns-in_err-judged-clause-follows
unfolding found_report
returns-in_err-judged-clause-follows g c =
    let program = c.args.program.now in
    let made = c.as_slice-3.ensures ∙ c.in_ok-flows.ensures in
    let again = c.as_slice-5.ensures ∙ c.in_ok-flows.ensures in
    value_first _ c.in_ok-entries.ensures.follows (ap (λ flows. apart (entries_from program flows)) made)
    (error_first _ (report-fails program c.args.places.now c.args.found c.in_ok-entries.entries c.in_ok-entries.own
    (in_other_words (λ i. judgements_on_all program c.args.places.now (c.as_slice-4.ensures i) (again i)) c.in_err-judged.ensures.follows)) refl c.from_residual-in_err-judged.ensures.1)

pub returns-clause-follows : goal.returns-clause-follows
unfolding found_report
returns-clause-follows g c =
    let program = c.args.program.now in
    let made = c.as_slice-3.ensures ∙ c.in_ok-flows.ensures in
    let again = c.as_slice-5.ensures ∙ c.in_ok-flows.ensures in
    let procs = c.in_ok-procs.ensures ∙ (λ i. blocks_by program program.procs (c.as_slice.ensures i) (c.as_slice-2.ensures i)) in
    value_first _ c.in_ok-entries.ensures.follows (ap (λ flows. apart (entries_from program flows)) made)
    (value_first _ (report-made program c.args.places.now c.args.found c.in_ok-entries.entries c.in_ok-entries.own
    (in_other_words (λ i. judgements_on_all program c.args.places.now (c.as_slice-4.ensures i) (again i)) c.in_ok-judged.ensures.follows)) refl
    (at_end (λ i. record {
      report = record { procs = procs i; notes = c.in_ok-entries.own; judged = c.in_ok-judged.judged };
      known = c.args.found.known;
      flows = c.in_ok-flows.ensures i;
      entries = c.in_ok-entries.entries;
    })))

pub returns-clause-met : goal.returns-clause-met
returns-clause-met g c = λ met.
    let program = c.args.program.now in
    let found = c.args.found in
    let made = c.as_slice-3.ensures ∙ c.in_ok-flows.ensures in
    let again = c.as_slice-5.ensures ∙ c.in_ok-flows.ensures in
    let procs = c.in_ok-procs.ensures ∙ (λ i. blocks_by program program.procs (c.as_slice.ensures i) (c.as_slice-2.ensures i)) in
    let hold = flows-hold program found c.requires.found c.requires.all met in
    let enter = c.in_ok-entries.ensures.holds (subst (FlowsHold program) (sym made) hold) in
    record {
      summaries = λ proc block at. blocks-met program found c.requires.found c.requires.all met proc block (subst (λ blocks. slice_get blocks proc ≡ Some block) procs at);
      proved = λ n judged at. c.in_ok-judged.ensures.sound (subst (EntriesHold program) (sym c.as_slice-4.ensures) enter) (subst (FlowsHold program) (sym again) hold) n judged at;
    }

pub returns-clause-covers : goal.returns-clause-covers
returns-clause-covers g c = λ theirs.
    let program = c.args.program.now in
    let found = c.args.found in
    let procs = c.in_ok-procs.ensures ∙ (λ i. blocks_by program program.procs (c.as_slice.ensures i) (c.as_slice-2.ensures i)) in
    record {
      blocks = ap (map (λ (b : ProcBlock). b.name)) procs ∙ blocks-all program found c.requires.found c.requires.all;
      verdicts = value_has (λ made. map (λ (j : Judged). j.at) made ≡ program.checks) c.in_ok-judged.ensures.follows (always-judged_by program c.args.places.now _ _ theirs);
      fit = λ proc p block is at. blocks-fit program found c.requires.found c.requires.all proc p block is (subst (λ blocks. slice_get blocks proc ≡ Some block) procs at);
    }

pub returns-clause-fits : goal.returns-clause-fits
returns-clause-fits g c = record {
  known = c.requires.found.known;
  all = λ proc lt. let at = c.requires.all proc lt in (at.formula, at.known);
  flows = subst (AreFlows c.args.program.now) (sym c.in_ok-flows.ensures) (flows-are c.args.program.now c.args.found c.requires.found c.requires.all);
  entries = c.in_ok-entries.ensures.fits;
}

pub returns-clause-holds : goal.returns-clause-holds
returns-clause-holds g c = λ met.
    let program = c.args.program.now in
    let made = c.as_slice-3.ensures ∙ c.in_ok-flows.ensures in
    let hold = flows-hold program c.args.found c.requires.found c.requires.all met in
    record {
      summaries = met.summaries;
      flows = subst (FlowsHold program) (sym c.in_ok-flows.ensures) hold;
      entries = c.in_ok-entries.ensures.holds (subst (FlowsHold program) (sym made) hold);
    }
