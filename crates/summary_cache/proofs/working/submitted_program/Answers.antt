use Rattle.std.proofs.Common.{◌≡◌, ℕ, List, [], ◌∷◌, IsTrue, refl, sym, ap, subst, ◌∙◌}
use Rattle.std.specs.Prelude.{Err, map}
use Rattle.c_lexer.specs.Laws.{ascends_from}
use Rattle.syntax_tree.specs.declared.program.Program.{Program}
use Rattle.syntax_tree.specs.WellFormed.{IsWellFormed}
use Rattle.analysis.specs.declared.places.TextPlace.{TextPlace}
use Rattle.analysis.specs.Plan.{IsPlan}
use Rattle.analysis.specs.Analysis.{report_by_findings}
use Rattle.analysis.proofs.Quiet.{ended-quiet}
use Rattle.kept_groups.specs.declared.over.FoundParts.{FoundParts}
use Rattle.summary_cache.specs.Counted.{counts_of}
use Rattle.summary_cache.specs.Rules.{with_rule}
use Rattle.summary_cache.specs.Stated.{text_place}
use Rattle.summary_cache.proofs.Statements.{IsAsked, end-fails, fails, groups-fail, in-groups, quiet-ended, submitted}
use Rattle.summary_cache.proofs.working.submitted_program.Goals as goal

-- the place of a byte is that byte
text-places : (text checks : List ℕ) → map (λ (at : TextPlace). at.at) (map (text_place text) checks) ≡ checks
text-places text [] = refl
text-places text (at ∷ checks) = ap (λ rest. at ∷ rest) (text-places text checks)

pub plan-requires : goal.plan-requires
plan-requires g c =
    subst IsWellFormed (sym c.with_rule-program.ensures)
    (c.rules_are_free.ensures c.args.program c.args.rule (c.accepted_is_well_formed.ensures c.args.text.now c.args.program c.requires.accepted) c.requires.rule)

pub places_of-requires-clause-ascend : goal.places_of-requires-clause-ascend
places_of-requires-clause-ascend g c =
    subst (λ checks. IsTrue (ascends_from 0 checks)) (sym c.as_slice.ensures)
    (subst (λ (p : Program). IsTrue (ascends_from 0 p.checks)) (sym c.with_rule-program.ensures)
    (c.assertions_ascend.ensures c.args.text.now c.args.program c.requires.accepted))

pub findings_over-requires-clause-formed : goal.findings_over-requires-clause-formed
findings_over-requires-clause-formed g c =
    subst IsWellFormed (sym c.with_rule-program.ensures)
    (c.rules_are_free.ensures c.args.program c.args.rule (c.accepted_is_well_formed.ensures c.args.text.now c.args.program c.requires.accepted) c.requires.rule)

pub report_by_findings-requires-clause-formed : goal.report_by_findings-requires-clause-formed
report_by_findings-requires-clause-formed g c =
    subst IsWellFormed (sym c.with_rule-program.ensures)
    (c.rules_are_free.ensures c.args.program c.args.rule (c.accepted_is_well_formed.ensures c.args.text.now c.args.program c.requires.accepted) c.requires.rule)

pub returns-in_err-found-clause-works : goal.returns-in_err-found-clause-works
returns-in_err-found-clause-works g c =
    let O = g.O.Oracle.asking in
    let rule = c.args.rule in
    let text = c.args.text.now in
    let program = c.args.program in
    let ruled = c.with_rule-program.result in
    let plan = c.in_ok-plan.plan in
    let places = c.in_ok-places.places in
    let before = c.args.before.now in
    let under : ruled ≡ with_rule rule program = c.with_rule-program.ensures in
    let checks : ruled.checks ≡ program.checks = ap (λ (p : Program). p.checks) under in
    let formed = c.rules_are_free.ensures program rule (c.accepted_is_well_formed.ensures text program c.requires.accepted) c.requires.rule in
    let asked : IsAsked rule text program ruled plan places =
    record {
      planned = record { accepted = c.requires.accepted; is_plan = subst (λ (p : Program). IsPlan p plan) under c.in_ok-plan.ensures };
      under = under;
      places_are = c.in_ok-places.ensures ∙ ap (map (text_place text)) (c.as_slice.ensures ∙ checks);
      formed = subst IsWellFormed (sym under) formed;
    } in
    let old = c.args.oracle.now in
    let new = c.findings_over.new.oracle in
    let from = c.args.steps.now in
    let to = c.findings_over.new.steps in
    let error = c.in_err-found.field-0.0 in
    let came = in-groups O rule before old new new text program ruled plan places asked c.requires.kept _ _ from to (Err error) c.groups_of-kept.ensures c.as_slice-2.ensures c.in_err-found.ensures.comes in
    fails O rule before old new new text program ruled plan places asked c.requires.kept error _ c.from_residual-in_err-found.ensures.1
    (groups-fail O rule before old new new text program ruled plan places asked c.requires.kept from to error came)

pub returns-in_err-report-clause-works : goal.returns-in_err-report-clause-works
returns-in_err-report-clause-works g c =
    let O = g.O.Oracle.asking in
    let rule = c.args.rule in
    let text = c.args.text.now in
    let program = c.args.program in
    let ruled = c.with_rule-program.result in
    let plan = c.in_ok-plan.plan in
    let places = c.as_slice-3.result.now in
    let before = c.args.before.now in
    let under : ruled ≡ with_rule rule program = c.with_rule-program.ensures in
    let checks : ruled.checks ≡ program.checks = ap (λ (p : Program). p.checks) under in
    let formed = c.rules_are_free.ensures program rule (c.accepted_is_well_formed.ensures text program c.requires.accepted) c.requires.rule in
    let asked : IsAsked rule text program ruled plan places =
    record {
      planned = record { accepted = c.requires.accepted; is_plan = subst (λ (p : Program). IsPlan p plan) under c.in_ok-plan.ensures };
      under = under;
      places_are = c.as_slice-3.ensures ∙ c.in_ok-places.ensures ∙ ap (map (text_place text)) (c.as_slice.ensures ∙ checks);
      formed = subst IsWellFormed (sym under) formed;
    } in
    let old = c.args.oracle.now in
    let mid = c.findings_over.new.oracle in
    let new = c.report_by_findings.new.oracle in
    let from = c.args.steps.now in
    let to = c.findings_over.new.steps in
    let made : FoundParts = c.in_ok-found.field-0 in
    let over = in-groups O rule before old mid new text program ruled plan places asked c.requires.kept _ _ from to _ c.groups_of-kept.ensures c.as_slice-2.ensures c.in_ok-found.ensures.comes in
    let error = c.in_err-report.field-0.0 in
    fails O rule before old mid new text program ruled plan places asked c.requires.kept error _ c.from_residual-in_err-report.ensures.1
    (end-fails O rule before old mid new text program ruled plan places asked c.requires.kept from to made over c.new-log.result c.report_by_findings.new.log c.new-log.ensures error c.in_err-report.ensures.follows)

pub returns-clause-works : goal.returns-clause-works
returns-clause-works g c =
    let O = g.O.Oracle.asking in
    let rule = c.args.rule in
    let text = c.args.text.now in
    let program = c.args.program in
    let ruled = c.with_rule-program.result in
    let plan = c.in_ok-plan.plan in
    let places = c.as_slice-3.result.now in
    let before = c.args.before.now in
    let report = c.in_ok-report.report in
    let under : ruled ≡ with_rule rule program = c.with_rule-program.ensures in
    let checks : ruled.checks ≡ program.checks = ap (λ (p : Program). p.checks) under in
    let formed = c.rules_are_free.ensures program rule (c.accepted_is_well_formed.ensures text program c.requires.accepted) c.requires.rule in
    let are = c.as_slice-3.ensures ∙ c.in_ok-places.ensures ∙ ap (map (text_place text)) (c.as_slice.ensures ∙ checks) in
    let asked : IsAsked rule text program ruled plan places =
    record {
      planned = record { accepted = c.requires.accepted; is_plan = subst (λ (p : Program). IsPlan p plan) under c.in_ok-plan.ensures };
      under = under;
      places_are = are;
      formed = subst IsWellFormed (sym under) formed;
    } in
    let theirs = ap (map (λ (at : TextPlace). at.at)) are ∙ text-places text program.checks ∙ sym checks in
    let old = c.args.oracle.now in
    let mid = c.findings_over.new.oracle in
    let new = c.report_by_findings.new.oracle in
    let from = c.args.steps.now in
    let to = c.findings_over.new.steps in
    let made : FoundParts = c.in_ok-found.field-0 in
    let whole = c.in_ok-found.ensures.whole in
    let over = in-groups O rule before old mid new text program ruled plan places asked c.requires.kept _ _ from to _ c.groups_of-kept.ensures c.as_slice-2.ensures c.in_ok-found.ensures.comes in
    let ended = quiet-ended O mid new c.new-log.result c.report_by_findings.new.log (report_by_findings ruled places made.found) c.new-log.ensures (ended-quiet ruled places made.found) report c.in_ok-report.ensures.follows in
    let counted = c.counts_of-counts.ensures ∙ ap (λ n. counts_of made.work n report) c.len.ensures in
    submitted O rule before old mid new text program ruled plan places asked c.requires.kept from to made over c.claims_know_no_rule.ensures report c.report_by_findings.new.log.answers _ _ ended
    (c.in_ok-report.ensures.met whole.met) (c.in_ok-report.ensures.covers theirs) c.in_ok-report.ensures.points refl counted
