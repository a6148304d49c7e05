use Rattle.std.proofs.Common.{◌<◌, ◌∙◌, [], List, length, get_or, sym, ap, subst}
use Rattle.std.specs.Prelude.{None}
use Rattle.linear_terms.specs.declared.row.Case.{Case}
use Rattle.farkas_check.specs.declared.answer.Limit.{Limit}
use Rattle.posing.specs.Follows.{Leads}
use Rattle.posing.specs.Posing.{each}
use Rattle.posing.proofs.Following.{leads_none}
use Rattle.posing.proofs.Steps.{each_fails, each_next, in_other_words}
use Rattle.newton_rounds.specs.Candidates.{with_case}
use Rattle.newton_rounds.specs.Shapes.{IsOverPairs}
use Rattle.newton_rounds.proofs.refuting.findings_over.Goals as goal

pub loop-case-init : goal.loop-case-init
loop-case-init g c =
    let f = c.args.f.now in
    let step = with_case f.from c.args.row.now in
    subst (λ (both : List Limit × List Case). Leads g.O.Oracle.asking c.args.oracle.now c.args.oracle.now c.args.log.now c.args.log.now (each step record { point = None; limits = [] } f.cases) (each step record { point = None; limits = both.0 } both.1))
    (λ i. (sym c.new.ensures i, sym c.cases-case-items.ensures.cases i)) (leads_none _ _ _ _)

pub with_case-requires : goal.with_case-requires
with_case-requires g c =
    let f = c.args.f.now in
    let i = c.loop-case.case-index in
    let same = c.case-item.is ∙ ap (λ cases. get_or cases i c.case-item.result) c.cases-case-items.ensures.cases in
    let lt = subst (λ (cases : List Case). i < length cases) c.cases-case-items.ensures.cases c.loop-case-test.true in
    subst (λ n. IsOverPairs n c.case-item.result c.args.row.now) (sym c.from.ensures)
    (subst (λ (case : Case). IsOverPairs f.from case c.args.row.now) (sym same) (c.requires.rows i c.case-item.result lt))

pub returns-in_err-found : goal.returns-in_err-found
returns-in_err-found g c =
    each_fails (with_case c.args.f.now.from c.args.row.now) c.cases-case-items.result.now c.loop-case.case-index c.loop-case.invariant c.loop-case-test.true c.case-item.is
    (in_other_words (ap (λ n. with_case n c.args.row.now c.loop-case.found c.case-item.result) c.from.ensures) c.in_err-found.ensures) c.from_residual.ensures.1

pub loop-case-preserved : goal.loop-case-preserved
loop-case-preserved g c =
    each_next (with_case c.args.f.now.from c.args.row.now) c.cases-case-items.result.now c.loop-case.case-index c.loop-case.invariant c.loop-case-test.true c.case-item.is
    (in_other_words (ap (λ n. with_case n c.args.row.now c.loop-case.found c.case-item.result) c.from.ensures) c.in_ok-found.ensures)
