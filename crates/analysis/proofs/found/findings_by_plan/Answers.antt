use Rattle.std.proofs.Common.{◌∙◌, ◌∷◌, ◌+◌, drop, length, refl, sym, ap, subst}
use Rattle.std.proofs.lemmas.List.{drop_all, drop_more}
use Rattle.posing.specs.Follows.{Leads}
use Rattle.posing.specs.Posing.{each}
use Rattle.posing.proofs.Following.{leads_none, loop_ends, stops}
use Rattle.posing.proofs.Steps.{each_fails, each_next}
use Rattle.analysis.specs.Claims.{FitsFound, FoundIsMet, IsLeft}
use Rattle.analysis.specs.Found.{findings_by_plan, nothing_found, with_group}
use Rattle.analysis.proofs.GroupFindings.{left-all, left-next, left-ready, nothing-fits, nothing-left, nothing-met}
use Rattle.analysis.proofs.found.findings_by_plan.Goals as goal

pub loop-planned-init : goal.loop-planned-init
loop-planned-init g c =
    let program = c.args.program.now in
    let plan = c.args.plan.now in
    let same = sym (c.in_ok-found.ensures ∙ ap nothing_found c.len.ensures) in
    record {
      leads = subst (λ made. Leads g.O.Oracle.asking c.args.oracle.now c.args.oracle.now c.args.log.now c.args.log.now (each (with_group program) (nothing_found (length program.procs)) plan) (each (with_group program) made plan)) same (leads_none _ _ _ _);
      fits = subst (FitsFound program) same (nothing-fits program);
      met = subst (FoundIsMet program) same (nothing-met program);
      left = subst (λ made. IsLeft program made plan) same (nothing-left program plan c.requires.plan);
    }

pub returns-in_err-found-clause-follows : goal.returns-in_err-found-clause-follows
returns-in_err-found-clause-follows g c = stops _ _ _ _ _ _ refl c.from_residual.ensures.1

pub with_group-requires-clause-ready : goal.with_group-requires-clause-ready
with_group-requires-clause-ready g c =
    let program = c.args.program.now in
    let plan = c.args.plan.now in
    let i = c.loop-planned.planned-index in
    let planned = c.planned-item.result in
    let split = drop_more plan i planned c.loop-planned-test.true ∙ ap (λ p. p ∷ drop (i + 1) plan) (sym c.planned-item.is) in
    left-ready program c.loop-planned.found planned (drop (i + 1) plan) c.requires.formed (subst (IsLeft program c.loop-planned.found) split c.loop-planned.invariant.left)

pub returns-in_err-found-2-clause-follows : goal.returns-in_err-found-2-clause-follows
unfolding findings_by_plan
returns-in_err-found-2-clause-follows g c =
    each_fails (with_group c.args.program.now) c.args.plan.now c.loop-planned.planned-index c.loop-planned.invariant.leads c.loop-planned-test.true c.planned-item.is c.in_err-found-2.ensures.follows c.from_residual-in_err-found-2.ensures.1

pub loop-planned-preserved : goal.loop-planned-preserved
loop-planned-preserved g c =
    let program = c.args.program.now in
    let plan = c.args.plan.now in
    let i = c.loop-planned.planned-index in
    let planned = c.planned-item.result in
    let so_far = c.loop-planned.invariant in
    let next = c.in_ok-found-2.ensures in
    let split = drop_more plan i planned c.loop-planned-test.true ∙ ap (λ p. p ∷ drop (i + 1) plan) (sym c.planned-item.is) in
    record {
      leads = each_next (with_group program) plan i so_far.leads c.loop-planned-test.true c.planned-item.is next.follows;
      fits = next.fits;
      met = next.met so_far.met;
      left = left-next program c.loop-planned.found c.in_ok-found-2.found planned (drop (i + 1) plan) (subst (IsLeft program c.loop-planned.found) split so_far.left) (λ come has. next.has come has);
    }

pub returns-clause-follows : goal.returns-clause-follows
unfolding findings_by_plan
returns-clause-follows g c = loop_ends _ _ _ _ _ _ (with_group c.args.program.now) _ c.args.plan.now c.loop-planned.planned-index c.loop-planned.invariant.leads c.loop-planned-test.false

pub returns-clause-all : goal.returns-clause-all
returns-clause-all g c =
    left-all c.args.program.now c.loop-planned.found
    (subst (IsLeft c.args.program.now c.loop-planned.found) (drop_all c.loop-planned.planned-index c.args.plan.now c.loop-planned-test.false) c.loop-planned.invariant.left)
