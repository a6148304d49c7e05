use Rattle.std.proofs.Common.{◌≡◌, [], ◌∷◌, ◌+◌, drop, get_or, length, sym, ap, subst, refl, arith, length-append}
use Rattle.std.proofs.lemmas.Option.{slice_get-get_or}
use Rattle.posing.specs.Follows.{Leads}
use Rattle.posing.specs.Posing.{each}
use Rattle.posing.proofs.Following.{leads_none}
use Rattle.posing.proofs.Steps.{all_left, error_first, first_left, in_other_words}
use Rattle.leaf_cases.specs.Summaries.{SummaryIsMet}
use Rattle.proc_summary.specs.Claims.{FlowHolds}
use Rattle.proc_summary.proofs.CratesBelow.{some_at}
use Rattle.newton_rounds.specs.Members.{members_of}
use Rattle.newton_rounds.proofs.ProcedureLoops.{members-next}
use Rattle.analysis.specs.declared.parts.GroupSummaries.{GroupSummaries}
use Rattle.analysis.specs.Claims.{EachOf, FitsAt, IsKnownAt}
use Rattle.analysis.specs.Parts.{plain_part, with_plain}
use Rattle.analysis.proofs.Puts.{each-next, each-none}
use Rattle.analysis.proofs.parts.plain_part.Goals as goal

pub loop-proc-init : goal.loop-proc-init
loop-proc-init g c =
    let program = c.args.program.now in
    let procs = c.args.procs.now in
    let formulas = c.new.ensures in
    let flows = c.new-2.ensures in
    let step = with_plain program c.args.known.now in
    let none : GroupSummaries = record { formulas = []; flows = [] } in
    let same : none ≡ record { formulas = c.new.result; flows = c.new-2.result } = λ i. record { formulas = sym formulas i; flows = sym flows i } in
    record {
      leads = subst (λ made. Leads g.O.Oracle.asking c.args.oracle.now c.args.oracle.now c.args.log.now c.args.log.now (each step none (members_of program procs)) (each step made (members_of program procs))) same (leads_none _ _ _ _);
      formulas = ap length formulas;
      flows = ap length flows;
      known = subst (EachOf (IsKnownAt program) procs) (sym formulas) (each-none (IsKnownAt program) procs);
      fit = subst (EachOf (FitsAt program) procs) (sym flows) (each-none (FitsAt program) procs);
      met = λ met. subst (EachOf (SummaryIsMet program) procs) (sym formulas) (each-none (SummaryIsMet program) procs);
      hold = λ met. subst (EachOf (FlowHolds program) procs) (sym flows) (each-none (FlowHolds program) procs);
    }

pub returns-in_err-made-clause-follows : goal.returns-in_err-made-clause-follows
unfolding plain_part
returns-in_err-made-clause-follows g c =
    let program = c.args.program.now in
    let procs = c.args.procs.now in
    let i = c.loop-proc.proc-index in
    let step = with_plain program c.args.known.now in
    let there = some_at program.procs (get_or procs i 0) (c.requires.there i 0 c.loop-proc-test.true) in
    all_left c.loop-proc.invariant.leads
    (in_other_words (ap (each step c.loop-proc.made) (sym (members-next program procs i 0 there.0 c.loop-proc-test.true there.1)))
    (error_first (λ next. each step next (members_of program (drop (i + 1) procs))) (c.in_err-made.ensures.follows there.0 there.1) refl c.from_residual.ensures.1))

pub loop-proc-preserved : goal.loop-proc-preserved
loop-proc-preserved g c =
    let program = c.args.program.now in
    let procs = c.args.procs.now in
    let i = c.loop-proc.proc-index in
    let proc = get_or procs i 0 in
    let made = c.loop-proc.made in
    let step = with_plain program c.args.known.now in
    let lt = c.loop-proc-test.true in
    let so_far = c.loop-proc.invariant in
    let there = some_at program.procs proc (c.requires.there i 0 lt) in
    let flow = c.in_ok-made.ensures.flow in
    let summary = c.in_ok-made.ensures.summary in
    let at = slice_get-get_or procs i 0 lt in
    let formulas = so_far.formulas in
    let flows = so_far.flows in
    let more_formulas = ap length summary.is in
    let more_flows = ap length flow.is in
    let both_formulas = length-append made.formulas (summary.formula ∷ []) in
    let both_flows = length-append made.flows (flow.flow ∷ []) in
    record {
      leads = first_left (λ next. each step next (members_of program (drop (i + 1) procs))) so_far.leads
          (ap (each step made) (members-next program procs i 0 there.0 lt there.1)) (c.in_ok-made.ensures.follows there.0 there.1) refl;
      formulas = omega (arith, formulas, more_formulas, both_formulas);
      flows = omega (arith, flows, more_flows, both_flows);
      known = subst (EachOf (IsKnownAt program) procs) (sym summary.is) (each-next (IsKnownAt program) procs made.formulas summary.formula i proc formulas at so_far.known summary.fits);
      fit = subst (EachOf (FitsAt program) procs) (sym flow.is) (each-next (FitsAt program) procs made.flows flow.flow i proc flows at so_far.fit flow.fits);
      met = λ met. subst (EachOf (SummaryIsMet program) procs) (sym summary.is) (each-next (SummaryIsMet program) procs made.formulas summary.formula i proc formulas at (so_far.met met) (summary.met met));
      hold = λ met. subst (EachOf (FlowHolds program) procs) (sym flow.is) (each-next (FlowHolds program) procs made.flows flow.flow i proc flows at (so_far.hold met) (flow.holds met));
    }

pub returns-clause-fits : goal.returns-clause-fits
returns-clause-fits g c =
    let so_far = c.loop-proc.invariant in
    let formulas = so_far.formulas in
    let flows = so_far.flows in
    let past = c.loop-proc-test.false in
    let end = c.loop-proc.auto.proc-index-end in
    record {
      known = record { each = omega (arith, formulas, past, end); fit = λ place proc p f at there is. so_far.known place proc f at is p there };
      fit = record { each = omega (arith, flows, past, end); fit = so_far.fit };
    }

pub returns-clause-met : goal.returns-clause-met
returns-clause-met g c = λ met. record { summaries = c.loop-proc.invariant.met met; hold = c.loop-proc.invariant.hold met }
