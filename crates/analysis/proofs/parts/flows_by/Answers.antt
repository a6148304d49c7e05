use Rattle.std.proofs.Common.{[], ◌∷◌, ◌+◌, drop, get_or, length, sym, ap, subst, refl, arith, length-append}
use Rattle.std.proofs.lemmas.Option.{slice_get-get_or}
use Rattle.posing.specs.Follows.{Leads}
use Rattle.posing.specs.Posing.{each}
use Rattle.posing.proofs.Following.{leads_none}
use Rattle.posing.proofs.Steps.{all_left, error_first, first_left, in_other_words}
use Rattle.proc_summary.specs.Claims.{FlowHolds}
use Rattle.proc_summary.proofs.CratesBelow.{some_at}
use Rattle.newton_rounds.specs.Members.{members_of}
use Rattle.newton_rounds.proofs.ProcedureLoops.{members-next}
use Rattle.analysis.specs.Claims.{EachOf, FitsAt}
use Rattle.analysis.specs.Parts.{with_flow}
use Rattle.analysis.proofs.Puts.{each-next, each-none}
use Rattle.analysis.proofs.parts.flows_by.Goals as goal

pub loop-proc-init : goal.loop-proc-init
loop-proc-init g c =
    let program = c.args.program.now in
    let procs = c.args.procs.now in
    let none = sym c.new-flows.ensures in
    let whole = each (with_flow program c.args.known.now) [] (members_of program procs) in
    record {
      leads = subst (λ made. Leads g.O.Oracle.asking c.args.oracle.now c.args.oracle.now c.args.log.now c.args.log.now whole (each (with_flow program c.args.known.now) made (members_of program procs))) none (leads_none _ _ _ _);
      long = ap length c.new-flows.ensures;
      fit = subst (EachOf (FitsAt program) procs) none (each-none (FitsAt program) procs);
      hold = λ met. subst (EachOf (FlowHolds program) procs) none (each-none (FlowHolds program) procs);
    }

pub returns-in_err-flows-clause-follows : goal.returns-in_err-flows-clause-follows
returns-in_err-flows-clause-follows g c =
    let program = c.args.program.now in
    let procs = c.args.procs.now in
    let i = c.loop-proc.proc-index in
    let step = with_flow program c.args.known.now in
    let there = some_at program.procs (get_or procs i 0) (c.requires.there i 0 c.loop-proc-test.true) in
    all_left c.loop-proc.invariant.leads
    (in_other_words (ap (each step c.loop-proc.flows) (sym (members-next program procs i 0 there.0 c.loop-proc-test.true there.1)))
    (error_first (λ next. each step next (members_of program (drop (i + 1) procs))) (c.in_err-flows.ensures.follows there.0 there.1) refl c.from_residual.ensures.1))

pub loop-proc-preserved : goal.loop-proc-preserved
loop-proc-preserved g c =
    let program = c.args.program.now in
    let procs = c.args.procs.now in
    let i = c.loop-proc.proc-index in
    let made = c.loop-proc.flows in
    let step = with_flow program c.args.known.now in
    let lt = c.loop-proc-test.true in
    let there = some_at program.procs (get_or procs i 0) (c.requires.there i 0 lt) in
    let added = c.in_ok-flows.ensures.added in
    let at = slice_get-get_or procs i 0 lt in
    let long = c.loop-proc.invariant.long in
    let more = ap length added.is in
    let both = length-append made (added.flow ∷ []) in
    record {
      leads = first_left (λ next. each step next (members_of program (drop (i + 1) procs))) c.loop-proc.invariant.leads
          (ap (each step made) (members-next program procs i 0 there.0 lt there.1)) (c.in_ok-flows.ensures.follows there.0 there.1) refl;
      long = omega (arith, long, more, both);
      fit = subst (EachOf (FitsAt program) procs) (sym added.is) (each-next (FitsAt program) procs made added.flow i (get_or procs i 0) long at c.loop-proc.invariant.fit added.fits);
      hold = λ met. subst (EachOf (FlowHolds program) procs) (sym added.is) (each-next (FlowHolds program) procs made added.flow i (get_or procs i 0) long at (c.loop-proc.invariant.hold met) (added.holds met));
    }
