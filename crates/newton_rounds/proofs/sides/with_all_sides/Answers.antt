use Rattle.std.proofs.Common.{◌<◌, ◌≤◌, ◌∙◌, length, map, sym, ap, subst, arith}
use Rattle.std.proofs.lemmas.List.{get_or-map, length-map}
use Rattle.posing.proofs.Following.{leads_none, loop_ends}
use Rattle.posing.proofs.Steps.{each_fails, each_next}
use Rattle.syntax_tree.specs.WellFormed.{width_of}
use Rattle.proc_summary.specs.Subject.{own_graph}
use Rattle.newton_rounds.specs.declared.calls.GroupCall.{GroupCall}
use Rattle.newton_rounds.specs.Closure.{with_sides}
use Rattle.newton_rounds.specs.Groups.{subject_in}
use Rattle.newton_rounds.specs.Shapes.{AddSides, plain_call}
use Rattle.newton_rounds.proofs.BothSides.{both-added, none-added}
use Rattle.newton_rounds.proofs.sides.with_all_sides.Goals as goal

pub loop-call-init : goal.loop-call-init
loop-call-init g c = record { leads = λ p is. leads_none _ _ _ _; fits = λ p is. none-added (width_of c.args.group.program.now p) c.args.made }

pub with_sides-requires-clause-node : goal.with_sides-requires-clause-node
with_sides-requires-clause-node g c = λ p is.
    subst (λ (call : GroupCall). call.to < (own_graph p).nodes) (sym c.call-item.is) (c.requires.nodes p is c.loop-call.call-index c.call-item.result c.loop-call-test.true)

pub returns-in_err-all-clause-follows : goal.returns-in_err-all-clause-follows
returns-in_err-all-clause-follows g c = λ p is.
    let calls = c.args.calls.now in
    let lt = c.loop-call-test.true in
    let long = length-map calls plain_call in
    each_fails (with_sides (subject_in c.args.group p) c.args.caller.starts.now) (map plain_call calls) c.loop-call.call-index (c.loop-call.invariant.leads p is) (omega (arith, long, lt))
    (ap plain_call c.call-item.is ∙ sym (get_or-map plain_call calls c.loop-call.call-index c.call-item.result (plain_call c.call-item.result) lt)) (c.in_err-all.ensures.follows p is) c.from_residual.ensures.1

pub loop-call-preserved : goal.loop-call-preserved
loop-call-preserved g c =
    let calls = c.args.calls.now in
    let lt = c.loop-call-test.true in
    let long = length-map calls plain_call in
    record {
      leads = λ p is.
          each_next (with_sides (subject_in c.args.group p) c.args.caller.starts.now) (map plain_call calls) c.loop-call.call-index (c.loop-call.invariant.leads p is) (omega (arith, long, lt))
          (ap plain_call c.call-item.is ∙ sym (get_or-map plain_call calls c.loop-call.call-index c.call-item.result (plain_call c.call-item.result) lt)) (c.in_ok-all.ensures.follows p is);
      fits = λ p is. both-added (width_of c.args.group.program.now p) c.loop-call.call-index 1 c.args.made c.loop-call.all c.in_ok-all.all (c.loop-call.invariant.fits p is) (c.in_ok-all.ensures.fits p is);
    }

pub returns-clause-follows : goal.returns-clause-follows
returns-clause-follows g c = λ p is.
    let long = length-map c.args.calls.now plain_call in
    let end = c.loop-call-test.false in
    let past : length (map plain_call c.args.calls.now) ≤ c.loop-call.call-index = omega (arith, long, end) in
    loop_ends _ _ _ _ _ _ _ _ _ _ (c.loop-call.invariant.leads p is) past

pub returns-clause-fits : goal.returns-clause-fits
returns-clause-fits g c = λ p is.
    let end = c.loop-call-test.false in
    let within = c.loop-call.auto.call-index-end in
    subst (λ n. AddSides (width_of c.args.group.program.now p) n c.args.made c.loop-call.all) (omega (arith, end, within)) (c.loop-call.invariant.fits p is)
