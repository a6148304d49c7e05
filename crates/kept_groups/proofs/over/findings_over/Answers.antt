use Rattle.std.proofs.Common.{◌∙◌, Err, ap, subst}
use Rattle.std.specs.Option.{option_copied}
use Rattle.kept_groups.specs.OneGroup.{Ends, IsOneMore, IsStuck, nothing_yet}
use Rattle.kept_groups.proofs.PlanLoop.{goes-begin, goes-next, goes-over, goes-ready, goes-stuck, goes-whole}
use Rattle.kept_groups.proofs.over.findings_over.Goals as goal

pub loop-planned-init : goal.loop-planned-init
loop-planned-init g c =
    goes-begin g.O.Oracle.asking (option_copied c.args.kept) c.args.program.now c.args.plan.now c.args.oracle.now c.args.steps.now c.in_ok-made.made (c.in_ok-made.ensures ∙ ap nothing_yet c.len.ensures)
    c.requires.plan

pub with_group-requires-clause-ready : goal.with_group-requires-clause-ready
with_group-requires-clause-ready g c =
    goes-ready g.O.Oracle.asking (option_copied c.args.kept) c.args.program.now c.args.plan.now c.args.oracle.now c.args.steps.now c.loop-planned.planned-index c.loop-planned.oracle c.loop-planned.steps c.loop-planned.made
    c.loop-planned.invariant c.planned-item.result c.loop-planned-test.true c.planned-item.is c.requires.formed

pub loop-planned-preserved : goal.loop-planned-preserved
loop-planned-preserved g c =
    let one = subst (λ kept. IsOneMore g.O.Oracle.asking kept c.args.program.now c.loop-planned.made c.planned-item.result c.loop-planned.oracle c.with_group.new.oracle c.loop-planned.steps c.with_group.new.steps c.in_ok-made-2.made)
    c.in_ok-earlier.ensures.same c.in_ok-made-2.ensures.is in
    goes-next g.O.Oracle.asking (option_copied c.args.kept) c.args.program.now c.args.plan.now c.args.oracle.now c.args.steps.now c.loop-planned.planned-index c.loop-planned.oracle c.loop-planned.steps c.loop-planned.made
    c.loop-planned.invariant c.planned-item.result c.loop-planned-test.true c.planned-item.is c.requires.formed c.requires.plan c.requires.kept c.with_group.new.oracle c.with_group.new.steps c.in_ok-made-2.made one

pub returns-in_err-made-2-clause-comes : goal.returns-in_err-made-2-clause-comes
returns-in_err-made-2-clause-comes g c =
    goes-stuck g.O.Oracle.asking (option_copied c.args.kept) c.args.program.now c.args.plan.now c.args.oracle.now c.args.steps.now c.loop-planned.planned-index c.loop-planned.oracle c.loop-planned.steps c.loop-planned.made
    c.loop-planned.invariant c.planned-item.result c.loop-planned-test.true c.planned-item.is c.requires.formed c.with_group.new.oracle c.with_group.new.steps _ c.from_residual-in_err-made-2.result
    (subst (λ kept. Ends g.O.Oracle.asking
    (IsOneMore g.O.Oracle.asking kept c.args.program.now c.loop-planned.made c.planned-item.result c.loop-planned.oracle c.with_group.new.oracle c.loop-planned.steps c.with_group.new.steps)
    (IsStuck g.O.Oracle.asking kept c.args.program.now c.loop-planned.made.found.known c.planned-item.result c.loop-planned.oracle c.with_group.new.oracle)
    c.loop-planned.oracle c.with_group.new.oracle (Err c.in_err-made-2.field-0.0)) c.in_ok-earlier.ensures.same c.in_err-made-2.ensures)
    c.from_residual-in_err-made-2.ensures.1

pub returns-clause-comes : goal.returns-clause-comes
returns-clause-comes g c =
    goes-over g.O.Oracle.asking (option_copied c.args.kept) c.args.program.now c.args.plan.now c.args.oracle.now c.args.steps.now c.loop-planned.planned-index c.loop-planned.oracle c.loop-planned.steps c.loop-planned.made
    c.loop-planned.invariant c.loop-planned-test.false

pub returns-clause-whole : goal.returns-clause-whole
returns-clause-whole g c =
    goes-whole g.O.Oracle.asking (option_copied c.args.kept) c.args.program.now c.args.plan.now c.args.oracle.now c.args.steps.now c.loop-planned.planned-index c.loop-planned.oracle c.loop-planned.steps c.loop-planned.made
    c.loop-planned.invariant c.loop-planned-test.false
