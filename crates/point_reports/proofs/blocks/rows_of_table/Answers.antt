use Rattle.std.proofs.Common.{◌++◌, ◌∙◌, length, ap, arith}
use Rattle.point_reports.specs.Blocks.{rows_from, rows_of_table}
use Rattle.point_reports.proofs.ToldLists.{procs-end, procs-next, told-proc}
use Rattle.point_reports.proofs.blocks.rows_of_table.Goals as goal

pub loop-place-init : goal.loop-place-init
loop-place-init c = λ i. c.new-told.ensures i ++ rows_from c.args.program.now c.args.table.now 0 (c.as_slice-procs.ensures i)

pub bounds-heads-place : goal.bounds-heads-place
bounds-heads-place c =
    let each = c.requires.heads.each in
    let long = ap length c.as_slice-procs.ensures in
    let lt = c.loop-place-test.true in
    omega (arith, each, long, lt)

pub add_proc-requires : goal.add_proc-requires
add_proc-requires c =
    let own =
    told-proc c.args.program.now c.as_slice-procs.result.now c.args.heads.now c.loop-place.place c.index-procs-place.result c.index-heads-place.result c.requires.formed c.requires.heads c.as_slice-procs.ensures c.loop-place-test.true c.index-procs-place.is
    c.index-heads-place.is in
    record { params = own.params; heads = c.as_slice.ensures ∙ own.heads_are }

pub loop-place-preserved : goal.loop-place-preserved
loop-place-preserved c =
    procs-next c.args.program.now c.args.table.now c.as_slice-procs.result.now c.loop-place.place c.index-procs-place.result c.loop-place.told c.add_proc.new.told (rows_of_table c.args.program.now c.args.table.now) c.loop-place-test.true c.index-procs-place.is c.loop-place.invariant
    c.in_ok-add_proc.ensures

pub returns : goal.returns
returns c = procs-end c.args.program.now c.args.table.now c.as_slice-procs.result.now c.loop-place.place c.loop-place.told (rows_of_table c.args.program.now c.args.table.now) c.loop-place-test.false c.loop-place.invariant
